-- By the kind.
-- Assumes nothing.
use Rattle.planning.proofs.Writing.{kind-eights, kind-fours, kind-parts, wrote_as, room_as}
use Rattle.planning.proofs.lists.put_kind.Goals as goal

pub put_eights-requires : goal.put_eights-requires
put_eights-requires c = (room_as _ _ c.args.at _ (kind-eights c.args.source c.args.target c.args.bytes c.args.kind c.in-Eights.is) c.requires.0, c.requires.1)

pub returns-in-Eights : goal.returns-in-Eights
returns-in-Eights c = wrote_as c.args.plan.now _ _ _ c.args.at _ (kind-eights c.args.source c.args.target c.args.bytes c.args.kind c.in-Eights.is) c.put_eights.ensures

pub put_four-requires : goal.put_four-requires
put_four-requires c = (room_as _ _ c.args.at _ (kind-fours c.args.source c.args.target c.args.bytes c.args.kind c.in-Fours.is) c.requires.0, c.requires.1)

pub returns-in-Fours : goal.returns-in-Fours
returns-in-Fours c = wrote_as c.args.plan.now _ _ _ c.args.at _ (kind-fours c.args.source c.args.target c.args.bytes c.args.kind c.in-Fours.is) c.put_four.ensures

pub put_part-requires : goal.put_part-requires
put_part-requires c = (room_as _ _ c.args.at _ (kind-parts c.args.source c.args.target c.args.bytes c.args.kind c.in-Parts.is) c.requires.0, c.requires.1)

pub returns-in-Parts : goal.returns-in-Parts
returns-in-Parts c = wrote_as c.args.plan.now _ _ _ c.args.at _ (kind-parts c.args.source c.args.target c.args.bytes c.args.kind c.in-Parts.is) c.put_part.ensures
