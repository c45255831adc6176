-- One list after another.
-- Assumes nothing.
use mathlib.Core.Path.{◌≡◌}
use mathlib.Core.Bool.{not}
use native.Mathlib.Omega.{arith}
use lib.Dec.{eqb}
use lib.ListN.{length}
use Rattle.by_plan.specs.Lists.{pairs_of, triples_of}
use Rattle.by_plan.proofs.Lists.{three-fits, three-moved}
use Rattle.by_plan.proofs.moves.move_all.Goals as goal

pub move_pairs-requires : goal.move_pairs-requires
move_pairs-requires g c = (three-fits (not (eqb g.row.TURNED 0)) (pairs_of 8 c.args.lists.eights.now) (pairs_of 4 c.args.lists.fours.now) (triples_of c.args.lists.parts.now) (length c.args.src.now) (length c.args.dst.now) c.requires).0

pub move_pairs-requires-2 : goal.move_pairs-requires-2
move_pairs-requires-2 g c =
    let e : length c.move_pairs.new.dst ≡ length c.args.dst.now = omega arith in
    rw e (three-fits (not (eqb g.row.TURNED 0)) (pairs_of 8 c.args.lists.eights.now) (pairs_of 4 c.args.lists.fours.now) (triples_of c.args.lists.parts.now) (length c.args.src.now) (length c.args.dst.now) c.requires).1.0

pub move_parts-requires : goal.move_parts-requires
move_parts-requires g c =
    let e : length c.move_pairs-2.new.dst ≡ length c.args.dst.now = omega arith in
    rw e (three-fits (not (eqb g.row.TURNED 0)) (pairs_of 8 c.args.lists.eights.now) (pairs_of 4 c.args.lists.fours.now) (triples_of c.args.lists.parts.now) (length c.args.src.now) (length c.args.dst.now) c.requires).1.1

pub returns : goal.returns
returns g c = three-moved (not (eqb g.row.TURNED 0)) (pairs_of 8 c.args.lists.eights.now) (pairs_of 4 c.args.lists.fours.now) (triples_of c.args.lists.parts.now) _ _ _ _ _ c.move_pairs.ensures c.move_pairs-2.ensures c.move_parts.ensures
