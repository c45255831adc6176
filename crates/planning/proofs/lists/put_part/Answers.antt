-- Any other length.
-- Assumes nothing.
use mathlib.Core.List.{[], ◌∷◌}
use native.Mathlib.Omega.{arith}
use Rattle.planning.proofs.Writing.{parts-eight, parts-sixteen, parts-four, parts-one, wrote_as, wrote_none, room_as}
use Rattle.planning.proofs.lists.put_part.Goals as goal

pub returns-then-bytes-eq8 : goal.returns-then-bytes-eq8
returns-then-bytes-eq8 c = wrote_none c.args.plan.now _ c.args.at (parts-eight c.args.source c.args.target c.args.bytes c.if-bytes-eq8.true)

pub returns-then-bytes-eq16 : goal.returns-then-bytes-eq16
returns-then-bytes-eq16 c = wrote_none c.args.plan.now _ c.args.at (parts-sixteen c.args.source c.args.target c.args.bytes c.if-bytes-eq16.true)

pub returns-then-bytes-eq4 : goal.returns-then-bytes-eq4
returns-then-bytes-eq4 c = wrote_none c.args.plan.now _ c.args.at (parts-four c.args.source c.args.target c.args.bytes c.if-bytes-eq4.true)

pub put_three-requires : goal.put_three-requires
put_three-requires c = (room_as (c.args.source ∷ c.args.target ∷ c.args.bytes ∷ []) _ c.args.at _ (parts-one c.args.source c.args.target c.args.bytes c.if-bytes-eq8.false c.if-bytes-eq16.false c.if-bytes-eq4.false) c.requires.0, omega (arith, c.requires.1.source), omega (arith, c.requires.1.target), omega (arith, c.requires.1.source))

pub returns : goal.returns
returns c = wrote_as c.args.plan.now _ (c.args.source ∷ c.args.target ∷ c.args.bytes ∷ []) _ c.args.at _ (parts-one c.args.source c.args.target c.args.bytes c.if-bytes-eq8.false c.if-bytes-eq16.false c.if-bytes-eq4.false) c.put_three.ensures
