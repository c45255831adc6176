-- Of eight bytes, of sixteen, or none.
-- Assumes nothing.
use mathlib.Core.List.{[], ◌∷◌}
use Prim.Native.Nat.{◌+◌}
use native.Mathlib.Omega.{arith}
use Rattle.planning.proofs.Writing.{eights-eight, eights-sixteen, eights-none, wrote_as, wrote_none, wrote_both, room_as}
use Rattle.planning.proofs.lists.put_eights.Goals as goal

pub put_two-requires : goal.put_two-requires
put_two-requires c = (room_as (c.args.source ∷ c.args.target ∷ []) _ c.args.at _ (eights-eight c.args.source c.args.target c.args.bytes c.if-bytes-eq8.true) c.requires.0, omega (arith, c.requires.1.source), omega (arith, c.requires.1.target))

pub returns-then-bytes-eq8 : goal.returns-then-bytes-eq8
returns-then-bytes-eq8 c = wrote_as c.args.plan.now _ (c.args.source ∷ c.args.target ∷ []) _ c.args.at _ (eights-eight c.args.source c.args.target c.args.bytes c.if-bytes-eq8.true) c.put_two.ensures

pub returns-then-bytes-ne16 : goal.returns-then-bytes-ne16
returns-then-bytes-ne16 c = wrote_none c.args.plan.now _ c.args.at (eights-none c.args.source c.args.target c.args.bytes c.if-bytes-eq8.false c.if-bytes-ne16.true)

pub put_two-behind-requires : goal.put_two-behind-requires
put_two-behind-requires c = (omega (arith, room_as (c.args.source ∷ c.args.target ∷ (c.args.source + 8) ∷ (c.args.target + 8) ∷ []) _ c.args.at _ (eights-sixteen c.args.source c.args.target c.args.bytes c.if-bytes-ne16.false) c.requires.0), omega (arith, c.requires.1.source), omega (arith, c.requires.1.target))

pub put_two-requires-2 : goal.put_two-requires-2
put_two-requires-2 c = (omega (arith, room_as (c.args.source ∷ c.args.target ∷ (c.args.source + 8) ∷ (c.args.target + 8) ∷ []) _ c.args.at _ (eights-sixteen c.args.source c.args.target c.args.bytes c.if-bytes-ne16.false) c.requires.0, c.put_two-behind.ensures.1), omega (arith, c.requires.1.source, c.if-bytes-ne16.false), omega (arith, c.requires.1.target, c.if-bytes-ne16.false))

pub returns : goal.returns
returns c = wrote_both c.args.plan.now _ _ (c.args.source ∷ c.args.target ∷ []) ((c.args.source + 8) ∷ (c.args.target + 8) ∷ []) _ c.args.at _ _ (eights-sixteen c.args.source c.args.target c.args.bytes c.if-bytes-ne16.false) c.put_two-behind.ensures.0 c.put_two-behind.ensures.1 c.put_two-2.ensures.0 c.put_two-2.ensures.1
