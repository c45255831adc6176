-- The last one longer, or one more.
-- Assumes nothing.
use mathlib.Core.Path.{sym, ap, ◌∙◌}
use Prim.Native.Nat.{ℕ, ◌+◌}
use native.Mathlib.Omega.{arith}
use lib.ListN.{length-set}
use Rattle.planning.proofs.Joins.{join_on, join_new}
use Rattle.planning.proofs.joining.join.Goals as goal

pub overflow_sub-last : goal.overflow_sub-last
overflow_sub-last c = omega (arith, (c.goes_on.ensures.1 c.if-goes_on.true).0)

pub overflow_cast-moves : goal.overflow_cast-moves
overflow_cast-moves c = omega (arith, (c.goes_on.ensures.1 c.if-goes_on.true).1, c.number_at.ensures.0, c.requires.2.source)

pub returns-then-goes_on : goal.returns-then-goes_on
returns-then-goes_on c = (join_on _ _ _ _ _ (omega (arith, c.requires.0)) (c.goes_on.ensures.1 c.if-goes_on.true).0 (sym c.goes_on.ensures.0 ∙ c.if-goes_on.true) _ (ap (λ (n : ℕ). n + c.args.bytes) c.number_at.ensures.0), omega arith)

pub bounds-moves-next-2 : goal.bounds-moves-next-2
bounds-moves-next-2 c = simp length-set (omega (arith, c.requires.0))

pub bounds-moves-next-3 : goal.bounds-moves-next-3
bounds-moves-next-3 c = simp length-set (omega (arith, c.requires.0))

pub returns : goal.returns
returns c = (join_new _ _ _ _ _ c.requires.0 (sym (sym c.goes_on.ensures.0 ∙ c.if-goes_on.false)), omega arith)
