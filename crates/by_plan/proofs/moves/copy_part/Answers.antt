-- The eights, then the rest.
-- Assumes nothing.
use mathlib.Core.Path.{refl}
use native.Mathlib.Omega.{arith}
use Rattle.addresses.proofs.Copies.{copied_none}
use Rattle.by_plan.proofs.Copying.{copied_more, last}
use Rattle.by_plan.proofs.moves.copy_part.Goals as goal

pub loop-k-init : goal.loop-k-init
loop-k-init c = (refl, copied_none _ _ _ _)

pub loop-k-preserved : goal.loop-k-preserved
loop-k-preserved c = (omega arith, copied_more _ _ _ _ _ 8 _ _ _ c.loop-k.invariant.1 c.copy_word.ensures (omega arith))

pub returns-then-rest-eq4 : goal.returns-then-rest-eq4
returns-then-rest-eq4 c = copied_more _ _ _ _ _ 4 _ _ _ c.loop-k.invariant.1 (rw (last c.args.count c.loop-k.k (omega arith)) at c.copy_word-then-rest-eq4.ensures) (omega arith)

pub returns-else-rest-eq4 : goal.returns-else-rest-eq4
returns-else-rest-eq4 c = copied_more _ _ _ _ _ _ _ _ _ c.loop-k.invariant.1 (rw (last c.args.count c.loop-k.k (omega arith)) at c.copy.ensures) (omega arith)
