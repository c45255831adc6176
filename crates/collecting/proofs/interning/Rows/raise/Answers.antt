-- The arrays of the sizes from i on are completed. Assumes nothing.
use Prim.Native.Nat.{◌-◌}
use native.Mathlib.Omega.{arith}
use Rattle.collecting.proofs.Adding.{raise-on, raise-start, raise-end, raise-stays}
use Rattle.collecting.proofs.interning.Rows.raise.Goals as goal

pub loop-i-init : goal.loop-i-init
loop-i-init c = (raise-start _ c.args.number c.args.sizes.now, c.requires, omega arith)

pub returns-in_err-element : goal.returns-in_err-element
returns-in_err-element c = rw c.from_residual.ensures (raise-stays c.args.sizes.now (c.loop-i.i - 1) _ _ (raise-on c.args.sizes.now c.loop-i.i c.loop-i-test.true c.loop-i.invariant.2 _ _ _ c.loop-i.invariant.0 _ c.in_err-element.ensures.kept))

pub loop-i-preserved : goal.loop-i-preserved
loop-i-preserved c = (raise-on c.args.sizes.now c.loop-i.i c.loop-i-test.true c.loop-i.invariant.2 _ _ _ c.loop-i.invariant.0 _ c.in_ok-element.ensures.kept, omega (arith, c.in_ok-element.ensures.low), omega arith)

pub returns : goal.returns
returns c = raise-end c.args.sizes.now c.loop-i.i _ _ (omega arith) c.loop-i.invariant.0
