use mathlib.Core.Path.{◌≡◌, refl}
use native.Mathlib.Omega.{arith}
use lib.ListN.{length-set}
use Rattle.addresses.proofs.Copies.{cleared-next, cleared-all}
use Rattle.by_plan.proofs.Copying.{again-zeros, cleared-same}
use Rattle.by_plan.proofs.placing.clear_image.Goals as goal

pub loop-k-2-init : goal.loop-k-2-init
loop-k-2-init c = let e : c.loop-k.k ≡ 304 = omega arith in (refl, again-zeros 304 c.args.image.now _ (rw e at c.loop-k.invariant.1))

pub loop-k-2-preserved : goal.loop-k-2-preserved
loop-k-2-preserved c = (simp length-set (omega arith), cleared-next _ _ _ (omega arith) c.loop-k-2.invariant.1)

pub returns : goal.returns
returns c = cleared-same _ _ _ c.loop-k.invariant.0 (cleared-all _ _ c.loop-k-2.k (omega arith) c.loop-k-2.invariant.1)
