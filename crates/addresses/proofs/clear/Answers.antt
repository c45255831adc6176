use native.Mathlib.Omega.{arith}
use Rattle.addresses.proofs.Copies.{cleared-next, cleared-all}
use Rattle.addresses.proofs.clear.Goals as goal

pub loop-done-preserved : goal.loop-done-preserved
loop-done-preserved c = cleared-next _ _ _ (omega arith) c.loop-done.invariant

pub returns : goal.returns
returns c = cleared-all _ _ c.loop-done.done (omega arith) c.loop-done.invariant
