use Rattle.addresses.proofs.Copies.{copied_none, copied_next}
use Rattle.addresses.proofs.copy.Goals as goal

pub loop-done-init : goal.loop-done-init
loop-done-init c = copied_none _ _ _ _

pub loop-done-preserved : goal.loop-done-preserved
loop-done-preserved c = copied_next _ _ _ _ _ _ c.loop-done.invariant
