-- Zeros, and the address over them.
-- Assumes nothing.
use Rattle.by_plan.proofs.Ends.{blank-no, blank-yes}
use Rattle.by_plan.proofs.placing.blank_image.Goals as goal

pub returns-then-used : goal.returns-then-used
returns-then-used c = rw c.if-used.true (blank-yes _ _ _ _ c.requires c.clear_image.ensures c.put_address.ensures)

pub returns-else-used : goal.returns-else-used
returns-else-used c = rw c.if-used.false (blank-no _ _ _ c.requires c.clear_image.ensures)
