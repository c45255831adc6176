-- Zeros, and the address over them.
-- Assumes nothing.
use Rattle.by_plan.proofs.Ends.{return_none, return_address_lem}
use Rattle.by_plan.proofs.returned.blank_return.Goals as goal

pub returns-then-memory : goal.returns-then-memory
returns-then-memory c = rw c.if-memory.true (return_address_lem c.args.hidden c.args.image.now _ _ c.requires c.clear.ensures c.put_address.ensures)

pub returns-else-memory : goal.returns-else-memory
returns-else-memory c = rw c.if-memory.false (return_none c.args.hidden c.args.image.now _ c.requires c.clear.ensures)
