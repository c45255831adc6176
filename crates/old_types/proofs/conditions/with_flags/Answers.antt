-- `with_flags` meets its contract.
-- Assumes nothing.
use borrow.Author.Tests.{lt-ltb, le-ltb}
use Rattle.old_types.proofs.conditions.with_flags.Goals as goal

pub returns-then-d-gt1 : goal.returns-then-d-gt1
returns-then-d-gt1 c = rw (lt-ltb 1 _ c.if-d-gt1.true, c.from.ensures)

pub returns : goal.returns
returns c = rw (le-ltb 1 _ c.if-d-gt1.false)
