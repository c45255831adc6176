-- `blank_images` meets its contract.
-- Assumes nothing.
use Rattle.returning.proofs.Moves.{blank_none, blank-address}
use Rattle.returning.proofs.return_image.blank_images.Goals as goal

pub returns-then-memory : goal.returns-then-memory
returns-then-memory c = rw c.if-memory.true (blank-address _ _ _ _ _ c.requires.0 c.requires.1 c.clear.ensures c.clear-2.ensures _ c.put_address.ensures)

pub returns-else-memory : goal.returns-else-memory
returns-else-memory c = rw c.if-memory.false (blank_none _ _ _ _ _ c.requires.0 c.requires.1 c.clear.ensures c.clear-2.ensures)
