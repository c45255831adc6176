-- `blank_images` meets its contract.
-- Assumes nothing.
use Rattle.moving.proofs.Blanks.{blank-unused, blank-used}
use Rattle.moving.proofs.filling.blank_images.Goals as goal

pub returns-then-used : goal.returns-then-used
returns-then-used c = rw c.if-used.true (blank-used _ _ _ _ _ _ _ c.requires.0 c.requires.1 c.clear.ensures c.clear-2.ensures c.clear-3.ensures _ c.put_address.ensures)

pub returns-else-used : goal.returns-else-used
returns-else-used c = rw c.if-used.false (blank-unused _ _ _ _ _ _ _ c.requires.0 c.requires.1 c.clear.ensures c.clear-2.ensures c.clear-3.ensures)
