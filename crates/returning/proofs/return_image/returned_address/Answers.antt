-- `returned_address` meets its contract.
-- Assumes nothing.
use mathlib.Core.Path.{sym, ◌∙◌}
use Rattle.returning.specs.Image.{returned_address}
use Rattle.images.specs.Words.{address_in}
use Rattle.returning.proofs.return_image.returned_address.Goals as goal

pub returns-else-in_memory : goal.returns-else-in_memory
unfolding returned_address
returns-else-in_memory c = rw (sym c.in_memory.ensures ∙ c.if-in_memory.false)

pub returns-then-in_memory : goal.returns-then-in_memory
unfolding returned_address address_in
returns-then-in_memory c = rw (sym c.in_memory.ensures ∙ c.if-in_memory.true) c.address_in.ensures
