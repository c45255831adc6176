-- The eight bytes of rdi, written.
-- Assumes nothing.
use mathlib.Core.Path.{◌∙◌}
use Rattle.images.proofs.Words.{written-address}
use Rattle.images.proofs.hidden_address.put_address.Goals as goal

pub returns : goal.returns
returns c = written-address c.args.registers.now c.args.address c.ranges.address.fits c.requires _ (c.copy_from_slice.ensures.after ∙ c.to_le_bytes.ensures)
