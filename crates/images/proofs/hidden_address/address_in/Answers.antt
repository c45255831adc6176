-- The eight bytes of rdi, read.
-- Assumes nothing.
use Rattle.images.proofs.Words.{read-address}
use Rattle.images.proofs.hidden_address.address_in.Goals as goal

pub returns : goal.returns
returns c = read-address c.args.registers.now _ c.copy_from_slice.ensures.after _ c.from_le_bytes.ensures
