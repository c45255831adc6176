-- The half and the whole stand behind the register. Assumes nothing.
use Rattle.listing.proofs.Puts.{puts_join}
use Rattle.listing.proofs.place_writing.put_register.Goals as goal

pub returns-in-Upper : goal.returns-in-Upper
returns-in-Upper c = rw c.in-Upper.is (puts_join c.put_vector-in-Upper.ensures c.put.ensures)

pub returns-in-Wide : goal.returns-in-Wide
returns-in-Wide c = rw c.in-Wide.is (puts_join c.put_vector-in-Wide.ensures c.put-in-Wide.ensures)
