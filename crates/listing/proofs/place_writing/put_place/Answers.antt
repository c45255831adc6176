-- One register behind the other. Assumes nothing.
use Rattle.listing.proofs.Puts.{puts_join}
use Rattle.listing.proofs.place_writing.put_place.Goals as goal

pub returns-in-Two : goal.returns-in-Two
returns-in-Two c = rw c.in-Two.is (puts_join c.put_register-in-Two.ensures c.put_register-in-Two-2.ensures)
