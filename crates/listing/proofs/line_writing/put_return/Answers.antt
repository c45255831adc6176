-- The words of the return line, in order. Assumes nothing.
use Rattle.listing.specs.Listing.{return_line}
use Rattle.listing.proofs.Puts.{puts_join}
use Rattle.listing.proofs.line_writing.put_return.Goals as goal

pub returns : goal.returns
unfolding return_line
returns c = puts_join (puts_join (puts_join c.put.ensures c.put_type.ensures) c.put_return_place.ensures) c.put-2.ensures
