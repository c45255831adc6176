-- The words and numbers of the first line, in order. Assumes nothing.
use Rattle.listing.specs.Listing.{head_line}
use Rattle.listing.proofs.Puts.{puts_join}
use Rattle.listing.proofs.line_writing.put_head.Goals as goal

pub returns : goal.returns
unfolding head_line
returns c =
    puts_join (puts_join (puts_join (puts_join (puts_join c.put_number.ensures c.put_number-2.ensures) c.put_number-3.ensures) c.put_number-4.ensures) c.put_number-5.ensures) c.put.ensures
