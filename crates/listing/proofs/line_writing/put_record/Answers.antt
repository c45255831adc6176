-- The words and numbers of a record's line, in order. Assumes nothing.
use Rattle.listing.specs.Listing.{record_line}
use Rattle.listing.proofs.Puts.{puts_join}
use Rattle.listing.proofs.line_writing.put_record.Goals as goal

pub returns : goal.returns
unfolding record_line
returns c =
    rw (← c.from.ensures)
    (puts_join (puts_join (puts_join (puts_join (puts_join (puts_join (puts_join c.put_number.ensures c.put_number-2.ensures) c.put_number-3.ensures) c.put_number-4.ensures) c.put_place.ensures) c.put_number-5.ensures) c.put_mark.ensures) c.put.ensures)
