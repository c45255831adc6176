-- The two lengths, and nothing else.
-- Assumes nothing.
use borrow.Author.Tests.{eq-eqb, ne_eqb}
use lib.ListN.{length}
use Rattle.std.proofs.Common.{rules}
use Rattle.station.specs.Attachment.{wrong_seat}
use Rattle.station.proofs.wrong_seat.Goals as goal

pub returns-then-seat-ne586 : goal.returns-then-seat-ne586
unfolding wrong_seat
returns-then-seat-ne586 c = rw (ne_eqb (length c.args.seat.now) 586 c.if-seat-ne586.true)

pub returns-else-seat-ne586 : goal.returns-else-seat-ne586
unfolding wrong_seat
returns-else-seat-ne586 c = rw (eq-eqb (length c.args.seat.now) 586 c.if-seat-ne586.false) (search rules)
