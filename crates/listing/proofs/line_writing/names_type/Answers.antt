-- 6 and 7 name a type. Assumes nothing.
use borrow.Author.Tests.{eq-eqb, ne_eqb}
use Rattle.listing.specs.Listing.{names_type}
use Rattle.listing.proofs.line_writing.names_type.Goals as goal

pub returns-then-number-eq6 : goal.returns-then-number-eq6
unfolding names_type
returns-then-number-eq6 c = rw (eq-eqb _ _ c.if-number-eq6.true)

pub returns-else-number-eq6 : goal.returns-else-number-eq6
unfolding names_type
returns-else-number-eq6 c = rw (ne_eqb _ _ c.if-number-eq6.false)
