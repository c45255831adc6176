-- 255 is void, and has no type. Assumes nothing.
use native.Mathlib.Omega.{arith}
use borrow.Author.Tests.{eq-eqb}
use Rattle.listing.proofs.Puts.{puts_none, puts_more}
use Rattle.listing.proofs.line_writing.put_type.Goals as goal

pub returns-else-k-ne255 : goal.returns-else-k-ne255
returns-else-k-ne255 c = rw (eq-eqb c.args.k 255 c.if-k-ne255.false) (puts_more (puts_none c.args.text.now) (omega arith))
