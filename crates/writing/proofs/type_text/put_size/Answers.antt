-- The number stands between. Assumes nothing.
use native.Mathlib.Omega.{arith}
use Rattle.listing.proofs.Puts.{puts_join, puts_more}
use Rattle.writing.proofs.type_text.put_size.Goals as goal

pub returns : goal.returns
returns c = puts_more (puts_join c.put.ensures (puts_join c.put_decimal.ensures c.put-2.ensures)) (omega arith)
