-- The digits stand behind the word. Assumes nothing.
use native.Mathlib.Omega.{arith}
use Rattle.listing.proofs.Puts.{puts_join, puts_behind}
use Rattle.listing.proofs.Decimal.{decimal-short, puts_five}
use Rattle.listing.proofs.texts.Text.put_number.Goals as goal

pub put_decimal-requires : goal.put_decimal-requires
put_decimal-requires c = omega (arith, puts_behind c.put.ensures, decimal-short 4 c.args.n c.requires.1)

pub returns : goal.returns
returns c = puts_join c.put.ensures (puts_five c.args.n c.requires.1 c.put_decimal.ensures)
