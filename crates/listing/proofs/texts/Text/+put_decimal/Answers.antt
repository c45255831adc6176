-- The digits of a tenth of the number, then its last digit. Assumes nothing.
use native.Mathlib.Omega.{arith}
use Rattle.listing.proofs.Puts.{puts_behind}
use Rattle.listing.proofs.Decimal.{puts_small, puts_large, room_small, room-large}
use Rattle.listing.proofs.texts.Text.+put_decimal.Goals as goal

pub put_digit-requires : goal.put_digit-requires
put_digit-requires t c = (room_small c.args.n c.args.self.now.at c.if-n-lt10.true c.requires, c.if-n-lt10.true)

pub returns-then-n-lt10 : goal.returns-then-n-lt10
returns-then-n-lt10 t c = puts_small c.args.n c.if-n-lt10.true c.put_digit.ensures

pub put_decimal-requires : goal.put_decimal-requires
put_decimal-requires t c =
    (omega (arith, c.if-n-lt10.false, c.decreases), omega (arith, room-large c.args.n c.args.self.now.at c.if-n-lt10.false c.requires))

pub put_digit-requires-else-n-lt10 : goal.put_digit-requires-else-n-lt10
put_digit-requires-else-n-lt10 t c =
    (omega (arith, puts_behind c.put_decimal.ensures, room-large c.args.n c.args.self.now.at c.if-n-lt10.false c.requires), omega arith)

pub returns-else-n-lt10 : goal.returns-else-n-lt10
returns-else-n-lt10 t c = puts_large c.args.n c.if-n-lt10.false c.put_decimal.ensures c.put_digit-else-n-lt10.ensures
