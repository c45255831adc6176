-- By the place. Assumes nothing.
use Rattle.flat.proofs.Registers.{number_in-returned}
use Rattle.flat.proofs.records.PairFromReturnPlace.from.Goals as goal

pub returns-in-One : goal.returns-in-One
returns-in-One c = rw (c.in-One.is, c.number_in.ensures, number_in-returned c.in-One.register)

pub returns-in-Two : goal.returns-in-Two
returns-in-Two c =
    rw (
      c.in-Two.is,
      c.number_in-in-Two.ensures,
      c.number_in-in-Two-2.ensures,
      number_in-returned c.in-Two.low,
      number_in-returned c.in-Two.high,
    )
