-- The word of two classes meets its contract.
-- Assumes nothing.
use native.Mathlib.Omega.{arith}
use Rattle.classify.specs.Table.{word_of}
use Rattle.classify.proofs.Table.{asks-small, packed-range}
use Rattle.classify.proofs.table_words.WordFromPacked.from.Goals as goal

pub overflow_mul-result : goal.overflow_mul-result
overflow_mul-result c = omega (arith, c.asks_of.ensures, asks-small c.classes-classes.result)

pub overflow_add-result : goal.overflow_add-result
overflow_add-result c = omega (arith, c.asks_of.ensures, asks-small c.classes-classes.result, c.from.ensures.0, c.from-2.ensures, packed-range c.classes-classes.result)

pub returns : goal.returns
unfolding word_of
returns c = rw (c.asks_of.ensures, c.from-2.ensures, c.from.ensures.0, c.classes-classes.ensures)
