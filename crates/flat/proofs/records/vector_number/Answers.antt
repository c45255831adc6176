-- A vector register's number. Assumes nothing.
use Rattle.std.proofs.Common.{rules}
use Rattle.flat.specs.Numbers.{vector_number}
use Rattle.flat.proofs.records.vector_number.Goals as goal

pub returns-then-n-lt8 : goal.returns-then-n-lt8
unfolding vector_number
returns-then-n-lt8 c = search rules

pub returns-else-n-lt8 : goal.returns-else-n-lt8
unfolding vector_number
returns-else-n-lt8 c = search rules
