-- `mix` meets its contract.
-- Assumes nothing.
use native.Mathlib.Omega.{arith}
use Rattle.tidying.specs.Marks.{mixed}
use Rattle.tidying.proofs.marking.mix.Goals as goal

pub returns : goal.returns
unfolding mixed
returns c = omega arith
