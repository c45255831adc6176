-- Numbers 10 to 15.
-- Assumes nothing.
use native.Mathlib.Omega.{arith}
use mathlib.Core.Path.{refl}
use Rattle.plans.specs.Returned.{return_moves_in}
use Rattle.by_plan.proofs.Lists.{triples_of-slice}
use Rattle.by_plan.proofs.head.Plan.returned.Goals as goal

pub returns : goal.returns
unfolding return_moves_in
returns c = triples_of-slice 2 10 6 c.args.self.numbers.now refl (omega (arith, c.args.self.headed))
