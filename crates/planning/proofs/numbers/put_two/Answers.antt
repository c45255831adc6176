-- Two stores.
-- Assumes nothing.
use mathlib.Core.Path.{refl}
use native.Mathlib.Omega.{arith}
use lib.ListN.{length-set}
use Rattle.planning.proofs.Writing.{over-two}
use Rattle.planning.proofs.numbers.put_two.Goals as goal

pub bounds-plan-at-2 : goal.bounds-plan-at-2
bounds-plan-at-2 c = simp length-set (omega (arith, c.requires.0))

pub returns : goal.returns
returns c = (over-two c.args.plan.now c.args.at c.args.a c.args.b, refl)
