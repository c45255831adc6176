-- Three stores.
-- Assumes nothing.
use mathlib.Core.Path.{refl}
use native.Mathlib.Omega.{arith}
use lib.ListN.{length-set}
use Rattle.planning.proofs.Writing.{over-three}
use Rattle.planning.proofs.numbers.put_three.Goals as goal

pub bounds-plan-at-2 : goal.bounds-plan-at-2
bounds-plan-at-2 c = simp length-set (omega (arith, c.requires.0))

pub bounds-plan-at-3 : goal.bounds-plan-at-3
bounds-plan-at-3 c = simp length-set (omega (arith, c.requires.0))

pub returns : goal.returns
returns c = (over-three c.args.plan.now c.args.at c.args.a c.args.b c.args.c, refl)
