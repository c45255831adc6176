use mathlib.Core.Path.{refl}
use native.Mathlib.Omega.{arith}
use Rattle.collecting.proofs.Rows.{run-other, run_on, run-done}
use Rattle.collecting.proofs.interning.same_run.Goals as goal

pub loop-i-init : goal.loop-i-init
loop-i-init c = refl

pub returns-then-members-a : goal.returns-then-members-a
returns-then-members-a c = run-other c.args.members.now c.args.a c.args.run.now c.requires c.loop-i.i c.loop-i.invariant c.loop-i-test.true c.if-members-a.true

pub loop-i-preserved : goal.loop-i-preserved
loop-i-preserved c = run_on c.args.members.now c.args.a c.args.run.now c.requires c.loop-i.i c.loop-i.invariant c.loop-i-test.true c.if-members-a.false

pub returns : goal.returns
returns c = run-done c.args.members.now c.args.a c.args.run.now c.requires c.loop-i.i c.loop-i.invariant (omega arith)
