use native.Mathlib.Omega.{arith}
use Rattle.writing.proofs.Steps.{entry-is, few-types, argument-low, summing_first, summing_next, summing_end}
use Rattle.uses.proofs.Uses.{accepted-typed}
use Rattle.writing.proofs.text_lengths.arguments_length.Goals as goal

pub loop-i-init : goal.loop-i-init
loop-i-init c = summing_first c.args.d.now c.args.before c.args.named c.requires.1

pub argument_at-argument-requires : goal.argument_at-argument-requires
argument_at-argument-requires c = ((accepted-typed c.args.d.now c.requires.0).whole, omega (arith, c.loop-i-test.true, c.requires.2, (accepted-typed c.args.d.now c.requires.0).named))

pub entry_at-entry-requires : goal.entry_at-entry-requires
entry_at-entry-requires c = omega (arith, argument-low c.args.d.now c.requires.0 c.loop-i.i c.argument_at-argument.result (omega (arith, c.loop-i-test.true, c.requires.2)) c.argument_at-argument.ensures, few-types c.args.d.now c.requires.0)

pub overflow_add-entry : goal.overflow_add-entry
overflow_add-entry c = omega (arith, (entry-is c.argument_at-argument.result c.entry_at-entry.result c.requires.3 (argument-low c.args.d.now c.requires.0 c.loop-i.i c.argument_at-argument.result (omega (arith, c.loop-i-test.true, c.requires.2)) c.argument_at-argument.ensures) c.entry_at-entry.ensures).1)

pub overflow_add-x : goal.overflow_add-x
overflow_add-x c = omega (arith, c.loop-i.invariant.high, (entry-is c.argument_at-argument.result c.entry_at-entry.result c.requires.3 (argument-low c.args.d.now c.requires.0 c.loop-i.i c.argument_at-argument.result (omega (arith, c.loop-i-test.true, c.requires.2)) c.argument_at-argument.ensures) c.entry_at-entry.ensures).1)

pub loop-i-preserved : goal.loop-i-preserved
loop-i-preserved c = summing_next c.argument_at-argument.result c.entry_at-entry.result c.cap-x.result c.loop-i.invariant c.loop-i-test.true c.argument_at-argument.ensures (entry-is c.argument_at-argument.result c.entry_at-entry.result c.requires.3 (argument-low c.args.d.now c.requires.0 c.loop-i.i c.argument_at-argument.result (omega (arith, c.loop-i-test.true, c.requires.2)) c.argument_at-argument.ensures) c.entry_at-entry.ensures).0 c.cap-x.ensures

pub returns : goal.returns
returns c = summing_end c.loop-i.invariant c.loop-i-test.false
