-- A type asked beside its argument's, one after the other.
-- Assumes nothing.
use mathlib.Core.Path.{sym, ◌∙◌}
use native.Mathlib.Omega.{arith}
use Rattle.finishing.proofs.Checks.{alike-first, alike-not, alike-on, alike_end}
use Rattle.uses.proofs.Uses.{accepted-typed}
use Rattle.layout.proofs.Bounds.{arguments-few}
use Rattle.finishing.proofs.other_types.Goals as goal

pub loop-i-init : goal.loop-i-init
loop-i-init c = alike-first c.args.known.bytes.now c.args.asked.now c.args.position

pub overflow_add-position : goal.overflow_add-position
overflow_add-position c = omega (arith, c.requires, arguments-few c.args.known.bytes.now c.args.known.judged, c.loop-i-test.true)

pub argument_at-requires : goal.argument_at-requires
argument_at-requires c = ((accepted-typed c.args.known.bytes.now c.args.known.judged).whole, omega (arith, c.requires, c.loop-i-test.true))

pub returns-then-argument_at-from : goal.returns-then-argument_at-from
returns-then-argument_at-from c = alike-not c.args.known.bytes.now c.args.asked.now c.args.position c.loop-i.i c.loop-i.invariant c.loop-i-test.true c.requires c.argument_at.result c.argument_at.ensures (λ q. c.if-argument_at-from.true (q ∙ sym c.from.ensures))

pub loop-i-preserved : goal.loop-i-preserved
loop-i-preserved c = alike-on c.args.known.bytes.now c.args.asked.now c.args.position c.loop-i.i c.loop-i.invariant c.loop-i-test.true c.requires c.argument_at.result c.argument_at.ensures (c.if-argument_at-from.false ∙ c.from.ensures)

pub returns : goal.returns
returns c = alike_end c.args.known.bytes.now c.args.asked.now c.args.position c.loop-i.i c.loop-i.invariant c.loop-i-test.false
