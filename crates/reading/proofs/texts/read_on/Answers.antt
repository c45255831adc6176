-- What is left to read answers as the whole text does. Assumes nothing.
use mathlib.Core.Path.{◌∙◌}
use native.Mathlib.Omega.{arith}
use Rattle.reading.specs.Code.{tops}
use Rattle.reading.proofs.Steps.{read-lost, read-on, read_first, read-ended, read_short}
use Rattle.reading.proofs.Digits.{none_number}
use Rattle.reading.proofs.texts.read_on.Goals as goal

pub loop-i-init : goal.loop-i-init
loop-i-init c = (read_first c.args.text.now (tops c.args.symbols.now.cells c.args.symbols.now.depth), omega arith, omega arith, omega arith, none_number c.args.text.now 0)

pub returns-in_default : goal.returns-in_default
returns-in_default c = read-lost c.args.text.now c.loop-i.i _ _ _ _ c.loop-i-test.true c.read_byte.ensures c.in_default.is ∙ c.loop-i.invariant.0

pub loop-i-preserved : goal.loop-i-preserved
loop-i-preserved c =
    let r = read-on c.args.text.now c.loop-i.i _ _ _ _ _ c.loop-i-test.true c.read_byte.ensures c.in-Some.is in
    (r.0 ∙ c.loop-i.invariant.0, r.1, omega arith, r.2, c.number_by-number.ensures)

pub returns-then-read_end : goal.returns-then-read_end
returns-then-read_end c = read-ended c.args.text.now c.loop-i.start c.loop-i.i _ _ (omega arith) c.read_end.ensures c.if-read_end.true ∙ c.loop-i.invariant.0

pub returns-else-read_end : goal.returns-else-read_end
returns-else-read_end c = read_short c.args.text.now c.loop-i.start c.loop-i.i _ _ (omega arith) c.read_end.ensures c.if-read_end.false ∙ c.loop-i.invariant.0
