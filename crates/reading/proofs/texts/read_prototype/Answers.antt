-- Too long, or as the grammar answers. Assumes nothing.
use mathlib.Core.Path.{sym, ◌∙◌}
use borrow.Author.Rules.{rules}
use Rattle.grammar.specs.Prototype.{prototype}
use Rattle.reading.proofs.Steps.{read_same}
use Rattle.reading.proofs.Answers.{too_long_lem, short-enough}
use Rattle.reading.proofs.texts.read_prototype.Goals as goal

pub returns-then-text-gt4096 : goal.returns-then-text-gt4096
returns-then-text-gt4096 c = too_long_lem prototype c.args.text.now (search rules)

pub returns : goal.returns
returns c = read_same _ _ _ _ c.read_on.ensures c.start_prototype.ensures.0 ∙ sym (short-enough prototype c.args.text.now (search rules))
