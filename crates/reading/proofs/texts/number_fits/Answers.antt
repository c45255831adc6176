-- `number_fits` meets its contract.
use mathlib.Core.Path.{sym, ◌∙◌}
use Rattle.reading.proofs.Spelling.{not_both, first-true}
use Rattle.reading.proofs.texts.number_fits.Goals as goal

pub returns-then-number : goal.returns-then-number
returns-then-number c = c.may_come.ensures ∙ sym (first-true _ _ c.if-number.true)

pub returns-else-number : goal.returns-else-number
returns-else-number c = c.if-number.false ∙ sym (not_both _ _ c.if-number.false)
