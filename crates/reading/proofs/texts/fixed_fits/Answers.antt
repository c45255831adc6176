-- `fixed_fits` meets its contract.
use mathlib.Core.Path.{sym, ◌∙◌}
use Rattle.reading.proofs.Spelling.{not_both, first-true}
use Rattle.reading.proofs.texts.fixed_fits.Goals as goal

pub returns-then-begins_token : goal.returns-then-begins_token
returns-then-begins_token c = c.may_come.ensures ∙ sym (first-true _ _ (sym c.begins_token.ensures ∙ c.if-begins_token.true))

pub returns-else-begins_token : goal.returns-else-begins_token
returns-else-begins_token c = c.if-begins_token.false ∙ sym (not_both _ _ (sym c.begins_token.ensures ∙ c.if-begins_token.false))
