-- `name_fits` meets its contract.
use mathlib.Core.Path.{refl, sym, ◌∙◌}
use borrow.Author.Tests.{eqb-true, eqb-false}
use borrow.Author.Rules.{rules}
use Rattle.reading.proofs.Spelling.{letter_name, letter_no_name, not_both, first-true}
use Rattle.reading.proofs.texts.name_fits.Goals as goal

pub returns-then-has_class : goal.returns-then-has_class
returns-then-has_class c = c.may_come.ensures ∙ sym (first-true _ _ (letter_name c.args.token.now _ (search rules) refl (eqb-true _ 1 (sym c.has_class.ensures ∙ c.if-has_class.true))))

pub returns-else-has_class : goal.returns-else-has_class
returns-else-has_class c = c.if-has_class.false ∙ sym (not_both _ _ (letter_no_name c.args.token.now _ (search rules) refl (eqb-false _ 1 (sym c.has_class.ensures ∙ c.if-has_class.false))))
