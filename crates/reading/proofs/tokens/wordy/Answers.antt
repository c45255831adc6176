-- A letter, or else a digit. Assumes nothing.
use mathlib.Core.Path.{refl, sym, ◌∙◌}
use borrow.Author.Tests.{eqb-true, eqb-false}
use Rattle.reading.proofs.Spelling.{wordy_letter, wordy_digit}
use Rattle.grammar.specs.Tokens.{class_of}
use Rattle.reading.proofs.tokens.wordy.Goals as goal

pub returns-then-has_class : goal.returns-then-has_class
returns-then-has_class c = c.if-has_class.true ∙ wordy_letter (class_of c.args.b) _ refl (eqb-true _ 1 (sym c.has_class.ensures ∙ c.if-has_class.true))

pub returns-else-has_class : goal.returns-else-has_class
returns-else-has_class c = c.has_class-else-has_class.ensures ∙ wordy_digit (class_of c.args.b) _ refl (eqb-false _ 1 (sym c.has_class.ensures ∙ c.if-has_class.false))
