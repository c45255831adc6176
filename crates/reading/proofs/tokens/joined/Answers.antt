-- By the class of the first byte. Assumes nothing.
use mathlib.Core.Path.{refl, sym, ◌∙◌}
use borrow.Author.Tests.{eqb-true, eqb-false}
use Rattle.reading.proofs.Spelling.{joins-dot, joins-wordy, joins-none}
use Rattle.grammar.specs.Tokens.{class_of}
use Rattle.reading.proofs.tokens.joined.Goals as goal

pub returns-then-has_class : goal.returns-then-has_class
returns-then-has_class c = c.has_class-then-has_class.ensures ∙ joins-dot (class_of c.args.a) (class_of c.args.b) _ _ refl refl (eqb-true _ 3 (sym c.has_class.ensures ∙ c.if-has_class.true))

pub returns-then-wordy : goal.returns-then-wordy
returns-then-wordy c = c.wordy-then-wordy.ensures ∙ joins-wordy (class_of c.args.a) (class_of c.args.b) (sym c.wordy.ensures ∙ c.if-wordy.true)

pub returns-else-wordy : goal.returns-else-wordy
returns-else-wordy c = c.if-wordy.false ∙ joins-none (class_of c.args.a) (class_of c.args.b) (sym c.wordy.ensures ∙ c.if-wordy.false) (eqb-false _ 3 (sym c.has_class.ensures ∙ c.if-has_class.false))
