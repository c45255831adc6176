-- `number_on` meets its contract: what the next byte makes of it.
-- Assumes nothing.
use mathlib.Core.Path.{refl, sym, ◌∙◌}
use borrow.Author.Tests.{eq-eqb, eqb-true, eqb-false}
use borrow.Author.Rules.{rules}
use Rattle.reading.proofs.Digits.{on-other, on-first, on-digit, on_none}
use Rattle.reading.proofs.tokens.number_on.Goals as goal

pub returns-then-not-has_class : goal.returns-then-not-has_class
returns-then-not-has_class c = on-other c.args.text.now c.args.start c.args.i _ (search rules) (search rules) refl (eqb-false _ 2 (sym c.has_class.ensures ∙ c.if-not-has_class.true))

pub returns-then-start-i : goal.returns-then-start-i
returns-then-start-i c = eq-eqb _ _ c.if-start-i.true ∙ on-first c.args.text.now c.args.start c.args.i _ (search rules) refl (eqb-true _ 2 (sym c.has_class.ensures ∙ c.if-not-has_class.false)) c.if-start-i.true

pub returns-then-number : goal.returns-then-number
returns-then-number c = on-digit c.args.text.now c.args.start c.args.i _ c.args.number (search rules) (search rules) refl (eqb-true _ 2 (sym c.has_class.ensures ∙ c.if-not-has_class.false)) c.if-start-i.false c.requires.2 c.if-number.true

pub returns-else-number : goal.returns-else-number
returns-else-number c = c.if-number.false ∙ on_none c.args.text.now c.args.start c.args.i c.args.number (search rules) (search rules) c.if-start-i.false c.requires.2 c.if-number.false
