use mathlib.Core.Path.{refl, sym, ap, ◌∙◌}
use borrow.Author.Tests.{ne_eqb, eqb-true, eqb-false}
use mathlib.Core.Bool.{not}
use native.Mathlib.Omega.{arith}
use borrow.Author.Rules.{rules}
use Rattle.reading.proofs.Spelling.{number-none, digits-none, digits-again, number-plain, number-zero}
use Rattle.reading.proofs.tokens.is_number.Goals as goal

pub returns-then-not-has_class : goal.returns-then-not-has_class
returns-then-not-has_class c = number-none c.args.token.now (search rules) _ refl (eqb-false _ 2 (sym c.has_class.ensures ∙ c.if-not-has_class.true))

pub loop-j-init : goal.loop-j-init
loop-j-init c = (refl, omega arith)

pub returns-then-not-has_class-2 : goal.returns-then-not-has_class-2
returns-then-not-has_class-2 c = digits-none c.args.token.now (search rules) _ _ _ refl (eqb-true _ 2 (sym c.has_class.ensures ∙ c.if-not-has_class.false)) c.loop-j.invariant.0 c.loop-j-test.true refl (eqb-false _ 2 (sym c.has_class-in-loop-j.ensures ∙ c.if-not-has_class-2.true))

pub loop-j-preserved : goal.loop-j-preserved
loop-j-preserved c = (digits-again c.args.token.now (search rules) _ _ c.loop-j.invariant.0 c.loop-j-test.true refl (eqb-true _ 2 (sym c.has_class-in-loop-j.ensures ∙ c.if-not-has_class-2.false)), omega arith)

pub returns-then-first-ne48 : goal.returns-then-first-ne48
returns-then-first-ne48 c = ap not (ne_eqb _ _ c.if-first-ne48.true) ∙ number-plain c.args.token.now (search rules) _ c.loop-j.j _ refl (eqb-true _ 2 (sym c.has_class.ensures ∙ c.if-not-has_class.false)) c.loop-j.invariant.0 (omega arith) (omega arith) refl c.if-first-ne48.true

pub returns-else-first-ne48 : goal.returns-else-first-ne48
returns-else-first-ne48 c = number-zero c.args.token.now (search rules) _ c.loop-j.j _ _ refl (eqb-true _ 2 (sym c.has_class.ensures ∙ c.if-not-has_class.false)) c.loop-j.invariant.0 (omega arith) (omega arith) refl c.if-first-ne48.false refl
