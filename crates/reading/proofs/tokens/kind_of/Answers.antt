use mathlib.Core.Path.{refl, sym, ◌∙◌}
use borrow.Author.Tests.{eqb-true, eqb-false}
use mathlib.Core.Bool.{true}
use native.Mathlib.Omega.{arith}
use borrow.Author.Rules.{rules}
use Rattle.reading.proofs.Spelling.{kind-number, kind-here, kind-next, kind-name, kind-none}
use Rattle.reading.proofs.tokens.kind_of.Goals as goal

pub returns-then-is_number : goal.returns-then-is_number
returns-then-is_number c = (kind-number _ _ (sym c.is_number.ensures ∙ c.if-is_number.true), omega arith)

pub loop-i-init : goal.loop-i-init
loop-i-init c = (refl, omega arith)

pub returns-then-is_token : goal.returns-then-is_token
returns-then-is_token c = (kind-here _ _ c.loop-i-test.true true _ c.loop-i.invariant.0 (sym c.is_number.ensures ∙ c.if-is_number.false) c.is_token.ensures c.if-is_token.true, omega arith)

pub loop-i-preserved : goal.loop-i-preserved
loop-i-preserved c = (kind-next _ _ c.loop-i-test.true _ c.loop-i.invariant.0 c.is_token.ensures c.if-is_token.false, omega arith)

pub returns-then-has_class : goal.returns-then-has_class
returns-then-has_class c = (kind-name c.args.token.now c.loop-i.i _ (search rules) c.loop-i.invariant.0 (omega arith) (sym c.is_number.ensures ∙ c.if-is_number.false) refl (eqb-true _ 1 (sym c.has_class.ensures ∙ c.if-has_class.true)), omega arith)

pub returns-else-has_class : goal.returns-else-has_class
returns-else-has_class c = (kind-none c.args.token.now c.loop-i.i _ (search rules) c.loop-i.invariant.0 (omega arith) (sym c.is_number.ensures ∙ c.if-is_number.false) refl (eqb-false _ 1 (sym c.has_class.ensures ∙ c.if-has_class.false)), omega arith)
