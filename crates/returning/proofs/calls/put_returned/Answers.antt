-- `put_returned` meets its contract.
-- Assumes nothing.
use mathlib.Core.Path.{◌≡◌, refl, sym, ◌∙◌}
use Rattle.std.specs.Prelude.{Err, Result}
use Rattle.std.proofs.Common.{rules}
use Rattle.form.specs.declared.Refusal.{Refusal}
use native.Mathlib.Omega.{arith}
use Rattle.returning.proofs.Answers.{laid-right, laid-place, laid-hidden, laid-wrong, laid-lent, laid-returnable, put-laid_not, put-wrong_length, put-wrong_address, put-wrong_bool, put-done}
use Rattle.returning.proofs.Values.{whole}
use Rattle.returning.proofs.calls.put_returned.Goals as goal

pub returns-in_err-layout : goal.returns-in_err-layout
returns-in_err-layout c =
    let e : ◌≡◌ {A = Result (Unit {0}) Refusal} c.from_residual.result (Err c.in_err-layout.field-0.0) = search rules in
    let p = put-laid_not c.args.d.now c.args.hidden c.args.value.now c.args.image.now c.args.upper.now c.in_err-layout.field-0.0 c.in_err-layout.field-0.0 (sym c.layout_of.ensures ∙ c.in_err-layout.was) refl in
    (e ∙ p.0, p.1)

pub returns-then-wrong_length : goal.returns-then-wrong_length
returns-then-wrong_length c = put-wrong_length _ _ _ _ _ _ c.from.ensures (laid-right _ _ (sym c.layout_of.ensures ∙ c.in_ok-layout.was)) (laid-wrong _ _ (sym c.layout_of.ensures ∙ c.in_ok-layout.was) _ c.length_for-right.ensures _ _ _ _ c.wrong_length.ensures c.if-wrong_length.true)

pub wrong_address-requires : goal.wrong_address-requires
wrong_address-requires c = let l = laid-lent _ _ (sym c.layout_of.ensures ∙ c.in_ok-layout.was) _ c.length_for-right.ensures _ _ _ _ c.wrong_length.ensures c.if-wrong_length.false in (whole _ l.accepted).headed

pub returns-then-wrong_address : goal.returns-then-wrong_address
returns-then-wrong_address c = let a = (sym c.layout_of.ensures ∙ c.in_ok-layout.was) in let l = laid-lent _ _ (sym c.layout_of.ensures ∙ c.in_ok-layout.was) _ c.length_for-right.ensures _ _ _ _ c.wrong_length.ensures c.if-wrong_length.false in put-wrong_address _ _ _ _ _ l _ _ (laid-hidden _ _ a) c.wrong_address.ensures _ c.from-then-wrong_address.ensures c.if-wrong_address.true

pub wrong_bool-requires : goal.wrong_bool-requires
wrong_bool-requires c = let l = laid-lent _ _ (sym c.layout_of.ensures ∙ c.in_ok-layout.was) _ c.length_for-right.ensures _ _ _ _ c.wrong_length.ensures c.if-wrong_length.false in (l.accepted, l.value)

pub returns-then-wrong_bool : goal.returns-then-wrong_bool
returns-then-wrong_bool c = let a = (sym c.layout_of.ensures ∙ c.in_ok-layout.was) in let l = laid-lent _ _ (sym c.layout_of.ensures ∙ c.in_ok-layout.was) _ c.length_for-right.ensures _ _ _ _ c.wrong_length.ensures c.if-wrong_length.false in put-wrong_bool _ _ _ _ _ l _ _ (laid-hidden _ _ a) c.wrong_address.ensures _ c.wrong_bool.ensures c.if-wrong_address.false _ c.from-then-wrong_bool.ensures c.if-wrong_bool.true

pub put_value-requires : goal.put_value-requires
put_value-requires c = let a = (sym c.layout_of.ensures ∙ c.in_ok-layout.was) in let l = laid-lent _ _ (sym c.layout_of.ensures ∙ c.in_ok-layout.was) _ c.length_for-right.ensures _ _ _ _ c.wrong_length.ensures c.if-wrong_length.false in (laid-returnable _ _ a _ _ _ l, l.image, l.upper)

pub returns : goal.returns
returns c = let a = (sym c.layout_of.ensures ∙ c.in_ok-layout.was) in let l = laid-lent _ _ (sym c.layout_of.ensures ∙ c.in_ok-layout.was) _ c.length_for-right.ensures _ _ _ _ c.wrong_length.ensures c.if-wrong_length.false in put-done _ _ _ c.args.image.now c.args.upper.now l _ _ (laid-hidden _ _ a) c.wrong_address.ensures _ c.wrong_bool.ensures c.if-wrong_address.false _ _ _ c.if-wrong_bool.false (laid-place _ _ a) (omega arith) c.put_value.ensures
