-- `take_returned` meets its contract.
-- Assumes nothing.
use mathlib.Core.Path.{◌≡◌, refl, sym, ◌∙◌}
use Prim.Native.Nat.{ℕ}
use Rattle.std.specs.Prelude.{Err, Result}
use Rattle.std.proofs.Common.{rules}
use Rattle.form.specs.declared.Refusal.{Refusal}
use Rattle.returning.proofs.Answers.{laid-right, laid-place, laid-wrong, laid-lent, laid-returnable, take-laid_not, take-wrong_length, take_done}
use Rattle.returning.proofs.calls.take_returned.Goals as goal

pub returns-in_err-layout : goal.returns-in_err-layout
returns-in_err-layout c =
    let e : ◌≡◌ {A = Result ℕ Refusal} c.from_residual.result (Err c.in_err-layout.field-0.0) = search rules in
    let p = take-laid_not c.args.d.now c.args.image.now c.args.upper.now c.args.value.now c.in_err-layout.field-0.0 c.in_err-layout.field-0.0 (sym c.layout_of.ensures ∙ c.in_err-layout.was) refl in
    (e ∙ p.0, p.1)

pub returns-then-wrong_length : goal.returns-then-wrong_length
returns-then-wrong_length c = take-wrong_length _ _ _ _ _ c.from.ensures (laid-right _ _ (sym c.layout_of.ensures ∙ c.in_ok-layout.was)) (laid-wrong _ _ (sym c.layout_of.ensures ∙ c.in_ok-layout.was) _ c.length_for-right.ensures _ _ _ _ c.wrong_length.ensures c.if-wrong_length.true)

pub take_value-requires : goal.take_value-requires
take_value-requires c = let a = (sym c.layout_of.ensures ∙ c.in_ok-layout.was) in let l = laid-lent _ _ (sym c.layout_of.ensures ∙ c.in_ok-layout.was) _ c.length_for-right.ensures _ _ _ _ c.wrong_length.ensures c.if-wrong_length.false in (laid-returnable _ _ a _ _ _ l, l.image, l.upper)

pub returned_address-requires : goal.returned_address-requires
returned_address-requires c = (laid-lent _ _ (sym c.layout_of.ensures ∙ c.in_ok-layout.was) _ c.length_for-right.ensures _ _ _ _ c.wrong_length.ensures c.if-wrong_length.false).image

pub returns : goal.returns
returns c = let a = (sym c.layout_of.ensures ∙ c.in_ok-layout.was) in let l = laid-lent _ _ (sym c.layout_of.ensures ∙ c.in_ok-layout.was) _ c.length_for-right.ensures _ _ _ _ c.wrong_length.ensures c.if-wrong_length.false in take_done _ _ _ _ l _ _ _ (laid-place _ _ a) c.returned_address.ensures c.take_value.ensures
