-- `place_values` meets its contract, answer by answer.
-- Assumes nothing.
use mathlib.Core.Path.{◌≡◌, refl, sym, ◌∙◌}
use native.Mathlib.Omega.{arith}
use Rattle.std.specs.Prelude.{Err, Result}
use Rattle.std.proofs.Common.{rules}
use Rattle.units.specs.declared.Registers.{Registers}
use Rattle.form.specs.declared.Refusal.{Refusal}
use Rattle.moving.proofs.Answers.{place-laid_not, place-wrong_length, place-lengths, place-hidden, place-wrong_address, place-wrong_bool, place-done}
use Rattle.moving.proofs.Turns.{whole}
use Rattle.moving.proofs.calls.place_values.Goals as goal

pub returns-in_err-layout : goal.returns-in_err-layout
returns-in_err-layout c =
    let e : ◌≡◌ {A = Result Registers Refusal} c.from_residual.result (Err c.in_err-layout.field-0.0) = search rules in
    let p = place-laid_not c.args.d.now c.args.hidden c.args.values.now c.args.registers.now c.args.upper.now c.args.stack.now c.in_err-layout.field-0.0 c.in_err-layout.field-0.0 (sym c.layout_with.ensures.0 ∙ c.in_err-layout.was) refl in
    (e ∙ p.0, p.1)

pub returns-then-wrong_length : goal.returns-then-wrong_length
returns-then-wrong_length c = place-wrong_length c.args.d.now c.args.hidden c.args.values.now c.args.registers.now c.args.upper.now c.args.stack.now c.in_ok-layout.layout (sym c.layout_with.ensures.0 ∙ c.in_ok-layout.was) _ c.from.ensures (sym c.wrong_length.ensures ∙ c.if-wrong_length.true)

pub wrong_address-requires : goal.wrong_address-requires
wrong_address-requires c = let h = place-lengths c.args.d.now c.args.hidden c.args.values.now c.args.registers.now c.args.upper.now c.args.stack.now c.in_ok-layout.layout (sym c.layout_with.ensures.0 ∙ c.in_ok-layout.was) (sym c.wrong_length.ensures ∙ c.if-wrong_length.false) in (whole c.args.d.now h.accepted).headed

pub returns-then-wrong_address : goal.returns-then-wrong_address
returns-then-wrong_address c = place-wrong_address c.args.d.now c.args.hidden c.args.values.now c.args.registers.now c.args.upper.now c.args.stack.now c.in_ok-layout.layout (sym c.layout_with.ensures.0 ∙ c.in_ok-layout.was) (sym c.wrong_length.ensures ∙ c.if-wrong_length.false) _ c.wrong_address.ensures _ c.from-then-wrong_address.ensures c.if-wrong_address.true

pub wrong_bool-requires : goal.wrong_bool-requires
wrong_bool-requires c = let h = place-lengths c.args.d.now c.args.hidden c.args.values.now c.args.registers.now c.args.upper.now c.args.stack.now c.in_ok-layout.layout (sym c.layout_with.ensures.0 ∙ c.in_ok-layout.was) (sym c.wrong_length.ensures ∙ c.if-wrong_length.false) in (h.accepted, h.values)

pub returns-then-wrong_bool : goal.returns-then-wrong_bool
returns-then-wrong_bool c = place-wrong_bool c.args.d.now c.args.hidden c.args.values.now c.args.registers.now c.args.upper.now c.args.stack.now c.in_ok-layout.layout (sym c.layout_with.ensures.0 ∙ c.in_ok-layout.was) (sym c.wrong_length.ensures ∙ c.if-wrong_length.false) _ c.wrong_address.ensures c.if-wrong_address.false _ c.wrong_bool.ensures _ c.from-then-wrong_bool.ensures c.if-wrong_bool.true

pub fill_images-requires : goal.fill_images-requires
fill_images-requires c = (place-lengths c.args.d.now c.args.hidden c.args.values.now c.args.registers.now c.args.upper.now c.args.stack.now c.in_ok-layout.layout (sym c.layout_with.ensures.0 ∙ c.in_ok-layout.was) (sym c.wrong_length.ensures ∙ c.if-wrong_length.false), place-hidden c.args.d.now c.args.hidden c.args.values.now c.args.registers.now c.args.upper.now c.args.stack.now c.in_ok-layout.layout (sym c.layout_with.ensures.0 ∙ c.in_ok-layout.was) (sym c.wrong_length.ensures ∙ c.if-wrong_length.false))

pub returns : goal.returns
returns c = place-done c.args.d.now c.args.hidden c.args.values.now c.args.registers.now c.args.upper.now c.args.stack.now c.in_ok-layout.layout (sym c.layout_with.ensures.0 ∙ c.in_ok-layout.was) (sym c.wrong_length.ensures ∙ c.if-wrong_length.false) _ c.wrong_address.ensures c.if-wrong_address.false _ c.wrong_bool.ensures _ _ _ c.if-wrong_bool.false (omega arith) (omega arith) c.fill_images.ensures
