-- `gather_values` meets its contract, answer by answer.
-- Assumes nothing.
use mathlib.Core.Path.{◌≡◌, refl, sym, ◌∙◌}
use Prim.Native.Nat.{ℕ}
use native.Mathlib.Omega.{arith}
use Rattle.std.specs.Prelude.{Err, Result}
use Rattle.std.proofs.Common.{rules}
use Rattle.form.specs.declared.Refusal.{Refusal}
use Rattle.moving.proofs.Answers.{gather-laid_not, gather-wrong_length, gather-lengths, gather-hidden, gather_none, gather-address}
use Rattle.moving.proofs.calls.gather_values.Goals as goal

pub returns-in_err-layout : goal.returns-in_err-layout
returns-in_err-layout c =
    let e : ◌≡◌ {A = Result ℕ Refusal} c.from_residual.result (Err c.in_err-layout.field-0.0) = search rules in
    let p = gather-laid_not c.args.d.now c.args.registers.now c.args.upper.now c.args.stack.now c.args.values.now c.in_err-layout.field-0.0 c.in_err-layout.field-0.0 (sym c.layout_with.ensures.0 ∙ c.in_err-layout.was) refl in
    (e ∙ p.0, p.1)

pub returns-then-wrong_length : goal.returns-then-wrong_length
returns-then-wrong_length c = gather-wrong_length c.args.d.now c.args.registers.now c.args.upper.now c.args.stack.now c.args.values.now c.in_ok-layout.layout (sym c.layout_with.ensures.0 ∙ c.in_ok-layout.was) _ c.from.ensures (sym c.wrong_length.ensures ∙ c.if-wrong_length.true)

pub gather_all-requires : goal.gather_all-requires
gather_all-requires c = (gather-lengths c.args.d.now c.args.registers.now c.args.upper.now c.args.stack.now c.args.values.now c.in_ok-layout.layout (sym c.layout_with.ensures.0 ∙ c.in_ok-layout.was) (sym c.wrong_length.ensures ∙ c.if-wrong_length.false), gather-hidden c.args.d.now c.args.registers.now c.args.upper.now c.args.stack.now c.args.values.now c.in_ok-layout.layout (sym c.layout_with.ensures.0 ∙ c.in_ok-layout.was) (sym c.wrong_length.ensures ∙ c.if-wrong_length.false))

pub address_in-requires : goal.address_in-requires
address_in-requires c = let h = gather-lengths c.args.d.now c.args.registers.now c.args.upper.now c.args.stack.now c.args.values.now c.in_ok-layout.layout (sym c.layout_with.ensures.0 ∙ c.in_ok-layout.was) (sym c.wrong_length.ensures ∙ c.if-wrong_length.false) in omega (arith, h.registers)

pub returns-then-layout : goal.returns-then-layout
returns-then-layout c = gather-address c.args.d.now c.args.registers.now c.args.upper.now c.args.stack.now c.args.values.now c.in_ok-layout.layout (sym c.layout_with.ensures.0 ∙ c.in_ok-layout.was) (sym c.wrong_length.ensures ∙ c.if-wrong_length.false) _ _ c.if-layout.true c.address_in.ensures c.gather_all.ensures

pub returns-else-layout : goal.returns-else-layout
returns-else-layout c = gather_none c.args.d.now c.args.registers.now c.args.upper.now c.args.stack.now c.args.values.now c.in_ok-layout.layout (sym c.layout_with.ensures.0 ∙ c.in_ok-layout.was) (sym c.wrong_length.ensures ∙ c.if-wrong_length.false) _ c.if-layout.false c.gather_all.ensures
