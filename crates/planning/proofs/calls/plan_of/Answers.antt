-- 1 to 10, 11, or the plan.
-- Assumes nothing.
use mathlib.Core.Path.{◌≡◌, refl, sym, ◌∙◌}
use Prim.Native.Nat.{ℕ}
use Rattle.std.specs.Prelude.{Err, Result}
use Rattle.std.proofs.Common.{rules}
use Rattle.form.specs.declared.Refusal.{Refusal}
use Rattle.planning.proofs.Outcomes.{plan_laid_not, laid-right, plan_short, plan_done}
use Rattle.planning.proofs.calls.plan_of.Goals as goal

pub returns-in_err-layout : goal.returns-in_err-layout
returns-in_err-layout c =
    let e : ◌≡◌ {A = Result ℕ Refusal} c.from_residual.result (Err c.in_err-layout.field-0.0) = search rules in
    let p = plan_laid_not c.args.d.now c.args.plan.now c.in_err-layout.field-0.0 c.in_err-layout.field-0.0 (sym c.layout_with.ensures.0 ∙ c.in_err-layout.was) refl in
    (e ∙ p.0, p.1)

pub returns-then-plan-lt392 : goal.returns-then-plan-lt392
returns-then-plan-lt392 c = plan_short c.args.d.now c.args.plan.now c.in_ok-layout.layout (sym c.layout_with.ensures.0 ∙ c.in_ok-layout.was) _ c.from.ensures c.if-plan-lt392.true

pub write_plan-requires : goal.write_plan-requires
write_plan-requires c =
    let l = laid-right c.args.d.now c.args.plan.now c.in_ok-layout.layout (sym c.layout_with.ensures.0 ∙ c.in_ok-layout.was) in
    (l.0, l.1, c.if-plan-lt392.false)

pub returns : goal.returns
returns c = plan_done c.args.d.now c.args.plan.now c.in_ok-layout.layout (sym c.layout_with.ensures.0 ∙ c.in_ok-layout.was) c.if-plan-lt392.false _ _ c.write_plan.ensures
