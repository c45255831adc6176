-- 30, then 11.
-- Assumes nothing.
use mathlib.Core.Path.{sym, ◌∙◌}
use native.Mathlib.Omega.{arith}
use Rattle.std.proofs.Common.{rules}
use Rattle.by_plan.proofs.Verdicts.{judged-accepts, judged-refuses, returns-judged, take-thirty, take-value, take-image, take-right}
use Rattle.by_plan.proofs.returned.judge_taking.Goals as goal
use Rattle.by_plan.proofs.returned.judge_taking.Goals.{then-value-at-via-then-value-at, then-value-at-via-else-value-at+then-image-ne96}

pub returns-then-not-parts_fit : goal.returns-then-not-parts_fit
returns-then-not-parts_fit c =
    let w = returns-judged _ c.args.plan.headed ∙ sym (rw (c.at.ensures.0, c.returned.ensures) at c.parts_fit.ensures) ∙ c.if-not-parts_fit.true in
    judged-refuses _ 30 (take-thirty _ _ _ w) (omega arith) _ c.from.ensures

pub returns-then-value-at : goal.returns-then-value-at
returns-then-value-at c =
    let w = returns-judged _ c.args.plan.headed ∙ sym (rw (c.at.ensures.0, c.returned.ensures) at c.parts_fit.ensures) ∙ c.if-not-parts_fit.false in
    elim c.then-value-at.branch [
      | then-value-at-via-then-value-at s ↦ judged-refuses _ 11 (take-value _ _ _ w (λ e. s.if-value-at.true (e ∙ sym c.at-2.ensures.0))) (omega arith) _ c.from-then-value-at.ensures
      | then-value-at-via-else-value-at+then-image-ne96 s ↦ judged-refuses _ 11 (take-image _ _ _ w s.if-image-ne96.true) (omega arith) _ c.from-then-value-at.ensures
    ]

pub returns : goal.returns
returns c =
    let w = returns-judged _ c.args.plan.headed ∙ sym (rw (c.at.ensures.0, c.returned.ensures) at c.parts_fit.ensures) ∙ c.if-not-parts_fit.false in
    judged-accepts _ (take-right _ _ _ w (search rules) (search rules))
