-- 30, then 11.
-- Assumes nothing.
use mathlib.Core.Path.{sym, ◌∙◌}
use native.Mathlib.Omega.{arith}
use Rattle.std.proofs.Common.{rules}
use Rattle.by_plan.proofs.Verdicts.{judged-accepts, judged-refuses, gather-thirty, gather-values, gather-image, gather-right}
use Rattle.by_plan.proofs.judging.judge.Goals as goal
use Rattle.by_plan.proofs.judging.judge.Goals.{then-values-at-via-then-values-at, then-values-at-via-else-values-at+then-image}

pub returns-then-not-well_formed : goal.returns-then-not-well_formed
returns-then-not-well_formed c = judged-refuses _ 30 (gather-thirty _ _ _ (sym c.well_formed-2.ensures ∙ c.if-not-well_formed.true)) (omega arith) _ c.from.ensures

pub returns-then-values-at : goal.returns-then-values-at
returns-then-values-at c =
    let w = sym c.well_formed-2.ensures ∙ c.if-not-well_formed.false in
    elim c.then-values-at.branch [
      | then-values-at-via-then-values-at s ↦ judged-refuses _ 11 (gather-values _ _ _ w (λ e. s.if-values-at.true (e ∙ sym c.at.ensures.0))) (omega arith) _ c.from-then-values-at.ensures
      | then-values-at-via-else-values-at+then-image s ↦ judged-refuses _ 11 (gather-image _ _ _ w (λ e. s.if-image.true (e ∙ sym s.image.ensures))) (omega arith) _ c.from-then-values-at.ensures
    ]

pub returns : goal.returns
returns c = judged-accepts _ (gather-right _ _ _ (sym c.well_formed-2.ensures ∙ c.if-not-well_formed.false) (search rules) (search rules))
