-- 30 and 11 as taking, then 27 and 12.
-- Assumes nothing.
use mathlib.Core.Path.{◌≡◌, sym, ◌∙◌}
use native.Mathlib.Omega.{arith}
use Rattle.std.specs.Prelude.{Err, Result}
use Rattle.std.proofs.Common.{rules}
use Rattle.form.specs.declared.Refusal.{Refusal}
use Rattle.by_plan.proofs.Verdicts.{judged-accepts, judged-refuses, judged-accepted, judged-passed, put-early, put-late}
use Rattle.by_plan.proofs.returned.judge_putting.Goals as goal

pub returns-in_err-judge_taking : goal.returns-in_err-judge_taking
returns-in_err-judge_taking c =
    let e : ◌≡◌ {A = Result (Unit {0}) Refusal} c.from_residual.result (Err c.in_err-judge_taking.field-0.0) = search rules in
    judged-passed _ _ (put-early _ _ _ _) _ c.judge_taking.ensures _ c.in_err-judge_taking.was _ e

pub returns-then-wide_address : goal.returns-then-wide_address
returns-then-wide_address c =
    let z = judged-accepted _ _ c.judge_taking.ensures c.in_ok-judge_taking.was in
    judged-refuses _ 27 (put-late _ _ _ _ z ∙ rw (sym c.wide_address.ensures ∙ c.if-wide_address.true)) (omega arith) _ c.from.ensures

pub returns-then-broken_returned : goal.returns-then-broken_returned
returns-then-broken_returned c =
    let z = judged-accepted _ _ c.judge_taking.ensures c.in_ok-judge_taking.was in
    judged-refuses _ 12 (put-late _ _ _ _ z ∙ rw (sym c.wide_address.ensures ∙ c.if-wide_address.false, sym c.broken_returned.ensures ∙ c.if-broken_returned.true)) (omega arith) _ c.from-then-broken_returned.ensures

pub returns : goal.returns
returns c =
    let z = judged-accepted _ _ c.judge_taking.ensures c.in_ok-judge_taking.was in
    judged-accepts _ (put-late _ _ _ _ z ∙ rw (sym c.wide_address.ensures ∙ c.if-wide_address.false, sym c.broken_returned.ensures ∙ c.if-broken_returned.false))
