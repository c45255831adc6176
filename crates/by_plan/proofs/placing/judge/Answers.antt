-- 30 and 11 as gathering, then 27 and 12.
-- Assumes nothing.
use mathlib.Core.Path.{◌≡◌, sym, ◌∙◌}
use native.Mathlib.Omega.{arith}
use Rattle.std.specs.Prelude.{Err, Result}
use Rattle.std.proofs.Common.{rules}
use Rattle.form.specs.declared.Refusal.{Refusal}
use Rattle.by_plan.proofs.Verdicts.{judged-accepts, judged-refuses, judged-accepted, judged-passed, formed, gather-sure, place-early, place-late}
use Rattle.by_plan.proofs.placing.judge.Goals as goal

pub returns-in_err-judge : goal.returns-in_err-judge
returns-in_err-judge c =
    let e : ◌≡◌ {A = Result (Unit {0}) Refusal} c.from_residual.result (Err c.in_err-judge.field-0.0) = search rules in
    judged-passed _ _ (place-early _ _ _ _) _ c.judge.ensures _ c.in_err-judge.was _ e

pub returns-then-wide_address : goal.returns-then-wide_address
returns-then-wide_address c =
    let z = judged-accepted _ _ c.judge.ensures c.in_ok-judge.was in
    judged-refuses _ 27 (place-late _ _ _ _ z ∙ rw (sym c.wide_address.ensures ∙ c.if-wide_address.true)) (omega arith) _ c.from.ensures

pub lists-requires : goal.lists-requires
lists-requires c = (formed _ (gather-sure _ _ _ (judged-accepted _ _ c.judge.ensures c.in_ok-judge.was)).0).ends

pub some_broken-requires : goal.some_broken-requires
some_broken-requires c =
    let s = gather-sure _ _ _ (judged-accepted _ _ c.judge.ensures c.in_ok-judge.was) in
    rw (s.1.0, c.lists.ensures.bools) (formed _ s.0).bools

pub returns-then-some_broken : goal.returns-then-some_broken
returns-then-some_broken c =
    let z = judged-accepted _ _ c.judge.ensures c.in_ok-judge.was in
    judged-refuses _ 12 (place-late _ _ _ _ z ∙ rw (sym c.wide_address.ensures ∙ c.if-wide_address.false, ← c.lists.ensures.bools, sym c.some_broken.ensures ∙ c.if-some_broken.true)) (omega arith) _ c.from-then-some_broken.ensures

pub returns : goal.returns
returns c =
    let z = judged-accepted _ _ c.judge.ensures c.in_ok-judge.was in
    judged-accepts _ (place-late _ _ _ _ z ∙ rw (sym c.wide_address.ensures ∙ c.if-wide_address.false, ← c.lists.ensures.bools, sym c.some_broken.ensures ∙ c.if-some_broken.false))
