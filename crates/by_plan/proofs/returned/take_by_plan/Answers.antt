-- A refusal leaves the value; else it is zero, and then both moves are made.
-- Assumes nothing.
use mathlib.Core.Path.{◌≡◌, ap, ◌∙◌}
use mathlib.Core.Bool.{cond}
use mathlib.Core.List.{List}
use Prim.Native.Nat.{ℕ}
use lib.ListN.{length}
use Rattle.std.specs.Prelude.{Err, Result}
use Rattle.std.proofs.Common.{rules}
use Rattle.form.specs.declared.Refusal.{Refusal}
use Rattle.images.specs.Words.{address_in}
use Rattle.plans.specs.Plans.{used_by}
use Rattle.plans.specs.Returned.{return_moves_in, take_refusal_by}
use Rattle.by_plan.proofs.Verdicts.{judged-accepted, accepted-for, refused-for, take-short}
use Rattle.by_plan.proofs.Ends.{take-kept, take-room, take-fits, take-done}
use Rattle.by_plan.proofs.returned.take_by_plan.Goals as goal

pub returns-in_err-head : goal.returns-in_err-head
returns-in_err-head c =
    let e : ◌≡◌ {A = Result ℕ Refusal} c.from_residual.result (Err c.in_err-head.field-0.0) = search rules in
    let k = take-short c.args.plan.now c.in_err-head.ensures.short.1 0 c.args.value.now (length c.args.image.now) _ c.in_err-head.ensures.short.0 in
    take-kept c.args.plan.now c.args.image.now c.args.value.now k.0 _ k.1 _ e

pub returns-in_err-judge_taking : goal.returns-in_err-judge_taking
returns-in_err-judge_taking c =
    let e : ◌≡◌ {A = Result ℕ Refusal} c.from_residual-in_err-judge_taking.result (Err c.in_err-judge_taking.field-0.0) = search rules in
    let k = refused-for (λ p. take_refusal_by p (length c.args.value.now) (length c.args.image.now)) _ _ c.in_ok-head.ensures.headed _ c.judge_taking.ensures _ c.in_err-judge_taking.was in
    take-kept c.args.plan.now c.args.image.now c.args.value.now k.0 _ k.1 _ e

pub move_parts-requires : goal.move_parts-requires
move_parts-requires c = take-fits c.in_ok-head.head.numbers.now c.args.image.now c.args.value.now (judged-accepted _ _ c.judge_taking.ensures c.in_ok-judge_taking.was) _ c.clear.ensures _ c.returned.ensures

pub address_in-requires : goal.address_in-requires
address_in-requires c = take-room c.in_ok-head.head.numbers.now c.args.image.now c.args.value.now (judged-accepted _ _ c.judge_taking.ensures c.in_ok-judge_taking.was)

pub returns : goal.returns
returns c =
    let same = c.in_ok-head.ensures.headed in
    let zero = accepted-for (λ p. take_refusal_by p (length c.args.value.now) (length c.args.image.now)) _ _ same _ c.judge_taking.ensures c.in_ok-judge_taking.was in
    take-done c.args.plan.now c.args.image.now c.args.value.now zero _ (c.address_in.ensures ∙ ap (λ (p : List ℕ). cond (used_by p) (address_in c.args.image.now) 0) same)
    _ _ c.clear.ensures _ (c.returned.ensures ∙ ap return_moves_in same) c.move_parts.ensures
