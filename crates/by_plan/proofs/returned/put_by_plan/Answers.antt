-- A refusal leaves the images; else they are blank, and then both moves are made.
-- Assumes nothing.
use mathlib.Core.Path.{◌≡◌, ap, ◌∙◌}
use lib.ListN.{length}
use Rattle.std.specs.Prelude.{Err, Result}
use Rattle.std.proofs.Common.{rules}
use Rattle.form.specs.declared.Refusal.{Refusal}
use Rattle.plans.specs.Plans.{used_by}
use Rattle.plans.specs.Returned.{return_moves_in, put_refusal_by}
use Rattle.by_plan.proofs.Verdicts.{judged-accepted, accepted-for, refused-for, put-short}
use Rattle.by_plan.proofs.Ends.{put-kept, put-room, put-fits, put-done}
use Rattle.by_plan.proofs.returned.put_by_plan.Goals as goal

pub returns-in_err-head : goal.returns-in_err-head
returns-in_err-head c =
    let e : ◌≡◌ {A = Result (Unit {0}) Refusal} c.from_residual.result (Err c.in_err-head.field-0.0) = search rules in
    let k = put-short c.args.plan.now c.in_err-head.ensures.short.1 c.args.hidden c.args.value.now (length c.args.image.now) _ c.in_err-head.ensures.short.0 in
    put-kept c.args.plan.now c.args.hidden c.args.value.now c.args.image.now k.0 _ k.1 _ e

pub returns-in_err-judge_putting : goal.returns-in_err-judge_putting
returns-in_err-judge_putting c =
    let e : ◌≡◌ {A = Result (Unit {0}) Refusal} c.from_residual-in_err-judge_putting.result (Err c.in_err-judge_putting.field-0.0) = search rules in
    let k = refused-for (λ p. put_refusal_by p c.args.hidden c.args.value.now (length c.args.image.now)) _ _ c.in_ok-head.ensures.headed _ c.judge_putting.ensures _ c.in_err-judge_putting.was in
    put-kept c.args.plan.now c.args.hidden c.args.value.now c.args.image.now k.0 _ k.1 _ e

pub blank_return-requires : goal.blank_return-requires
blank_return-requires c = put-room c.in_ok-head.head.numbers.now c.args.hidden c.args.value.now c.args.image.now (judged-accepted _ _ c.judge_putting.ensures c.in_ok-judge_putting.was)

pub move_parts-requires : goal.move_parts-requires
move_parts-requires c = put-fits c.in_ok-head.head.numbers.now c.args.hidden c.args.value.now c.args.image.now (judged-accepted _ _ c.judge_putting.ensures c.in_ok-judge_putting.was) _ _ c.blank_return.ensures _ c.returned.ensures

pub returns : goal.returns
returns c =
    let same = c.in_ok-head.ensures.headed in
    let zero = accepted-for (λ p. put_refusal_by p c.args.hidden c.args.value.now (length c.args.image.now)) _ _ same _ c.judge_putting.ensures c.in_ok-judge_putting.was in
    put-done c.args.plan.now c.args.hidden c.args.value.now c.args.image.now zero _ (c.uses_address.ensures ∙ ap used_by same) _ _ c.blank_return.ensures
    _ (c.returned.ensures ∙ ap return_moves_in same) c.move_parts.ensures
