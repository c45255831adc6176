-- A refusal leaves the images; else they are blank, and then all is moved.
-- Assumes nothing.
use mathlib.Core.Path.{◌≡◌, ap, ◌∙◌}
use mathlib.Core.List.{List}
use Prim.Native.Nat.{ℕ}
use lib.ListN.{length, get_or}
use Rattle.std.specs.Prelude.{Err, Result}
use Rattle.std.proofs.Common.{rules}
use Rattle.units.specs.declared.Registers.{Registers}
use Rattle.form.specs.declared.Refusal.{Refusal}
use Rattle.plans.specs.Plans.{moves_in, used_by, place_refusal_by}
use Rattle.by_plan.proofs.Verdicts.{judged-accepted, accepted-for, refused-for, place-short}
use Rattle.by_plan.proofs.Ends.{place_kept, place-ends, place-room, place-fits, place-done}
use Rattle.by_plan.proofs.placing.place_by_plan.Goals as goal

pub returns-in_err-head : goal.returns-in_err-head
returns-in_err-head c =
    let e : ◌≡◌ {A = Result Registers Refusal} c.from_residual.result (Err c.in_err-head.field-0.0) = search rules in
    let k = place-short c.args.plan.now c.in_err-head.ensures.short.1 c.args.hidden c.args.values.now (length c.args.image.now) _ c.in_err-head.ensures.short.0 in
    place_kept c.args.plan.now c.args.hidden c.args.values.now c.args.image.now k.0 _ k.1 _ e

pub returns-in_err-judge : goal.returns-in_err-judge
returns-in_err-judge c =
    let e : ◌≡◌ {A = Result Registers Refusal} c.from_residual-in_err-judge.result (Err c.in_err-judge.field-0.0) = search rules in
    let k = refused-for (λ p. place_refusal_by p c.args.hidden c.args.values.now (length c.args.image.now)) _ _ c.in_ok-head.ensures.headed _ c.judge.ensures _ c.in_err-judge.was in
    place_kept c.args.plan.now c.args.hidden c.args.values.now c.args.image.now k.0 _ k.1 _ e

pub blank_image-requires : goal.blank_image-requires
blank_image-requires c = place-room c.in_ok-head.head.numbers.now c.args.hidden c.args.values.now c.args.image.now (judged-accepted _ _ c.judge.ensures c.in_ok-judge.was)

pub lists-requires : goal.lists-requires
lists-requires c = place-ends c.in_ok-head.head.numbers.now c.args.hidden c.args.values.now c.args.image.now (judged-accepted _ _ c.judge.ensures c.in_ok-judge.was)

pub move_all-requires : goal.move_all-requires
move_all-requires c = place-fits c.in_ok-head.head.numbers.now c.args.hidden c.args.values.now c.args.image.now (judged-accepted _ _ c.judge.ensures c.in_ok-judge.was) _ _ c.blank_image.ensures _ c.lists.ensures.moves

pub returns : goal.returns
returns c =
    let same = c.in_ok-head.ensures.headed in
    let zero = accepted-for (λ p. place_refusal_by p c.args.hidden c.args.values.now (length c.args.image.now)) _ _ same _ c.judge.ensures c.in_ok-judge.was in
    place-done c.args.plan.now c.args.hidden c.args.values.now c.args.image.now zero _ (c.uses_address.ensures ∙ ap used_by same) _ _ c.blank_image.ensures
    _ (c.lists.ensures.moves ∙ ap moves_in same) c.move_all.ensures _ (c.at.ensures.0 ∙ ap (λ (p : List ℕ). get_or p 2 0) same)
