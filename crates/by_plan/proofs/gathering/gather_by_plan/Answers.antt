-- A refusal leaves the values; else all is moved.
-- Assumes nothing.
use mathlib.Core.Path.{◌≡◌, ap, ◌∙◌}
use mathlib.Core.Bool.{cond}
use mathlib.Core.List.{List}
use Prim.Native.Nat.{ℕ}
use lib.ListN.{length}
use Rattle.std.specs.Prelude.{Err, Result}
use Rattle.std.proofs.Common.{rules}
use Rattle.form.specs.declared.Refusal.{Refusal}
use Rattle.images.specs.Words.{address_in}
use Rattle.plans.specs.Plans.{moves_in, used_by, gather_refusal_by}
use Rattle.by_plan.proofs.Verdicts.{judged-accepted, accepted-for, refused-for, gather-short}
use Rattle.by_plan.proofs.Ends.{gather-kept, gather-ends, gather-room, gather-fits, gather-done}
use Rattle.by_plan.proofs.gathering.gather_by_plan.Goals as goal

pub returns-in_err-head : goal.returns-in_err-head
returns-in_err-head c =
    let e : ◌≡◌ {A = Result ℕ Refusal} c.from_residual.result (Err c.in_err-head.field-0.0) = search rules in
    let k = gather-short c.args.plan.now c.in_err-head.ensures.short.1 0 c.args.values.now (length c.args.image.now) _ c.in_err-head.ensures.short.0 in
    gather-kept c.args.plan.now c.args.image.now c.args.values.now k.0 _ k.1 _ e

pub returns-in_err-judge : goal.returns-in_err-judge
returns-in_err-judge c =
    let e : ◌≡◌ {A = Result ℕ Refusal} c.from_residual-in_err-judge.result (Err c.in_err-judge.field-0.0) = search rules in
    let k = refused-for (λ p. gather_refusal_by p (length c.args.values.now) (length c.args.image.now)) _ _ c.in_ok-head.ensures.headed _ c.judge.ensures _ c.in_err-judge.was in
    gather-kept c.args.plan.now c.args.image.now c.args.values.now k.0 _ k.1 _ e

pub lists-requires : goal.lists-requires
lists-requires c = gather-ends c.in_ok-head.head.numbers.now c.args.image.now c.args.values.now (judged-accepted _ _ c.judge.ensures c.in_ok-judge.was)

pub move_all-requires : goal.move_all-requires
move_all-requires c = gather-fits c.in_ok-head.head.numbers.now c.args.image.now c.args.values.now (judged-accepted _ _ c.judge.ensures c.in_ok-judge.was) _ c.lists.ensures.moves

pub address_in-requires : goal.address_in-requires
address_in-requires c = gather-room c.in_ok-head.head.numbers.now c.args.image.now c.args.values.now (judged-accepted _ _ c.judge.ensures c.in_ok-judge.was)

pub returns : goal.returns
returns c =
    let same = c.in_ok-head.ensures.headed in
    let zero = accepted-for (λ p. gather_refusal_by p (length c.args.values.now) (length c.args.image.now)) _ _ same _ c.judge.ensures c.in_ok-judge.was in
    gather-done c.args.plan.now c.args.image.now c.args.values.now zero _ (c.address_in.ensures ∙ ap (λ (p : List ℕ). cond (used_by p) (address_in c.args.image.now) 0) same)
    _ _ (c.lists.ensures.moves ∙ ap moves_in same) c.move_all.ensures
