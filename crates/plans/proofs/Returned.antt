-- Putting and taking by a plan of an accepted description answer and leave what the description does. Assumes nothing.
use Rattle.std.specs.Prelude.{Err, Ok}
use mathlib.Core.Path.{◌≡◌, refl, sym, ap, ap₂, ◌∙◌}
use mathlib.Core.Bool.{Bool, true, false, cond, not, ◌&&◌}
use mathlib.Core.List.{List, [], ◌∷◌, ◌++◌, append-nil}
use Prim.Native.Nat.{ℕ, ◌+◌}
use native.Mathlib.Decide.{ℕ_discrete}
use borrow.Author.Tests.{eq-eqb, ne_eqb}
use lib.Dec.{ltb, eqb}
use lib.ListN.{length, get_or, take, drop, replicate, length-append, take-append-drop}
use Rattle.addresses.specs.Addresses.{run, gather, scatter}
use Rattle.description.specs.Description.{model_in, return_in}
use Rattle.form.specs.declared.Refusal.{Refusal}
use Rattle.form.specs.Order.{rule}
use Rattle.form.specs.Reading.{refusal_of}
use Rattle.form.proofs.Order.{first-behind}
use Rattle.types.specs.Wrong.{refusal_for}
use Rattle.layout.specs.Arguments.{hidden, is_void, return_place}
use Rattle.layout.specs.Verdict.{check_order, verdict}
use Rattle.layout.proofs.Verdict.{check-positive}
use Rattle.moving.specs.Address.{wrong_address}
use Rattle.moving.specs.Orders.{is_bool, broken_byte}
use Rattle.returning.specs.Moved.{parts_of, sources as sources_of, targets as targets_of}
use Rattle.returning.specs.Image.{blank_return, return_image, return_value, returned_address}
use Rattle.returning.specs.Returned.{return_length}
use Rattle.returning.specs.Orders.{wrong_length, wrong_bool, put_refusal, take_refusal}
use Rattle.returning.specs.Answers.{put_answer, image_after, upper_after, images_after, take_answer, value_after}
use Rattle.returning.proofs.Values.{memory_hidden}
use Rattle.returning.proofs.Orders.{put-accepted, take-accepted}
use Rattle.plans.specs.Moves.{Move, turned_all, sources, targets}
use Rattle.plans.specs.Returned.{wrong_returned, broken_returned, put_refusal_by, take_refusal_by, put_by, taken_by, address_by, put_answer_by, return_image_by, take_answer_by, returned_after_by}
use Rattle.plans.specs.Cuts.{move_of, head_of, plan_of}
use Rattle.plans.specs.Statements.{PutsByPlan, TakesByPlan}
use Rattle.plans.proofs.Moves.{move_all-scatter, targets-turned, sources-turned}
use Rattle.plans.proofs.Answers.{eqb_past, late_refusal}
use Rattle.plans.proofs.Theorems.{plan_used, plan_wide, plan_returned, plan_return_moves, plan_returns_formed}

module _ (d : List ℕ) where
  abbrev R : List Move
  R = move_of (parts_of (return_place d) (return_length d)).low ∷ move_of (parts_of (return_place d) (return_length d)).high ∷ []

  return_sources : sources R ≡ sources_of (return_place d) (return_length d)
  unfolding sources_of
  return_sources =
      ap (λ (l : List ℕ). run (parts_of (return_place d) (return_length d)).low.from.0 (parts_of (return_place d) (return_length d)).low.count.0 ++ l)
      (append-nil (run (parts_of (return_place d) (return_length d)).high.from.0 (parts_of (return_place d) (return_length d)).high.count.0))

  return_targets : targets R ≡ targets_of (return_place d) (return_length d)
  unfolding targets_of
  return_targets =
      ap (λ (l : List ℕ). run (parts_of (return_place d) (return_length d)).low.to.0 (parts_of (return_place d) (return_length d)).low.count.0 ++ l)
      (append-nil (run (parts_of (return_place d) (return_length d)).high.to.0 (parts_of (return_place d) (return_length d)).high.count.0))

  -- THE THEOREM: a plan puts and takes what the description does
  pub plan_puts : (h : ℕ) (v : List ℕ) → length v ≡ return_length d → put_by (plan_of d) h v ≡ return_image (return_place d) h v
  unfolding put_by return_image
  plan_puts h v l =
      rw (plan_return_moves d, plan_used d, memory_hidden d, l)
      (move_all-scatter R (blank_return (hidden d) h) v ∙ ap₂ (λ (a b : List ℕ). scatter (blank_return (hidden d) h) a (gather v b)) return_targets return_sources)

  pub plan_takes : (image : List ℕ) → taken_by (plan_of d) image (return_length d) ≡ return_value (return_place d) (return_length d) image
  unfolding taken_by return_value
  plan_takes image =
      rw (plan_return_moves d)
      (move_all-scatter (turned_all R) (replicate (return_length d) 0) image
      ∙ ap₂ (λ (a b : List ℕ). scatter (replicate (return_length d) 0) a (gather image b)) (targets-turned R ∙ return_sources) (sources-turned R ∙ return_targets))

  plan_taken_address : (image : List ℕ) → address_by (plan_of d) image ≡ returned_address (return_place d) image
  unfolding address_by returned_address
  plan_taken_address image = rw (plan_used d, memory_hidden d)

  plan_return_lengths : (v y : ℕ) → wrong_returned (plan_of d) v (80 + y) ≡ wrong_length (return_length d) v 80 y
  unfolding wrong_length
  plan_return_lengths v y = rw (plan_returned d, eqb_past 80 y 16)

  plan_return_broken : (v : List ℕ) → broken_returned (plan_of d) v ≡ wrong_bool d v
  unfolding wrong_bool broken_byte plan_of head_of
  plan_return_broken v = by (is_void d) (is_bool d (return_in d)) (ltb 1 (get_or v 0 0))
    where
      by : (a b c : Bool) → (not (eqb (cond (not a && b) 1 0) 0) && c) ≡ (not a && (b && c))
      by true b c = refl
      by false true c = refl
      by false false c = refl

  module _ (accepted : verdict d ≡ 0) where
    module _ (h : ℕ) (v : List ℕ) (y : ℕ) where
      abbrev L : Bool
      L = wrong_length (return_length d) (length v) 80 y

      abbrev A : Bool
      A = wrong_address (model_in d) (hidden d) h

      abbrev B : Bool
      B = wrong_bool d v

      put_is : put_refusal d h v 80 y ≡ cond L 11 (cond A 27 (cond B 12 0))
      unfolding put_refusal verdict
      put_is = first-behind (check_order d) (rule 11 L ∷ rule 27 A ∷ rule 12 B ∷ []) (check-positive d) accepted

      pub plan_put_refusal : put_refusal_by (plan_of d) h v (80 + y) ≡ put_refusal d h v 80 y
      unfolding put_refusal_by
      plan_put_refusal = rw (plan_returns_formed d accepted, plan_return_lengths (length v) y, plan_wide d h, plan_return_broken v) (sym put_is)

      plan_put_answer : put_answer_by (plan_of d) h v (80 + y) ≡ put_answer d h v 80 y
      unfolding put_answer_by put_answer
      plan_put_answer =
          let n = put_refusal d h v 80 y in
          let told : refusal_for d n ≡ refusal_of n = rw put_is (late_refusal d L A B) in
          rw plan_put_refusal (ap (λ (x : Refusal). cond (eqb n 0) (Ok tt) (Err x)) (sym told))

    module _ (h : ℕ) (v i y : List ℕ) (l : length i ≡ 80) where
      room-is : length (i ++ y) ≡ 80 + length y
      room-is = length-append i y ∙ ap (λ (n : ℕ). n + length y) l

      abbrev n : ℕ
      n = put_refusal d h v 80 (length y)

      abbrev P : List ℕ
      P = return_image (return_place d) h v

      plan_put_image : return_image_by (plan_of d) h v (i ++ y) ≡ images_after d h v i y
      unfolding return_image_by image_after upper_after
      plan_put_image = rw (room-is, plan_put_refusal h v (length y), l) (by (ℕ_discrete n 0))
        where
          by : Dec (n ≡ 0) → cond (eqb n 0) (put_by (plan_of d) h v) (i ++ y) ≡ cond (eqb n 0) (take 80 P) i ++ cond (eqb n 0) (drop 80 P) y
          by (yes e) = rw (eq-eqb n 0 e) (plan_puts h v (put-accepted d h v 80 (length y) e).0.value ∙ sym (take-append-drop 80 P))
          by (no e) = rw (ne_eqb n 0 e)

    module _ (i y v : List ℕ) (l : length i ≡ 80) where
      abbrev T : ℕ
      T = take_refusal d i y (length v)

      take-is : T ≡ cond (wrong_length (return_length d) (length v) 80 (length y)) 11 0
      unfolding take_refusal verdict
      take-is = first-behind (check_order d) (rule 11 (wrong_length (return_length d) (length v) (length i) (length y)) ∷ []) (check-positive d) accepted ∙ rw l

      plan_take_refusal : take_refusal_by (plan_of d) (length v) (80 + length y) ≡ T
      unfolding take_refusal_by
      plan_take_refusal = rw (plan_returns_formed d accepted, plan_return_lengths (length v) (length y)) (sym take-is)

      plan_take_answer : take_answer_by (plan_of d) (i ++ y) (length v) ≡ take_answer d i y (length v)
      unfolding take_answer_by take_answer
      plan_take_answer =
          let told : refusal_for d T ≡ refusal_of T = rw take-is (late_refusal d (wrong_length (return_length d) (length v) 80 (length y)) false false) in
          rw (room-is 0 v i y l, plan_take_refusal, plan_taken_address (i ++ y))
          (ap (λ (x : Refusal). cond (eqb T 0) (Ok (returned_address (return_place d) (i ++ y))) (Err x)) (sym told))

      plan_take_value : returned_after_by (plan_of d) (i ++ y) v ≡ value_after d i y v
      unfolding returned_after_by value_after
      plan_take_value = rw (room-is 0 v i y l, plan_take_refusal) (by (ℕ_discrete T 0))
        where
          by : Dec (T ≡ 0) → cond (eqb T 0) (taken_by (plan_of d) (i ++ y) (length v)) v ≡ cond (eqb T 0) (return_value (return_place d) (length v) (i ++ y)) v
          by (yes e) =
              let k : length v ≡ return_length d = ((take-accepted d i y (length v)).0 e).value in
              rw (eq-eqb T 0 e, k) (plan_takes (i ++ y))
          by (no e) = rw (ne_eqb T 0 e)

pub puts-by_plan : PutsByPlan
puts-by_plan d a h v i y l m = (rw (room-is d a h v i y l, l) (plan_put_answer d a h v (length y)), plan_put_image d a h v i y l)

pub takes_by-plan : TakesByPlan
takes_by-plan d a i y v l m = (plan_take_answer d a i y v l, plan_take_value d a i y v l)
