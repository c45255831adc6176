-- Placing and gathering by a plan of an accepted description answer and leave what the description does. Assumes nothing.
use Rattle.std.specs.Prelude.{Err, Ok}
use mathlib.Core.Path.{◌≡◌, refl, sym, ap, ap₂, ◌∙◌}
use mathlib.Core.Bool.{Bool, true, false, cond, ◌&&◌}
use mathlib.Core.List.{List, ◌∷◌, ◌++◌}
use Prim.Native.Nat.{ℕ, zero, suc, ◌+◌}
use native.Mathlib.Nat.{zero-add}
use native.Mathlib.Decide.{ℕ_discrete}
use native.Mathlib.Omega.{arith}
use borrow.Author.Tests.{lt-ltb, le-ltb, eq-eqb, ne_eqb}
use lib.Dec.{ltb, eqb}
use lib.ListN.{length, get_or, take, drop, length-append, take-append-drop}
use Rattle.description.specs.Description.{arguments_in, argument_at, model_in}
use Rattle.form.specs.Order.{first}
use Rattle.form.specs.declared.Refusal.{Refusal}
use Rattle.form.specs.Reading.{refusal_of}
use Rattle.form.specs.Search.{first_from}
use Rattle.types.specs.Wrong.{refusal_for}
use Rattle.types.proofs.Wrong.{no_type}
use Rattle.layout.specs.Arguments.{hidden, area_of, used_at}
use Rattle.layout.specs.Layout.{values_of, layout_of}
use Rattle.layout.specs.Verdict.{verdict}
use Rattle.moving.specs.Address.{wrong_address}
use Rattle.moving.specs.Frames.{placed_in, gathered_in, own_address}
use Rattle.layout.specs.Arguments.{value_start}
use Rattle.moving.specs.Images.{frame_of, amd64}
use Rattle.moving.specs.Orders.{is_bool, broken_byte, broken_bool, first_broken, wrong_bool, wrong_length, place_refusal, gather_refusal}
use Rattle.moving.specs.Answers.{place_answer, registers_after, upper_after, stack_after, images_after, gather_answer, values_after}
use Rattle.moving.proofs.Orders.{gather-behind, place-before, place-behind, place-stopped}
use Rattle.moving.proofs.Amd64.{amd64-ordered, right-lent, placed-lent}
use Rattle.plans.specs.Plans.{bools_in, wrong_lengths, some_broken, place_refusal_by, gather_refusal_by, placed_by, gathered_by, place_answer_by, image_after_by, gather_answer_by, values_after_by}
use Rattle.plans.specs.Cuts.{bools_from, plan_of}
use Rattle.plans.specs.Statements.{PlacesByPlan, GathersByPlan}
use Rattle.plans.proofs.Theorems.{plan_bools, plan_area, plan_values, plan_vectors, plan_wide, plan_address, plan_well_formed, plan_places, plan_gathers}

pub eqb_past : (n a b : ℕ) → eqb (n + a) (n + b) ≡ eqb a b
eqb_past n a b = elim (ℕ_discrete a b) [ yes e ↦ eq-eqb (n + a) (n + b) (omega arith) ∙ sym (eq-eqb a b e) | no e ↦ ne_eqb (n + a) (n + b) (λ f. e (omega arith)) ∙ sym (ne_eqb a b e) ]

-- a refusal behind 1 to 10 names no type
pub late_refusal : (d : List ℕ) (a b c : Bool) → refusal_for d (cond a 11 (cond b 27 (cond c 12 0))) ≡ refusal_of (cond a 11 (cond b 27 (cond c 12 0)))
late_refusal d true b c = no_type d 11 refl refl
late_refusal d false true c = no_type d 27 refl refl
late_refusal d false false true = no_type d 12 refl refl
late_refusal d false false false = no_type d 0 refl refl

right-length : (b : Bool) → ◌≡◌ {A = ℕ} (cond b 11 0) 0 → b ≡ false
right-length true e = absurd (omega arith)
right-length false e = refl

module _ (d : List ℕ) where
  -- the _Bool bytes that the plan names are those of the _Bool arguments
  broken-from : (vals : List ℕ) (n i : ℕ) → some_broken vals (bools_from d i n) ≡ ltb (first_from (broken_bool amd64 d vals) i n) (i + n)
  unfolding bools_from first_from broken_byte
  broken-from vals zero i = sym (le-ltb i (i + 0) (omega arith))
  broken-from vals (suc n) i = by (is_bool d (argument_at d i)) (ltb 1 (get_or vals (value_start d i) 0)) refl (broken-from vals n (i + 1))
    where
      by : (b c : Bool) → ltb 1 (get_or vals (value_start d i) 0) ≡ c
          → some_broken vals (bools_from d (i + 1) n) ≡ ltb (first_from (broken_bool amd64 d vals) (i + 1) n) (i + 1 + n)
          → some_broken vals (cond b (value_start d i ∷ bools_from d (i + 1) n) (bools_from d (i + 1) n))
          ≡ ltb (cond (b && ltb 1 (get_or vals (value_start d i) 0)) i (first_from (broken_bool amd64 d vals) (i + 1) n)) (i + suc n)
      by true true e g = rw e (sym (lt-ltb i (i + suc n) (omega arith)))
      by true false e g = let q : i + suc n ≡ i + 1 + n = omega arith in rw (e, q) g
      by false c e g = let q : i + suc n ≡ i + 1 + n = omega arith in rw q g

  plan_broken : (vals : List ℕ) → some_broken vals (bools_in (plan_of d)) ≡ wrong_bool amd64 d vals
  unfolding wrong_bool
  plan_broken vals = rw (plan_bools d) (broken-from vals (arguments_in d) 0 ∙ ap (ltb (first_broken amd64 d vals)) (zero-add (arguments_in d)))

  plan_lengths : (values s : ℕ) → wrong_lengths (plan_of d) values (304 + s) ≡ wrong_length (layout_of d) values 176 128 s
  unfolding wrong_length layout_of
  plan_lengths values s = rw (plan_values d, plan_area d, eqb_past 304 s (area_of d))

  module _ (accepted : verdict d ≡ 0) where
    module _ (h : ℕ) (vals : List ℕ) (s : ℕ) where
      abbrev L : Bool
      L = wrong_length (layout_of d) (length vals) 176 128 s

      abbrev A : Bool
      A = wrong_address (model_in d) (hidden d) h

      abbrev B : Bool
      B = wrong_bool amd64 d vals

      place_is : place_refusal amd64 d h vals 176 128 s ≡ cond L 11 (cond A 27 (cond B 12 0))
      unfolding verdict
      place_is = by L A B refl refl refl
        where
          gathers : (b : Bool) → L ≡ b → gather_refusal amd64 d (length vals) 176 128 s ≡ cond b 11 0
          gathers b e = gather-behind amd64 amd64-ordered d (length vals) 176 128 s accepted b e

          by : (a b c : Bool) → L ≡ a → A ≡ b → B ≡ c → place_refusal amd64 d h vals 176 128 s ≡ cond a 11 (cond b 27 (cond c 12 0))
          by true b c e f g = place-before amd64 amd64-ordered d h vals 176 128 s (λ z. omega (arith, gathers true e, z)) ∙ gathers true e
          by false true c e f g =
              let stops : first (amd64.address_order d h) ≡ 27 = rw f in
              place-stopped amd64 amd64-ordered d h vals 176 128 s (gathers false e) (λ z. omega (arith, stops, z)) ∙ stops
          by false false c e f g = place-behind amd64 amd64-ordered d h vals 176 128 s (gathers false e) (f, tt) c g

      place-by : place_refusal_by (plan_of d) h vals (304 + s) ≡ cond L 11 (cond A 27 (cond B 12 0))
      unfolding place_refusal_by
      place-by = rw (plan_well_formed d accepted, plan_lengths (length vals) s, plan_wide d h, plan_broken vals)

      -- the same refusals
      pub plan_place_refusal : place_refusal_by (plan_of d) h vals (304 + s) ≡ place_refusal amd64 d h vals 176 128 s
      plan_place_refusal = place-by ∙ sym place_is

      pub plan_place_answer : place_answer_by (plan_of d) h vals (304 + s) ≡ place_answer amd64 d h vals 176 128 s
      unfolding place_answer_by place_answer
      plan_place_answer =
          let n = place_refusal amd64 d h vals 176 128 s in
          let told : refusal_for d n ≡ refusal_of n = rw place_is (late_refusal d L A B) in
          rw (plan_place_refusal, plan_vectors d) (ap (λ (x : Refusal). cond (eqb n 0) (Ok (used_at d (arguments_in d)).vector) (Err x)) (sym told))

    module _ (values s : ℕ) where
      gather-is : gather_refusal amd64 d values 176 128 s ≡ cond (wrong_length (layout_of d) values 176 128 s) 11 0
      unfolding verdict
      gather-is = gather-behind amd64 amd64-ordered d values 176 128 s accepted (wrong_length (layout_of d) values 176 128 s) refl

      pub plan_gather_refusal : gather_refusal_by (plan_of d) values (304 + s) ≡ gather_refusal amd64 d values 176 128 s
      unfolding gather_refusal_by
      plan_gather_refusal = rw (plan_well_formed d accepted, plan_lengths values s) (sym gather-is)

    -- what is left in the images, one behind the other
    module _ (h : ℕ) (vals r y s : List ℕ) (l : length r ≡ 176) (m : length y ≡ 128) where
      room-is : length (r ++ (y ++ s)) ≡ 304 + length s
      room-is = length-append r (y ++ s) ∙ ap₂ (λ (a b : ℕ). a + b) l (length-append y s ∙ ap (λ (n : ℕ). n + length s) m) ∙ omega arith

      abbrev n : ℕ
      n = place_refusal amd64 d h vals 176 128 (length s)

      abbrev P : List ℕ
      P = placed_in (frame_of d) h vals

      pub plan_image : image_after_by (plan_of d) h vals (r ++ (y ++ s)) ≡ images_after amd64 d h vals r y s
      unfolding image_after_by registers_after upper_after stack_after
      plan_image = rw (room-is, plan_place_refusal h vals (length s), l, m) (by (ℕ_discrete (place_refusal amd64 d h vals 176 128 (length s)) 0))
        where
          by : Dec (n ≡ 0) → cond (eqb n 0) (placed_by (plan_of d) h vals) (r ++ (y ++ s))
              ≡ cond (eqb n 0) (take 176 P) r ++ (cond (eqb n 0) (take 128 (drop 176 P)) y ++ cond (eqb n 0) (drop 128 (drop 176 P)) s)
          by (yes e) =
              rw (eq-eqb n 0 e)
              (plan_places d accepted h vals (placed-lent d h vals 176 128 (length s) e).values
              ∙ sym (take-append-drop 176 P) ∙ ap (λ (x : List ℕ). take 176 P ++ x) (sym (take-append-drop 128 (drop 176 P))))
          by (no e) = rw (ne_eqb n 0 e)

    module _ (vals r y s : List ℕ) (l : length r ≡ 176) (m : length y ≡ 128) where
      abbrev G : ℕ
      G = gather_refusal amd64 d (length vals) 176 128 (length s)

      pub plan_gather_answer : gather_answer_by (plan_of d) (r ++ (y ++ s)) (length vals) ≡ gather_answer amd64 d r y s (length vals)
      unfolding gather_answer_by gather_answer
      plan_gather_answer =
          let told : refusal_for d G ≡ refusal_of G = rw (gather-is (length vals) (length s)) (late_refusal d (wrong_length (layout_of d) (length vals) 176 128 (length s)) false false) in
          rw (room-is 0 vals r y s l m, plan_gather_refusal (length vals) (length s), l, m, plan_address d accepted (r ++ (y ++ s)))
          (ap (λ (x : Refusal). cond (eqb G 0) (Ok (own_address (frame_of d) (r ++ (y ++ s)))) (Err x)) (sym told))

      pub plan_values_after : values_after_by (plan_of d) (r ++ (y ++ s)) vals ≡ values_after amd64 d r y s vals
      unfolding values_after_by values_after
      plan_values_after = rw (room-is 0 vals r y s l m, plan_gather_refusal (length vals) (length s), l, m) (by (ℕ_discrete G 0))
        where
          by : Dec (G ≡ 0) → cond (eqb G 0) (gathered_by (plan_of d) (r ++ (y ++ s)) vals) vals ≡ cond (eqb G 0) (gathered_in (frame_of d) (r ++ (y ++ s))) vals
          by (yes e) = rw (eq-eqb G 0 e) (plan_gathers d accepted (r ++ (y ++ s)) vals (lengths e))
            where
              lengths : G ≡ 0 → length vals ≡ values_of d
              lengths z = (right-lent d (length vals) 176 128 (length s) accepted (right-length (wrong_length (layout_of d) (length vals) 176 128 (length s)) (sym (gather-is (length vals) (length s)) ∙ z))).values
          by (no e) = rw (ne_eqb G 0 e)

pub places-by_plan : PlacesByPlan
places-by_plan d a h vals r y s l m =
    (rw (room-is d a h vals r y s l m, l, m) (plan_place_answer d a h vals (length s)), plan_image d a h vals r y s l m)

pub gathers_by_plan : GathersByPlan
gathers_by_plan d a r y s v l m = (plan_gather_answer d a v r y s l m, plan_values_after d a v r y s l m)
