-- What is judged of a plan, and what a judgement makes sure of. Assumes nothing.
use mathlib.Core.Path.{◌≡◌, refl, sym, ap, ◌∙◌}
use mathlib.Core.Bool.{Bool, true, false, cond, not, ◌&&◌, ◌||◌, and-eq-true_iff, or-true}
use mathlib.Core.List.{List, [], ◌∷◌}
use Prim.Native.Nat.{ℕ, ◌≤◌, ◌<◌}
use native.Mathlib.Omega.{arith}
use borrow.Author.Tests.{le-leb, lt-leb, leb-true, eq-eqb, ne_eqb, eqb-true}
use lib.Dec.{leb, eqb}
use lib.ListN.{length}
use Rattle.std.specs.Prelude.{Err, Ok, Result}
use Rattle.form.specs.Order.{rule, first}
use Rattle.form.specs.declared.Refusal.{Refusal}
use Rattle.form.specs.Reading.{refusal_of}
use Rattle.plans.specs.Moves.{all_fit}
use Rattle.plans.specs.Plans.{values_in, image_in, end_of, moves_in, bools_in, all_below, well_formed, wrong_lengths, wide_address, some_broken, gather_refusal_by, place_refusal_by}
use Rattle.plans.specs.Returned.{returned_in, return_moves_in, returns_formed, broken_returned, wrong_returned, take_refusal_by, put_refusal_by}
use Rattle.by_plan.specs.Judged.{judged}

-- ---- a judgement and its number

pub judged-accepts : (n : ℕ) → n ≡ 0 → ◌≡◌ {A = Result (Unit {0}) Refusal} (Ok tt) (judged n)
judged-accepts n e = rw e

pub judged-refuses : (n k : ℕ) → n ≡ k → 0 < k → (x : Refusal) → x ≡ refusal_of k → ◌≡◌ {A = Result (Unit {0}) Refusal} (Err x) (judged n)
judged-refuses n k e p x q = rw (e, ne_eqb k 0 (λ z. absurd (omega arith))) (ap Err q)

pub judged-accepted : (n : ℕ) (x : Result (Unit {0}) Refusal) → x ≡ judged n → x ≡ Ok tt → n ≡ 0
judged-accepted n x e f = by (eqb n 0) refl (sym e ∙ f)
  where
    by : (b : Bool) → eqb n 0 ≡ b → cond {A = Result (Unit {0}) Refusal} b (Ok tt) (Err (refusal_of n)) ≡ Ok tt → n ≡ 0
    by true q g = eqb-true n 0 q
    by false q g = cc

pub judged-refused : (n : ℕ) (x : Result (Unit {0}) Refusal) → x ≡ judged n → (r : Refusal) → x ≡ Err r → (n ≡ 0 → ⊥) × (r ≡ refusal_of n)
judged-refused n x e r f = by (eqb n 0) refl (sym e ∙ f)
  where
    by : (b : Bool) → eqb n 0 ≡ b → cond {A = Result (Unit {0}) Refusal} b (Ok tt) (Err (refusal_of n)) ≡ Err r → (n ≡ 0 → ⊥) × (r ≡ refusal_of n)
    by true q g = cc
    by false q g = ((λ z. absurd (cc (eq-eqb n 0 z))), cc)

-- one judgement passes another's refusal on
pub judged-passed : (n m : ℕ) → ((n ≡ 0 → ⊥) → m ≡ n) → (x : Result (Unit {0}) Refusal) → x ≡ judged n → (r : Refusal) → x ≡ Err r → (y : Result (Unit {0}) Refusal) → y ≡ Err r → y ≡ judged m
judged-passed n m same x e r f y g =
    let p = judged-refused n x e r f in
    g ∙ ap Err p.1 ∙ sym (rw (same p.0, ne_eqb n 0 p.0))

-- the same of equal numbers
module _ (f : List ℕ → ℕ) (head plan : List ℕ) (same : head ≡ plan) (x : Result (Unit {0}) Refusal) (e : x ≡ judged (f head)) where
  pub accepted-for : x ≡ Ok tt → f plan ≡ 0
  accepted-for g = sym (ap f same) ∙ judged-accepted (f head) x e g

  pub refused-for : (r : Refusal) → x ≡ Err r → (f plan ≡ 0 → ⊥) × (r ≡ refusal_of (f plan))
  refused-for r g =
      let p = judged-refused (f head) x e r g in
      ((λ z. p.0 (ap f same ∙ z)), p.1 ∙ ap (λ (l : List ℕ). refusal_of (f l)) same)

-- ---- all of a plan

module _ (plan : List ℕ) (long : 16 ≤ length plan) where
  pub well_cut : length plan < end_of plan → well_formed plan ≡ false
  unfolding well_formed
  well_cut h = rw (le-leb 16 (length plan) long, lt-leb (end_of plan) (length plan) h)

  pub well_judged : end_of plan ≤ length plan → well_formed plan ≡ all_fit (values_in plan) (image_in plan) (moves_in plan) && all_below (values_in plan) (bools_in plan)
  unfolding well_formed
  well_judged h = rw (le-leb 16 (length plan) long, le-leb (end_of plan) (length plan) h)

module _ (plan : List ℕ) where
  pub well_short : length plan < 16 → well_formed plan ≡ false
  unfolding well_formed
  well_short h = rw (lt-leb 16 (length plan) h)

  pub record Formed : Type 0 where
    pub ends : end_of plan ≤ length plan
    pub fit : all_fit (values_in plan) (image_in plan) (moves_in plan) ≡ true
    pub bools : all_below (values_in plan) (bools_in plan) ≡ true

  pub formed : well_formed plan ≡ true → Formed
  unfolding well_formed
  formed w =
      let F = all_fit (values_in plan) (image_in plan) (moves_in plan) in
      let B = all_below (values_in plan) (bools_in plan) in
      let a = (and-eq-true_iff (leb 16 (length plan)) (leb (end_of plan) (length plan) && (F && B))).0 w in
      let b = (and-eq-true_iff (leb (end_of plan) (length plan)) (F && B)).0 a.1 in
      let c = (and-eq-true_iff F B).0 b.1 in
      record { ends = leb-true (end_of plan) (length plan) b.0; fit = c.0; bools = c.1 }

  -- 30 and 11
  module _ (values image : ℕ) where
    pub gather-thirty : well_formed plan ≡ false → gather_refusal_by plan values image ≡ 30
    unfolding gather_refusal_by
    gather-thirty w = rw w

    pub gather-values : well_formed plan ≡ true → (values ≡ values_in plan → ⊥) → gather_refusal_by plan values image ≡ 11
    unfolding gather_refusal_by
    gather-values w n = rw (w, ne_eqb values (values_in plan) n)

    pub gather-image : well_formed plan ≡ true → (image ≡ image_in plan → ⊥) → gather_refusal_by plan values image ≡ 11
    unfolding gather_refusal_by
    gather-image w n = rw (w, ne_eqb image (image_in plan) n, or-true (not (eqb values (values_in plan))))

    pub gather-right : well_formed plan ≡ true → values ≡ values_in plan → image ≡ image_in plan → gather_refusal_by plan values image ≡ 0
    unfolding gather_refusal_by
    gather-right w a b = rw (w, eq-eqb values (values_in plan) a, eq-eqb image (image_in plan) b)

    pub gather-sure : gather_refusal_by plan values image ≡ 0 → (well_formed plan ≡ true) × ((values ≡ values_in plan) × (image ≡ image_in plan))
    unfolding gather_refusal_by
    gather-sure = by (well_formed plan) (eqb values (values_in plan)) (eqb image (image_in plan)) refl refl refl
      where
        by : (x y z : Bool) → well_formed plan ≡ x → eqb values (values_in plan) ≡ y → eqb image (image_in plan) ≡ z
            → first (rule 30 (not x) ∷ rule 11 (not y || not z) ∷ []) ≡ 0
            → (well_formed plan ≡ true) × ((values ≡ values_in plan) × (image ≡ image_in plan))
        by true true true p q r e = (p, (eqb-true values (values_in plan) q, eqb-true image (image_in plan) r))
        by true true false p q r e = absurd (omega arith)
        by true false z p q r e = absurd (omega arith)
        by false y z p q r e = absurd (omega arith)

-- ---- two further rules behind these

first-early : (a b x y : Bool) → (first (rule 30 a ∷ rule 11 b ∷ []) ≡ 0 → ⊥)
    → first (rule 30 a ∷ rule 11 b ∷ rule 27 x ∷ rule 12 y ∷ []) ≡ first (rule 30 a ∷ rule 11 b ∷ [])
first-early true b x y f = refl
first-early false true x y f = refl
first-early false false x y f = absurd (f refl)

first-late : (a b x y : Bool) → first (rule 30 a ∷ rule 11 b ∷ []) ≡ 0 → first (rule 30 a ∷ rule 11 b ∷ rule 27 x ∷ rule 12 y ∷ []) ≡ cond x 27 (cond y 12 0)
first-late true b x y f = absurd (omega arith)
first-late false true x y f = absurd (omega arith)
first-late false false x y f = refl

first-sure : (a b x y : Bool) → first (rule 30 a ∷ rule 11 b ∷ rule 27 x ∷ rule 12 y ∷ []) ≡ 0 → first (rule 30 a ∷ rule 11 b ∷ []) ≡ 0
first-sure true b x y e = absurd (omega arith)
first-sure false true x y e = absurd (omega arith)
first-sure false false x y e = refl

module _ (plan : List ℕ) (h : ℕ) (vals : List ℕ) (image : ℕ) where
  pub place-early : (gather_refusal_by plan (length vals) image ≡ 0 → ⊥) → place_refusal_by plan h vals image ≡ gather_refusal_by plan (length vals) image
  unfolding gather_refusal_by place_refusal_by
  place-early f = first-early (not (well_formed plan)) (wrong_lengths plan (length vals) image) (wide_address plan h) (some_broken vals (bools_in plan)) f

  pub place-late : gather_refusal_by plan (length vals) image ≡ 0 → place_refusal_by plan h vals image ≡ cond (wide_address plan h) 27 (cond (some_broken vals (bools_in plan)) 12 0)
  unfolding gather_refusal_by place_refusal_by
  place-late f = first-late (not (well_formed plan)) (wrong_lengths plan (length vals) image) (wide_address plan h) (some_broken vals (bools_in plan)) f

  pub place-sure : place_refusal_by plan h vals image ≡ 0 → gather_refusal_by plan (length vals) image ≡ 0
  unfolding gather_refusal_by place_refusal_by
  place-sure f = first-sure (not (well_formed plan)) (wrong_lengths plan (length vals) image) (wide_address plan h) (some_broken vals (bools_in plan)) f

  pub put-early : (take_refusal_by plan (length vals) image ≡ 0 → ⊥) → put_refusal_by plan h vals image ≡ take_refusal_by plan (length vals) image
  unfolding take_refusal_by put_refusal_by
  put-early f = first-early (not (returns_formed plan)) (wrong_returned plan (length vals) image) (wide_address plan h) (broken_returned plan vals) f

  pub put-late : take_refusal_by plan (length vals) image ≡ 0 → put_refusal_by plan h vals image ≡ cond (wide_address plan h) 27 (cond (broken_returned plan vals) 12 0)
  unfolding take_refusal_by put_refusal_by
  put-late f = first-late (not (returns_formed plan)) (wrong_returned plan (length vals) image) (wide_address plan h) (broken_returned plan vals) f

  pub put-sure : put_refusal_by plan h vals image ≡ 0 → take_refusal_by plan (length vals) image ≡ 0
  unfolding take_refusal_by put_refusal_by
  put-sure f = first-sure (not (returns_formed plan)) (wrong_returned plan (length vals) image) (wide_address plan h) (broken_returned plan vals) f

-- ---- too few numbers

short-for : (n : ℕ) → n ≡ 30 → (r : Refusal) → r ≡ refusal_of 30 → (n ≡ 0 → ⊥) × (r ≡ refusal_of n)
short-for n k r e = ((λ z. absurd (omega arith)), e ∙ ap refusal_of (sym k))

module _ (plan : List ℕ) (short : length plan < 16) (h : ℕ) (vals : List ℕ) (image : ℕ) (r : Refusal) (e : r ≡ refusal_of 30) where
  gather-few : gather_refusal_by plan (length vals) image ≡ 30
  gather-few = gather-thirty plan (length vals) image (well_short plan short)

  take-few : take_refusal_by plan (length vals) image ≡ 30
  unfolding take_refusal_by returns_formed
  take-few = rw (lt-leb 16 (length plan) short)

  pub gather-short : (gather_refusal_by plan (length vals) image ≡ 0 → ⊥) × (r ≡ refusal_of (gather_refusal_by plan (length vals) image))
  gather-short = short-for _ gather-few r e

  pub place-short : (place_refusal_by plan h vals image ≡ 0 → ⊥) × (r ≡ refusal_of (place_refusal_by plan h vals image))
  place-short = short-for _ (place-early plan h vals image (λ z. absurd (omega (arith, gather-few))) ∙ gather-few) r e

  pub take-short : (take_refusal_by plan (length vals) image ≡ 0 → ⊥) × (r ≡ refusal_of (take_refusal_by plan (length vals) image))
  take-short = short-for _ take-few r e

  pub put-short : (put_refusal_by plan h vals image ≡ 0 → ⊥) × (r ≡ refusal_of (put_refusal_by plan h vals image))
  put-short = short-for _ (put-early plan h vals image (λ z. absurd (omega (arith, take-few))) ∙ take-few) r e

-- ---- the returned value

module _ (plan : List ℕ) where
  pub returns-judged : 16 ≤ length plan → returns_formed plan ≡ all_fit (returned_in plan) 96 (return_moves_in plan)
  unfolding returns_formed
  returns-judged l = rw (le-leb 16 (length plan) l)

  pub returned-sure : returns_formed plan ≡ true → all_fit (returned_in plan) 96 (return_moves_in plan) ≡ true
  unfolding returns_formed
  returned-sure w = ((and-eq-true_iff (leb 16 (length plan)) (all_fit (returned_in plan) 96 (return_moves_in plan))).0 w).1

  module _ (value image : ℕ) where
    pub take-thirty : returns_formed plan ≡ false → take_refusal_by plan value image ≡ 30
    unfolding take_refusal_by
    take-thirty w = rw w

    pub take-value : returns_formed plan ≡ true → (value ≡ returned_in plan → ⊥) → take_refusal_by plan value image ≡ 11
    unfolding take_refusal_by
    take-value w n = rw (w, ne_eqb value (returned_in plan) n)

    pub take-image : returns_formed plan ≡ true → (image ≡ 96 → ⊥) → take_refusal_by plan value image ≡ 11
    unfolding take_refusal_by
    take-image w n = rw (w, ne_eqb image 96 n, or-true (not (eqb value (returned_in plan))))

    pub take-right : returns_formed plan ≡ true → value ≡ returned_in plan → image ≡ 96 → take_refusal_by plan value image ≡ 0
    unfolding take_refusal_by
    take-right w e f = rw (w, eq-eqb value (returned_in plan) e, eq-eqb image 96 f)

    pub take-sure : take_refusal_by plan value image ≡ 0 → (returns_formed plan ≡ true) × ((value ≡ returned_in plan) × (image ≡ 96))
    unfolding take_refusal_by
    take-sure = by (returns_formed plan) (eqb value (returned_in plan)) (eqb image 96) refl refl refl
      where
        by : (x y z : Bool) → returns_formed plan ≡ x → eqb value (returned_in plan) ≡ y → eqb image 96 ≡ z
            → first (rule 30 (not x) ∷ rule 11 (not y || not z) ∷ []) ≡ 0 → (returns_formed plan ≡ true) × ((value ≡ returned_in plan) × (image ≡ 96))
        by true true true p q r e = (p, (eqb-true value (returned_in plan) q, eqb-true image 96 r))
        by true true false p q r e = absurd (omega arith)
        by true false z p q r e = absurd (omega arith)
        by false y z p q r e = absurd (omega arith)
