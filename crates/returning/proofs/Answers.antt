-- What the two calls answer and leave, from what they call. Assumes nothing.
use Rattle.std.specs.Prelude.{Err, Ok, Result}
use mathlib.Core.Path.{◌≡◌, refl, sym, ap, ap₂, ◌∙◌}
use mathlib.Core.Bool.{Bool, true, false, cond}
use mathlib.Core.List.{List, ◌++◌}
use Prim.Native.Nat.{ℕ, ◌≤◌, ◌<◌}
use native.Mathlib.Omega.{arith}
use borrow.Author.Tests.{eq-eqb, ne_eqb}
use lib.ListN.{length, get_or, take, drop}
use lib.Seq.{take_at, drop_at}
use Rattle.description.specs.Description.{types_in, return_in, model_in}
use Rattle.form.specs.declared.Refusal.{Refusal}
use Rattle.form.specs.Reading.{refusal_of}
use Rattle.types.specs.Wrong.{refusal_for}
use Rattle.types.proofs.Wrong.{no_type}
use Rattle.places.specs.declared.ReturnPlace.{ReturnPlace}
use Rattle.layout.specs.declared.Layout.{Layout}
use Rattle.layout.specs.Arguments.{is_void, return_place, hidden}
use Rattle.layout.specs.Layout.{layout_of, layout_answer}
use Rattle.layout.specs.Verdict.{verdict}
use Rattle.layout.proofs.Layouts.{laid-accepted, refused-verdict, refused-nonzero}
use Rattle.images.specs.Words.{number}
use Rattle.images.proofs.Moves.{gather-left_run}
use Rattle.moving.specs.Address.{wrong_address}
use Rattle.moving.specs.Orders.{broken_byte}
use Rattle.returning.specs.Image.{length_for, in_memory, return_image, return_value, returned_address}
use Rattle.returning.specs.Moved.{upper_at}
use Rattle.returning.specs.ImageAsks.{Returnable}
use Rattle.returning.specs.Returned.{return_length}
use Rattle.returning.specs.Orders.{wrong_length, wrong_bool, put_refusal, take_refusal}
use Rattle.returning.specs.Answers.{put_answer, image_after, upper_after, take_answer, value_after}
use Rattle.returning.specs.Asks.{Lent}
use Rattle.returning.proofs.Values.{returned-known, void-short, accepted-returnable}
use Rattle.returning.proofs.Orders.{right-lent, put-verdict, put-eleven, put-twenty_seven, put-twelve, put-none, take-verdict, take-eleven, take-accepted}

-- ---- 12: a value that has a byte is no void

module _ (d v : List ℕ) (accepted : verdict d ≡ 0) (lent : length v ≡ return_length d) (some : 0 < length v) where
  not_void : is_void d ≡ false
  not_void = by (is_void d) refl
    where
      by : (b : Bool) → is_void d ≡ b → is_void d ≡ false
      by true e = absurd (omega (arith, void-short d accepted e))
      by false e = e

  pub bool-known : (k : ℕ) → k ≡ return_in d → k < types_in d
  bool-known k e = rw e (returned-known d accepted not_void)

  pub bool-test : (k byte : ℕ) (r : Bool) → k ≡ return_in d → byte ≡ get_or v 0 0 → r ≡ broken_byte d k byte → r ≡ wrong_bool d v
  unfolding wrong_bool
  bool-test k byte r e f g = g ∙ ap₂ (broken_byte d) e f ∙ rw not_void

-- ---- the layout's part

module _ (d : List ℕ) (l : Layout) (laid : layout_answer d ≡ Ok l) where
  pub laid-right : verdict d ≡ 0
  laid-right = (laid-accepted d l laid).0

  pub laid-place : l.returns ≡ return_place d
  unfolding layout_of
  laid-place = ap (λ (x : Layout). x.returns) (laid-accepted d l laid).1

  pub laid-hidden : l.hidden ≡ hidden d
  unfolding layout_of
  laid-hidden = ap (λ (x : Layout). x.hidden) (laid-accepted d l laid).1

  laid-length : (n : ℕ) → n ≡ length_for l.returns l.returned.0 → n ≡ return_length d
  unfolding return_length layout_of
  laid-length n f = f ∙ ap₂ length_for laid-place (ap (λ (x : Layout). x.returned.0) (laid-accepted d l laid).1)

  module _ (n : ℕ) (f : n ≡ length_for l.returns l.returned.0) (v i y : ℕ) (b : Bool) (w : b ≡ wrong_length n v i y) where
    pub laid-wrong : b ≡ true → wrong_length (return_length d) v i y ≡ true
    laid-wrong t = ap (λ (m : ℕ). wrong_length m v i y) (sym (laid-length n f)) ∙ sym w ∙ t

    pub laid-lent : b ≡ false → Lent d v i y
    laid-lent t = right-lent d v i y laid-right (ap (λ (m : ℕ). wrong_length m v i y) (sym (laid-length n f)) ∙ sym w ∙ t)

  -- what moving the value asks
  pub laid-returnable : (v i y : ℕ) → Lent d v i y → Returnable l.returns v
  laid-returnable v i y h = rw (laid-place, h.value) (accepted-returnable d h.accepted)

-- ---- putting

module _ (d : List ℕ) (h : ℕ) (v i y : List ℕ) where
  abbrev pub PutEnd : Result (Unit {0}) Refusal → List ℕ → List ℕ → Type 0
  PutEnd x img jmg = (x ≡ put_answer d h v (length i) (length y)) × ((img ≡ image_after d h v i y) × (jmg ≡ upper_after d h v i y))

  put_refused : (x : Refusal) (n : ℕ) → x ≡ refusal_for d n → put_refusal d h v (length i) (length y) ≡ n → (n ≡ 0 → ⊥) → PutEnd (Err x) i y
  unfolding put_answer image_after upper_after
  put_refused x n e f z =
      let q = ne_eqb (put_refusal d h v (length i) (length y)) 0 (λ p. z (sym f ∙ p)) in
      (rw q (ap Err (e ∙ ap (refusal_for d) (sym f))), (rw q, rw q))

  -- 1 to 10
  pub put-laid_not : (x z : Refusal) → layout_answer d ≡ Err z → x ≡ z → PutEnd (Err x) i y
  put-laid_not x z a e =
      let nonzero = refused-nonzero d z a in
      put_refused x (verdict d) (e ∙ refused-verdict d z a) (put-verdict d h v (length i) (length y) nonzero) nonzero

  pub put-wrong_length : (x : Refusal) → x ≡ refusal_of 11 → verdict d ≡ 0 → wrong_length (return_length d) (length v) (length i) (length y) ≡ true → PutEnd (Err x) i y
  put-wrong_length x e a w = put_refused x 11 (e ∙ sym (no_type d 11 refl refl)) (put-eleven d h v (length i) (length y) a w) (λ z. omega arith)

  module _ (lent : Lent d (length v) (length i) (length y)) (used a : Bool) (hides : used ≡ hidden d) (wide : a ≡ wrong_address (model_in d) used h) where
    address_is : wrong_address (model_in d) (hidden d) h ≡ a
    address_is = ap (λ (b : Bool). wrong_address (model_in d) b h) (sym hides) ∙ sym wide

    pub put-wrong_address : (x : Refusal) → x ≡ refusal_of 27 → a ≡ true → PutEnd (Err x) i y
    put-wrong_address x e t = put_refused x 27 (e ∙ sym (no_type d 27 refl refl)) (put-twenty_seven d h v (length i) (length y) lent (address_is ∙ t)) (λ z. omega arith)

    module _ (b : Bool) (w : b ≡ wrong_bool d v) (narrow : a ≡ false) where
      pub put-wrong_bool : (x : Refusal) → x ≡ refusal_of 12 → b ≡ true → PutEnd (Err x) i y
      put-wrong_bool x e t =
          put_refused x 12 (e ∙ sym (no_type d 12 refl refl)) (put-twelve d h v (length i) (length y) lent (address_is ∙ narrow) (sym w ∙ t)) (λ z. omega arith)

      pub put-done : (place : ReturnPlace) (img jmg : List ℕ) → b ≡ false → place ≡ return_place d → length img ≡ length i → img ++ jmg ≡ return_image place h v
          → PutEnd (Ok tt) img jmg
      unfolding put_answer image_after upper_after
      put-done place img jmg t p k e =
          let long : length img ≡ upper_at = k ∙ lent.image in
          let all : img ++ jmg ≡ return_image (return_place d) h v = e ∙ ap (λ (x : ReturnPlace). return_image x h v) p in
          let q = eq-eqb (put_refusal d h v (length i) (length y)) 0 (put-none d h v (length i) (length y) lent (address_is ∙ narrow) (sym w ∙ t)) in
          (rw q, (rw q (sym (take_at img jmg upper_at long) ∙ ap (take upper_at) all), rw q (sym (drop_at img jmg upper_at long) ∙ ap (drop upper_at) all)))

-- ---- taking

-- rax lies in the first image
rax-first : (place : ReturnPlace) (i y : List ℕ) → 8 ≤ length i → returned_address place i ≡ returned_address place (i ++ y)
unfolding returned_address
rax-first place i y l = ap (λ (x : List ℕ). cond (in_memory place) (number x) 0) (gather-left_run i y 0 8 l)

module _ (d i y v : List ℕ) where
  abbrev pub TakeEnd : Result ℕ Refusal → List ℕ → Type 0
  TakeEnd x w = (x ≡ take_answer d i y (length v)) × (w ≡ value_after d i y v)

  take-refused : (x : Refusal) (n : ℕ) → x ≡ refusal_for d n → take_refusal d i y (length v) ≡ n → (n ≡ 0 → ⊥) → TakeEnd (Err x) v
  unfolding take_answer value_after
  take-refused x n e f z =
      let q = ne_eqb (take_refusal d i y (length v)) 0 (λ p. z (sym f ∙ p)) in
      (rw q (ap Err (e ∙ ap (refusal_for d) (sym f))), rw q)

  pub take-laid_not : (x z : Refusal) → layout_answer d ≡ Err z → x ≡ z → TakeEnd (Err x) v
  take-laid_not x z a e =
      let nonzero = refused-nonzero d z a in
      take-refused x (verdict d) (e ∙ refused-verdict d z a) (take-verdict d i y (length v) nonzero) nonzero

  pub take-wrong_length : (x : Refusal) → x ≡ refusal_of 11 → verdict d ≡ 0 → wrong_length (return_length d) (length v) (length i) (length y) ≡ true → TakeEnd (Err x) v
  take-wrong_length x e a w = take-refused x 11 (e ∙ sym (no_type d 11 refl refl)) (take-eleven d i y (length v) a w) (λ z. omega arith)

  pub take_done : Lent d (length v) (length i) (length y) → (place : ReturnPlace) (n : ℕ) (w : List ℕ) → place ≡ return_place d → n ≡ returned_address place i
      → w ≡ return_value place (length v) (i ++ y) → TakeEnd (Ok n) w
  unfolding take_answer value_after
  take_done lent place n w p e f =
      let q = eq-eqb (take_refusal d i y (length v)) 0 ((take-accepted d i y (length v)).1 lent) in (
        rw q (ap Ok (e ∙ rax-first place i y (omega (arith, lent.image)) ∙ ap (λ (x : ReturnPlace). returned_address x (i ++ y)) p)),
        rw q (f ∙ ap (λ (x : ReturnPlace). return_value x (length v) (i ++ y)) p),
      )
