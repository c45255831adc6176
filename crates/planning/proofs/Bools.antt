-- The loop over the _Bool arguments. Assumes nothing.
use mathlib.Core.Path.{◌≡◌, refl, sym, ap, ap₂, ◌∙◌}
use mathlib.Core.Bool.{Bool, true, false, cond, not}
use mathlib.Core.List.{List, [], ◌∷◌, ◌++◌}
use Prim.Native.Nat.{ℕ, suc, ◌+◌, ◌-◌, ◌^◌, ◌≤◌, ◌<◌}
use native.Mathlib.Nat.{sub-zero}
use native.Mathlib.Omega.{arith}
use borrow.Author.Tests.{not-true, not-false}
use lib.ListN.{length, set, length-append}
use Rattle.description.specs.Description.{arguments_in, argument_at, model_in}
use Rattle.types.specs.Size.{size_ty}
use Rattle.types.specs.Decode.{ty_at}
use Rattle.layout.specs.Arguments.{shape_at}
use Rattle.layout.specs.Verdict.{verdict}
use Rattle.layout.specs.Arguments.{value_start}
use Rattle.moving.specs.Orders.{is_bool}
use Rattle.layout.proofs.Arguments.{start_none, start-next}
use Rattle.moving.proofs.Turns.{size_is, value-inside}
use Rattle.plans.specs.Cuts.{bools_from}
use Rattle.plans.proofs.Theorems.{values-few}
use Rattle.planning.specs.Planning.{overwritten}
use Rattle.planning.proofs.Writing.{length_over, over-append}

bools-cons : (d : List ℕ) (i n : ℕ) → i < n → bools_from d i (n - i) ≡ cond (is_bool d (argument_at d i)) (value_start d i ∷ []) [] ++ bools_from d (i + 1) (n - (i + 1))
unfolding bools_from
bools-cons d i n l =
    let e : n - i ≡ suc (n - (i + 1)) = omega arith in
    ap (bools_from d i) e ∙ by (is_bool d (argument_at d i))
  where
    by : (b : Bool) → cond b (value_start d i ∷ bools_from d (i + 1) (n - (i + 1))) (bools_from d (i + 1) (n - (i + 1))) ≡ cond b (value_start d i ∷ []) [] ++ bools_from d (i + 1) (n - (i + 1))
    by true = refl
    by false = refl

bools-none : (d : List ℕ) (i n : ℕ) → n ≤ i → bools_from d i (n - i) ≡ []
unfolding bools_from
bools-none d i n l = let e : n - i ≡ 0 = omega arith in ap (bools_from d i) e

-- one number, or none
abbrev pub if_bool : Bool → ℕ → List ℕ
if_bool b k = cond b (k ∷ []) []

module _ (d list : List ℕ) (begin : ℕ) where
  abbrev pub bools : List ℕ
  bools = bools_from d 0 (arguments_in d)

  pub record Marking (plan : List ℕ) (at start i : ℕ) : Type 0 where
    pub bound : i ≤ arguments_in d
    pub begins : start ≡ value_start d i
    pub same : overwritten plan at (bools_from d i (arguments_in d - i)) ≡ overwritten list begin bools
    pub ends : at + length (bools_from d i (arguments_in d - i)) ≡ begin + length bools
    pub long : length plan ≡ length list

  pub marking_first : Marking list begin 0 0
  marking_first = record {
    bound = omega arith;
    begins = sym (start_none d);
    same = ap (λ (n : ℕ). overwritten list begin (bools_from d 0 n)) (sub-zero (arguments_in d));
    ends = ap (λ (n : ℕ). begin + length (bools_from d 0 n)) (sub-zero (arguments_in d));
    long = refl;
  }

  module _ (accepted : verdict d ≡ 0) (room : begin + length bools ≤ length list) (plan : List ℕ) (at start i : ℕ) (l : i < arguments_in d) (t : Marking plan at start i) where
    pub marking_small : start < 65536
    marking_small = omega (arith, t.begins, value-inside d accepted i l, values-few d accepted)

    module _ (k : ℕ) (e : k ≡ argument_at d i) (b : Bool) (f : b ≡ is_bool d k) where
      parts_are : bools_from d i (arguments_in d - i) ≡ if_bool b start ++ bools_from d (i + 1) (arguments_in d - (i + 1))
      parts_are =
          bools-cons d i (arguments_in d) l
          ∙ sym (ap₂ (λ (x : Bool) (n : ℕ). if_bool x n ++ bools_from d (i + 1) (arguments_in d - (i + 1))) (f ∙ ap (is_bool d) e) t.begins)

      counts : length (bools_from d i (arguments_in d - i)) ≡ length (if_bool b start) + length (bools_from d (i + 1) (arguments_in d - (i + 1)))
      counts = ap (λ (x : List ℕ). length x) parts_are ∙ length-append (if_bool b start) (bools_from d (i + 1) (arguments_in d - (i + 1)))

      pub marking_room : at + length (if_bool b start) ≤ length plan
      marking_room = omega (arith, t.ends, counts, t.long)

      module _ (size : ℕ) (g : size ≡ size_ty (model_in d) (ty_at d k)) where
        size-right : size ≡ (shape_at d i).size
        size-right = g ∙ ap (λ (n : ℕ). size_ty (model_in d) (ty_at d n)) e ∙ size_is d accepted i

        pub marking_plus : start + size ≤ 2 ^ 63
        marking_plus = omega (arith, size-right, t.begins, value-inside d accepted i l, values-few d accepted)

        pub marking_next : (x : List ℕ) (r j : ℕ) → x ≡ overwritten plan at (if_bool b start) → r ≡ at + length (if_bool b start) → j ≡ start + size → Marking x r j (i + 1)
        marking_next x r j p q s = record {
          bound = omega arith;
          begins = omega (arith, s, size-right, t.begins, start-next d i);
          same =
              ap₂ (λ (y : List ℕ) (n : ℕ). overwritten y n (bools_from d (i + 1) (arguments_in d - (i + 1)))) p q
              ∙ over-append plan at (if_bool b start) (bools_from d (i + 1) (arguments_in d - (i + 1)))
              ∙ sym (ap (overwritten plan at) parts_are)
              ∙ t.same;
          ends = omega (arith, q, t.ends, counts);
          long = ap (λ (y : List ℕ). length y) p ∙ length_over plan at (if_bool b start) ∙ t.long;
        }

  pub marking_last : (plan : List ℕ) (at start i : ℕ) → arguments_in d ≤ i → Marking plan at start i → (plan ≡ overwritten list begin bools) × (at ≡ begin + length bools)
  marking_last plan at start i l t =
      let e = bools-none d i (arguments_in d) l in
      (sym (ap (overwritten plan at) e) ∙ t.same, omega (arith, ap (λ (x : List ℕ). length x) e, t.ends))

-- ---- a number where it is wanted

module _ (l : List ℕ) (i a : ℕ) (b : Bool) where
  pub if_no : not b ≡ true → (l ≡ overwritten l i (if_bool b a)) × (i ≡ i + length (if_bool b a))
  if_no e = rw (not-true b e) (refl, omega arith)

  pub if_room : not b ≡ false → (n : ℕ) → i + length (if_bool b a) ≤ n → i < n
  if_room e n h = let k : length (if_bool b a) ≡ 1 = (rw (not-false b e)) in omega (arith, k, h)

  pub if_yes : not b ≡ false → (set l i a ≡ overwritten l i (if_bool b a)) × (i + 1 ≡ i + length (if_bool b a))
  if_yes e = rw (not-false b e) (refl, refl)
