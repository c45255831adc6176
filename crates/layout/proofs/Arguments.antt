-- Laws of the arguments of a description: one after another, and what is used between two of them. Assumes nothing.
use mathlib.Core.Path.{◌≡◌, refl, ap, ◌∙◌}
use mathlib.Core.List.{List, [], ◌∷◌, ◌++◌}
use Prim.Native.Nat.{ℕ, zero, suc, ◌+◌, ◌-◌, ◌≤◌, ◌<◌}
use native.Mathlib.Nat.{add-zero, suc-add, zero-add}
use native.Mathlib.Numerals.{sub-one}
use native.Mathlib.Omega.{arith}
use lib.ListN.{length}
use Rattle.places.specs.Shapes.{Shape}
use Rattle.places.specs.Places.{eights, next, after}
use Rattle.places.specs.Images.{total}
use Rattle.places.proofs.Prefix.{after-append, total-append}
use Rattle.layout.specs.Arguments.{shape_at, shapes_from, used_first, used_at, value_start}

module _ (d : List ℕ) where
  pub shapes-none : (i : ℕ) → shapes_from d i 0 ≡ []
  unfolding shapes_from
  shapes-none i = refl

  shapes-one : (i n : ℕ) → 0 < n → shapes_from d i n ≡ shape_at d i ∷ shapes_from d (i + 1) (n - 1)
  unfolding shapes_from
  shapes-one i zero h = absurd (omega arith)
  shapes-one i (suc n) h = rw sub-one

  -- a loop from i to n takes the next argument
  pub shapes-cons : (i n : ℕ) → i < n → shapes_from d i (n - i) ≡ shape_at d i ∷ shapes_from d (i + 1) (n - (i + 1))
  shapes-cons i n h =
      let q : n - (i + 1) ≡ n - i - 1 = omega arith in
      shapes-one i (n - i) (omega arith) ∙ rw q

  pub shapes-single : (i : ℕ) → shapes_from d i (i + 1 - i) ≡ shape_at d i ∷ []
  shapes-single i =
      let q : i + 1 - (i + 1) ≡ 0 = omega arith in
      shapes-cons i (i + 1) (omega arith) ∙ rw (q, shapes-none (i + 1))

  pub shapes-end : (i n : ℕ) → n ≤ i → shapes_from d i (n - i) ≡ []
  shapes-end i n h = let q : n - i ≡ 0 = omega arith in rw q (shapes-none i)

  pub length-shapes : (n i : ℕ) → length (shapes_from d i n) ≡ n
  unfolding shapes_from
  length-shapes zero i = refl
  length-shapes (suc n) i = ap suc (length-shapes n (i + 1))

  pub shapes-append : (n i m : ℕ) → shapes_from d i (n + m) ≡ shapes_from d i n ++ shapes_from d (i + n) m
  unfolding shapes_from
  shapes-append zero i m = rw (zero-add, add-zero)
  shapes-append (suc n) i m =
      let q : i + 1 + n ≡ i + suc n = omega arith in
      rw (suc-add, ← q) (ap (λ (l : List Shape). shape_at d i ∷ l) (shapes-append n (i + 1) m))

  -- the first n, and those behind them
  pub shapes-split : (n m : ℕ) → n ≤ m → shapes_from d 0 m ≡ shapes_from d 0 n ++ shapes_from d n (m - n)
  shapes-split n m h =
      let q : n + (m - n) ≡ m = omega arith in
      rw (← q) (shapes-append n 0 (m - n) ∙ rw (zero-add, q))

  -- what is used after the arguments up to m
  pub used-split : (n m : ℕ) → n ≤ m → used_at d m ≡ after eights (used_at d n) (shapes_from d n (m - n))
  unfolding used_at
  used-split n m h = rw (shapes-split n m h) (after-append eights (shapes_from d 0 n) (shapes_from d n (m - n)) (used_first d))

  pub used-none : used_at d 0 ≡ used_first d
  unfolding used_at
  used-none = rw (shapes-none 0)

  pub used-next : (i : ℕ) → used_at d (i + 1) ≡ next eights (used_at d i) (shape_at d i)
  used-next i = used-split i (i + 1) (omega arith) ∙ rw (shapes-single i)

  -- ---- where the values begin

  pub start_none : value_start d 0 ≡ 0
  unfolding value_start
  start_none = rw (shapes-none 0)

  pub start-next : (i : ℕ) → value_start d (i + 1) ≡ value_start d i + (shape_at d i).size
  unfolding value_start
  start-next i =
      ap total (shapes-split i (i + 1) (omega arith))
      ∙ total-append (shapes_from d 0 i) (shapes_from d i (i + 1 - i))
      ∙ ap (λ (n : ℕ). total (shapes_from d 0 i) + n) (ap total (shapes-single i) ∙ omega arith)
