-- Laws of the arguments of the 386 kind: one after another, what is used between two of them, and what each is sure of. Assumes nothing.
use mathlib.Core.Path.{◌≡◌, refl, ap, ◌∙◌}
use mathlib.Core.Bool.{Bool, true, false, false≢true}
use mathlib.Core.List.{List, [], ◌∷◌, ◌++◌}
use Prim.Native.Nat.{ℕ, zero, suc, ◌+◌, ◌-◌, ◌%◌, ◌≤◌, ◌<◌}
use native.Mathlib.Nat.{add-zero, suc-add, zero-add}
use native.Mathlib.Numerals.{sub-one}
use native.Mathlib.Omega.{arith}
use lib.ListN.{length, drop}
use Rattle.addresses.specs.Addresses.{All}
use Rattle.description.specs.Description.{argument_at}
use Rattle.types.specs.Decode.{ty_at}
use Rattle.places.specs.Shapes.{Shape, Shaped}
use Rattle.places.specs.Places.{fours, next, after}
use Rattle.places.specs.Statements.{Seated}
use Rattle.places.proofs.Prefix.{after-append, total-append}
use Rattle.places.proofs.Offsets.{after-slotted}
use Rattle.walk.specs.Offsets.{Narrow}
use Rattle.old_types.proofs.Sizes.{Small, small-align, small_is}
use Rattle.intel386.specs.Arguments.{shape_at, shapes_from, hidden, before, used_first, used_at, value_start}

-- what a shape of the 386 kind is
pub record Plain (s : Shape) : Type 0 where
  pub kinds : s.kinds ≡ []
  pub align : Small s.align

module _ (d : List ℕ) where
  pub shape_plain : (i : ℕ) → Plain (shape_at d i)
  unfolding shape_at
  shape_plain i = record { kinds = refl; align = small-align (ty_at d (argument_at d i)) }

  pub all_plain : (n i : ℕ) → All Plain (shapes_from d i n)
  unfolding shapes_from
  all_plain zero i = tt
  all_plain (suc n) i = (shape_plain i, all_plain n (i + 1))

  shapes-none : (i : ℕ) → shapes_from d i 0 ≡ []
  unfolding shapes_from
  shapes-none i = refl

  shapes-one : (i n : ℕ) → 0 < n → shapes_from d i n ≡ shape_at d i ∷ shapes_from d (i + 1) (n - 1)
  unfolding shapes_from
  shapes-one i zero h = absurd (omega arith)
  shapes-one i (suc n) h = rw sub-one

  -- a loop from i to n takes the next argument
  pub shapes-cons : (i n : ℕ) → i < n → shapes_from d i (n - i) ≡ shape_at d i ∷ shapes_from d (i + 1) (n - (i + 1))
  shapes-cons i n h =
      let q : n - (i + 1) ≡ n - i - 1 = omega arith in
      shapes-one i (n - i) (omega arith) ∙ rw q

  shapes-single : (i : ℕ) → shapes_from d i (i + 1 - i) ≡ shape_at d i ∷ []
  shapes-single i =
      let q : i + 1 - (i + 1) ≡ 0 = omega arith in
      shapes-cons i (i + 1) (omega arith) ∙ rw (q, shapes-none (i + 1))

  pub shapes-end : (i n : ℕ) → n ≤ i → shapes_from d i (n - i) ≡ []
  shapes-end i n h = let q : n - i ≡ 0 = omega arith in rw q (shapes-none i)

  pub length-shapes : (n i : ℕ) → length (shapes_from d i n) ≡ n
  unfolding shapes_from
  length-shapes zero i = refl
  length-shapes (suc n) i = ap suc (length-shapes n (i + 1))

  shapes-append : (n i m : ℕ) → shapes_from d i (n + m) ≡ shapes_from d i n ++ shapes_from d (i + n) m
  unfolding shapes_from
  shapes-append zero i m = rw (zero-add, add-zero)
  shapes-append (suc n) i m =
      let q : i + 1 + n ≡ i + suc n = omega arith in
      rw (suc-add, ← q) (ap (λ (l : List Shape). shape_at d i ∷ l) (shapes-append n (i + 1) m))

  -- the first n, and those behind them
  pub shapes-split : (n m : ℕ) → n ≤ m → shapes_from d 0 m ≡ shapes_from d 0 n ++ shapes_from d n (m - n)
  shapes-split n m h =
      let q : n + (m - n) ≡ m = omega arith in
      rw (← q) (shapes-append n 0 (m - n) ∙ rw (zero-add, q))

  -- what is used after the arguments up to m
  pub used-split : (n m : ℕ) → n ≤ m → used_at d m ≡ after fours (used_at d n) (shapes_from d n (m - n))
  unfolding used_at
  used-split n m h = rw (shapes-split n m h) (after-append fours (shapes_from d 0 n) (shapes_from d n (m - n)) (used_first d))

  pub used-none : used_at d 0 ≡ used_first d
  unfolding used_at
  used-none = rw (shapes-none 0)

  pub used-next : (i : ℕ) → used_at d (i + 1) ≡ next fours (used_at d i) (shape_at d i)
  used-next i = used-split i (i + 1) (omega arith) ∙ rw (shapes-single i)

  -- where the values begin
  pub values-none : value_start d 0 ≡ 0
  unfolding value_start
  values-none = rw (shapes-none 0)

  pub values-next : (i : ℕ) → value_start d (i + 1) ≡ value_start d i + (shape_at d i).size
  unfolding value_start
  values-next i =
      let q : i + 1 - i ≡ 1 = omega arith in
      rw (shapes-split i (i + 1) (omega arith), shapes-single i, total-append (shapes_from d 0 i) (shape_at d i ∷ [])) (omega arith)

  pub first-slotted : (used_first d).stack.0 % 4 ≡ 0
  first-slotted = by (hidden d)
    where
      by : (b : Bool) → (before b).stack.0 % 4 ≡ 0
      by true = refl
      by false = refl

  pub used-slotted : (i : ℕ) → (used_at d i).stack.0 % 4 ≡ 0
  unfolding used_at
  used-slotted i = after-slotted fours (shapes_from d 0 i) (used_first d) first-slotted

-- ---- what station, walk and places ask of shapes

pub plain-shaped : (s : Shape) → Plain s → Shaped s
plain-shaped s p = record {
  led = rw p.kinds tt;
  few = rw p.kinds (omega arith);
  lone = rw p.kinds (λ e. absurd (false≢true e));
  room = rw p.kinds (λ e. absurd (false≢true e));
  aligned = small_is p.align;
}

pub plain-seated : (s : Shape) → Plain s → Seated 0 s
plain-seated s p = record { registers = rw p.kinds (λ e. absurd (false≢true e)); upper = rw p.kinds (λ e. absurd (false≢true e)) }

pub plain-narrow : (s : Shape) → Plain s → Narrow s
plain-narrow s p = record { kinds = rw p.kinds }

module _ {P : Shape → Type 0} (law : (s : Shape) → Plain s → P s) where
  pub all_so : (ss : List Shape) → All Plain ss → All P ss
  all_so [] h = tt
  all_so (s ∷ ss) h = (law s h.0, all_so ss h.1)

pub all_drop : (P : Shape → Type 0) (n : ℕ) (ss : List Shape) → All P ss → All P (drop n ss)
all_drop P zero [] h = tt
all_drop P zero (s ∷ ss) h = h
all_drop P (suc n) [] h = tt
all_drop P (suc n) (s ∷ ss) h = all_drop P n ss h.1
