-- The places of the 386 kind: one for each value byte, no two the same, all in the area and none in the hidden address; offsets are multiples of 4, each
-- argument right behind the one before; and a walk has one offset. Assumes nothing.
use mathlib.Core.Path.{◌≡◌, refl, ap, ◌∙◌}
use mathlib.Core.Bool.{Bool, true, false, ◌||◌}
use mathlib.Core.List.{List, [], ◌∷◌}
use Prim.Native.Nat.{ℕ, zero, suc, ◌+◌, ◌%◌, ◌≤◌, ◌<◌, max}
use native.Mathlib.Omega.{arith}
use borrow.Author.Tests.{lt-leb}
use lib.ListN.{length, take}
use Rattle.addresses.specs.Addresses.{All, NoDup, Below, Absent}
use Rattle.addresses.proofs.Lists.{all_map}
use Rattle.addresses.proofs.Runs.{all-run, nodup_run}
use Rattle.description.specs.Description.{arguments_in}
use Rattle.units.specs.Raise.{raise}
use Rattle.places.specs.declared.Used.{Used}
use Rattle.places.specs.Shapes.{Shape}
use Rattle.places.specs.Places.{on_stack, fours, fits, start, stacking, place, next, after, area}
use Rattle.places.specs.Statements.{Free, OnePlaceEach, RoundedUp}
use Rattle.places.proofs.Apart.{apart, after-grows}
use Rattle.places.proofs.Offsets.{stack-rounded, area-rounded}
use Rattle.moving.specs.Frames.{Sound}
use Rattle.station.specs.Paper.{used_at as paper_used}
use Rattle.walk.specs.Offsets.{walk_at}
use Rattle.walk.specs.Orders.{standing}
use Rattle.old_types.proofs.Sizes.{Small, by_one, by_two, by_four, small-high}
use Rattle.intel386.specs.Arguments.{shape_at, shapes, hidden, address_for, used_first, used_at, area_of, addresses_of, values_of}
use Rattle.intel386.specs.Paper.{intel386}
use Rattle.intel386.specs.Images.{frame_of}
use Rattle.intel386.specs.Statements.{Stacked}
use Rattle.intel386.proofs.Arguments.{Plain, shape_plain, all_plain, used-next, used-slotted, plain-shaped, plain-seated, all_so}

-- ---- one argument

four_most : {a : ℕ} → Small a → max 4 a ≡ 4
four_most by_one = refl
four_most by_two = refl
four_most by_four = refl

pub next-plain : (u : Used) (s : Shape) → Plain s → next fours u s ≡ stacking fours u s
unfolding next fits
next-plain u s p = rw p.kinds

pub place-plain : (u : Used) (s : Shape) → Plain s → place fours u s ≡ on_stack (raise 4 u.stack.0)
unfolding place fits start
place-plain u s p = rw (p.kinds, four_most p.align)

start_plain : (u : Used) (s : Shape) → Plain s → start fours u s ≡ raise 4 u.stack.0
unfolding start
start_plain u s p = rw (four_most p.align)

-- a multiple of 4 is not raised
raise-same : (n : ℕ) → n % 4 ≡ 0 → raise 4 n ≡ n
unfolding raise
raise-same n h = omega arith

module _ (d : List ℕ) where
  -- each argument stands right behind the one before
  pub offset-is : (i : ℕ) → place fours (used_at d i) (shape_at d i) ≡ on_stack (used_at d i).stack.0
  offset-is i = place-plain (used_at d i) (shape_at d i) (shape_plain d i) ∙ ap on_stack (raise-same _ (used-slotted d i))

  -- and takes its size, rounded up to 4
  pub stack-next : (i : ℕ) → (used_at d (i + 1)).stack.0 ≡ raise 4 ((used_at d i).stack.0 + (shape_at d i).size)
  stack-next i =
      ap (λ (u : Used). u.stack.0) (used-next d i ∙ next-plain (used_at d i) (shape_at d i) (shape_plain d i))
      ∙ ap (λ (o : ℕ). raise 4 (o + (shape_at d i).size)) (start_plain (used_at d i) (shape_at d i) (shape_plain d i) ∙ raise-same _ (used-slotted d i))

  pub stacked : (i : ℕ) → Stacked d i
  stacked i = record {
    offset = (used_at d i).stack.0;
    there = offset-is i;
    lowest = record { behind = omega arith; slotted = used-slotted d i; aligned = used-slotted d i; least = λ q l e f. l };
    room = rw (used-next d i) (stack-rounded fours (used_at d i) (shape_at d i) (used_at d i).stack.0 (offset-is i));
  }

  -- ---- all of them

  pub one_place_each : OnePlaceEach 0 fours (used_first d) (shapes d)
  one_place_each =
      apart 0 fours (shapes d) (used_first d) (all_so plain-shaped (shapes d) (all_plain d (arguments_in d) 0)) (all_so plain-seated (shapes d) (all_plain d (arguments_in d) 0))

  pub length-all : length (addresses_of d) ≡ values_of d
  unfolding addresses_of values_of
  length-all = one_place_each.each

  address-counts : hidden d ≡ true → (used_first d).stack.0 ≡ 4
  address-counts e = rw e

  -- no value byte is in the hidden address
  pub past_address : hidden d ≡ true → All (λ k. 4 ≤ k) (addresses_of d)
  unfolding addresses_of
  past_address e = all_map {P = Free 0 (used_first d)} {Q = λ k. 4 ≤ k} (λ k f. omega (arith, f.stack (omega arith), address-counts e)) (addresses_of d) one_place_each.free

  address-inside : hidden d ≡ true → 4 ≤ area_of d
  unfolding area_of
  address-inside e = omega (arith, (area-rounded fours (used_first d) (shapes d)).behind, after-grows fours (shapes d) (used_first d), address-counts e)

  all_once : NoDup (addresses_of d)
  unfolding addresses_of
  all_once = one_place_each.once

  all-inside : Below (0 + (0 + area_of d)) (addresses_of d)
  unfolding addresses_of area_of
  all-inside = all_map (λ k l. omega (arith, l)) (addresses_of d) one_place_each.inside

  pub frame-sound : Sound (frame_of d)
  frame-sound = record { once = all_once; inside = all-inside; past = by (hidden d) refl; apart = single (hidden d); within = low (hidden d) refl }
    where
      by : (b : Bool) → hidden d ≡ b → All (λ k. Absent k (addresses_of d)) (address_for b)
      by true e = all-run {P = λ k. Absent k (addresses_of d)} 0 4 (λ k l m. all_map (λ p q z. omega arith) (addresses_of d) (past_address e))
      by false e = tt

      single : (b : Bool) → NoDup (address_for b)
      single true = nodup_run 0 4
      single false = tt

      low : (b : Bool) → hidden d ≡ b → Below (0 + (0 + area_of d)) (address_for b)
      low true e = all-run {P = λ k. k < 0 + (0 + area_of d)} 0 4 (λ k l m. omega (arith, address-inside e))
      low false e = tt

-- ---- no register is used, and no argument is aligned to 32

pub record Still (u w : Used) : Type 0 where
  pub general : w.general.0 ≡ u.general.0
  pub vector : w.vector.0 ≡ u.vector.0
  pub strict : w.strict ≡ u.strict

next-still : (u : Used) (s : Shape) → Plain s → Still u (next fours u s)
next-still u s p = rw (next-plain u s p) (record { general = refl; vector = refl; strict = rw (lt-leb 32 s.align (omega (arith, small-high p.align))) (or-false u.strict) })
  where
    or-false : (b : Bool) → (b || false) ≡ b
    or-false true = refl
    or-false false = refl

pub after-still : (ss : List Shape) (u : Used) → All Plain ss → Still u (after fours u ss)
after-still [] u h = record { general = refl; vector = refl; strict = refl }
after-still (s ∷ ss) u h =
    let a = next-still u s h.0 in
    let b = after-still ss (next fours u s) h.1 in
    record { general = b.general ∙ a.general; vector = b.vector ∙ a.vector; strict = b.strict ∙ a.strict }

all_take : (p : ℕ) (ss : List Shape) → All Plain ss → All Plain (take p ss)
all_take zero [] h = tt
all_take zero (s ∷ ss) h = tt
all_take (suc p) [] h = tt
all_take (suc p) (s ∷ ss) h = (h.0, all_take p ss h.1)

module _ (d : List ℕ) where
  -- "the area is rounded up to 16"
  pub area-is : RoundedUp 16 (used_at d (arguments_in d)).stack.0 (area_of d)
  unfolding used_at area_of
  area-is =
      let still = after-still (shapes d) (used_first d) (all_plain d (arguments_in d) 0) in
      let r = area-rounded fours (used_first d) (shapes d) in
      rw still.strict at r

  pub area-sixteen : area_of d ≡ raise 16 (used_at d (arguments_in d)).stack.0
  unfolding used_at area_of area
  area-sixteen =
      let still = after-still (shapes d) (used_first d) (all_plain d (arguments_in d) 0) in
      rw still.strict

  -- "a single offset"
  pub single_offset : (n p : ℕ) → ((standing intel386 d n p).general.0 ≡ 0) × ((standing intel386 d n p).vector.0 ≡ 48)
  unfolding standing paper_used walk_at intel386
  single_offset n p =
      let still = after-still (take p (shapes d)) (used_first d) (all_take p (shapes d) (all_plain d (arguments_in d) 0)) in
      (omega (arith, still.general), omega (arith, still.vector))
