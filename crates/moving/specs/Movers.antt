-- What a layout says of placing and gathering, as one record: all that is promised of the two calls is stated and proved of any such record. Assumes
-- nothing: these are definitions.
use Rattle.std.specs.Prelude.{◌≡◌, Bool, false, List, [], ◌↔◌, ◌≢◌, ℕ, ◌^◌, ◌<◌, length}
use Rattle.units.specs.declared.Registers.{Registers}
use Rattle.form.specs.declared.Refusal.{Refusal}
use Rattle.form.specs.Order.{Rule, first, NoneHolds, Positive, Without}
use Rattle.moving.specs.Frames.{Frame, Sound}

pub record Mover : Type 0 where
  pub frame : List ℕ → Frame  -- what the images of a description are
  pub start : List ℕ → ℕ → ℕ  -- where the value of argument i begins: "packed, argument after argument, size bytes each, no gaps"
  pub order : List ℕ → List Rule  -- 1 to 10, as its paper has them
  pub wrong_length : List ℕ → ℕ → ℕ → ℕ → ℕ → Bool  -- 11, by the lengths of values, register image, upper image and stack image
  pub address_order : List ℕ → ℕ → List Rule  -- what refuses a hidden address, between 11 and 12
  pub count : List ℕ → Registers  -- "The vector count (for al)"
  pub told : List ℕ → ℕ → Refusal  -- the refusal with this number, and the type that it names

-- what a layout must make sure of, so that the promises hold of it
pub record Ordered (M : Mover) : Type 0 where
  -- an accepted description has sound images, and 11 refuses all lengths but theirs
  pub sound : (d : List ℕ) → first (M.order d) ≡ 0 → Sound (M.frame d)
  pub lengths : (d : List ℕ) (v r y s : ℕ) → first (M.order d) ≡ 0
      → (M.wrong_length d v r y s ≡ false)
      ↔ ((v ≡ length (M.frame d).places) × (r ≡ (M.frame d).registers) × (y ≡ (M.frame d).upper) × (s ≡ (M.frame d).stack))
  -- no other rule has the number 12, and none the number 0
  pub positive : (d : List ℕ) → Positive (M.order d)
  pub without : (d : List ℕ) → Without 12 (M.order d)
  pub address_positive : (d : List ℕ) (h : ℕ) → Positive (M.address_order d h)
  pub address_without : (d : List ℕ) (h : ℕ) → Without 12 (M.address_order d h)
  -- a hidden address that is not refused has room in the bytes that it has, and one that has none is not looked at
  pub fits : (d : List ℕ) (h : ℕ) → h < 2 ^ 64 → NoneHolds (M.address_order d h) → (M.frame d).address ≢ [] → h < 256 ^ length (M.frame d).address
  pub unseen : (d : List ℕ) (h g : ℕ) → (M.frame d).address ≡ [] → M.address_order d h ≡ M.address_order d g
