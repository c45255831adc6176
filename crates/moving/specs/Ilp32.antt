-- What is said of placing in the ILP32 model: document 02, request 2026-11, "A pointer in a register or a stack slot has its upper half zero, and so has
-- the hidden address .. 27, after 11 in placing and putting, a hidden address in use of 2^32 or more". Assumes nothing: these are definitions.
use Rattle.std.specs.Prelude.{◌≡◌, true, List, ◌↔◌, ℕ, ◌≤◌, ◌<◌, length, get_or}
use Rattle.description.specs.declared.Model.TheVariants.{Ilp32}
use Rattle.description.specs.Description.{arguments_in, model_in, kind_at, a_at, argument_at}
use Rattle.form.specs.Order.{NoneHolds}
use Rattle.places.specs.Places.{eights, place}
use Rattle.places.specs.Images.{stack_at, bytes_of}
use Rattle.layout.specs.Arguments.{shape_at, hidden, used_at}
use Rattle.moving.specs.Images.{amd64}
use Rattle.moving.specs.Orders.{place_refusal, gather_refusal}
use Rattle.moving.specs.Answers.{images_after}

-- "images placed again under demand 2 need one below that": which hidden address nothing refuses
abbrev pub AddressRight : Type 0
AddressRight = (d : List ℕ) (h : ℕ) → NoneHolds (amd64.address_order d h) ↔ (model_in d ≡ Ilp32 → hidden d ≡ true → h < 4294967296)

-- the hidden address h of 2^32 or more is in use in ILP32
pub record TooWide (d : List ℕ) (h : ℕ) : Type 0 where
  pub ilp32 : model_in d ≡ Ilp32
  pub used : hidden d ≡ true
  pub wide : 4294967296 ≤ h

-- 27 exactly when 1 to 11 do not hold and there is such an address
abbrev pub TwentySevenExactly : Type 0
TwentySevenExactly = (d : List ℕ) (h : ℕ) (values : List ℕ) (registers_length upper_length stack_length : ℕ)
    → (place_refusal amd64 d h values registers_length upper_length stack_length ≡ 27)
    ↔ ((gather_refusal amd64 d (length values) registers_length upper_length stack_length ≡ 0) × TooWide d h)

-- argument i's own record is that of a pointer
pub record PointerAt (d : List ℕ) (i : ℕ) : Type 0 where
  pub there : i < arguments_in d
  pub kind : kind_at d (argument_at d i) ≡ 0
  pub code : a_at d (argument_at d i) ≡ 15

-- where byte j of the eight bytes of argument i's register or stack slot lies
abbrev pub slot_byte : List ℕ → ℕ → ℕ → ℕ
slot_byte d i j = get_or (bytes_of stack_at (place eights (used_at d i) (shape_at d i)) 8) j 0

-- "A pointer in a register or a stack slot has its upper half zero"
abbrev pub PointerUpper : Type 0
PointerUpper = (d : List ℕ) (h : ℕ) (values r y s : List ℕ) → model_in d ≡ Ilp32 → place_refusal amd64 d h values (length r) (length y) (length s) ≡ 0
    → (i : ℕ) → PointerAt d i → (j : ℕ) → 4 ≤ j → j < 8 → get_or (images_after amd64 d h values r y s) (slot_byte d i j) 0 ≡ 0

-- "and so has the hidden address", in rdi
abbrev pub HiddenUpper : Type 0
HiddenUpper = (d : List ℕ) (h : ℕ) (values r y s : List ℕ) → model_in d ≡ Ilp32 → place_refusal amd64 d h values (length r) (length y) (length s) ≡ 0
    → hidden d ≡ true → (k : ℕ) → 4 ≤ k → k < 8 → get_or (images_after amd64 d h values r y s) k 0 ≡ 0
