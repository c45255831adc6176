-- What is proved of the calls of the 386 kind: document 02, request 2026-12. Assumes nothing: these are definitions.
use Rattle.std.specs.Prelude.{◌≡◌, ◌↔◌, true, List, ℕ, ◌+◌, ◌≤◌, length}
use Rattle.addresses.specs.Addresses.{All}
use Rattle.description.specs.Description.{arguments_in}
use Rattle.form.specs.Order.{Answers, NoneHolds}
use Rattle.places.specs.Places.{on_stack, fours, place}
use Rattle.places.specs.Statements.{OnePlaceEach, LowestOffset, RoundedUp}
use Rattle.moving.specs.Orders.{place_refusal, gather_refusal}
use Rattle.moving.specs.Statements.{PlacesAll, AddressUnseen, GathersPlaced, PlacesGathered, UnusedUnseen, TwelveExactly, NoSharedImage}
use Rattle.moving.specs.Extending.{BytesStay}
use Rattle.walk.specs.Orders.{standing}
use Rattle.histories.specs.ConditionC.{ConditionC}
use Rattle.intel386.specs.Arguments.{shape_at, shapes, hidden, used_first, used_at, area_of, addresses_of}
use Rattle.intel386.specs.Verdict.{check_order, verdict}
use Rattle.intel386.specs.Paper.{intel386}
use Rattle.intel386.specs.Images.{old386}
use Rattle.intel386.specs.Extending.{Extends, Unmoved}

-- where argument i goes
abbrev pub OffsetAt : List ℕ → ℕ → ℕ → Type 0
OffsetAt d i o = place fours (used_at d i) (shape_at d i) ≡ on_stack o

-- "All arguments go on the stack in rounded-up multiples of 4, lowest first": an argument is on the stack, at the lowest multiple of 4 behind the one before
-- (no alignment is more than 4), and takes a multiple of 4
pub record Stacked (d : List ℕ) (i : ℕ) : Type 0 where
  pub offset : ℕ
  pub there : OffsetAt d i offset
  pub lowest : LowestOffset fours (used_at d i).stack.0 4 offset
  pub room : RoundedUp 4 (offset + (shape_at d i).size) (used_at d (i + 1)).stack.0

-- 27 exactly when 1 to 11 do not hold and a hidden address is in use that has no room in 4 bytes
pub record TooWide (d : List ℕ) (h : ℕ) : Type 0 where
  pub used : hidden d ≡ true
  pub wide : 4294967296 ≤ h

abbrev pub TwentySevenExactly : Type 0
TwentySevenExactly = (d : List ℕ) (h : ℕ) (values : List ℕ) (registers_length upper_length stack_length : ℕ)
    → (place_refusal old386 d h values registers_length upper_length stack_length ≡ 27)
    ↔ ((gather_refusal old386 d (length values) registers_length upper_length stack_length ≡ 0) × TooWide d h)

pub record OldModules : Type 0 where
  -- 1 to 6, 28, 7 to 10
  pub refuses : (d : List ℕ) (n : ℕ) → (n ≡ 0 → ⊥) → (verdict d ≡ n) ↔ Answers (check_order d) n
  pub accepts : (d : List ℕ) → (verdict d ≡ 0) ↔ NoneHolds (check_order d)
  -- places
  pub one_place_each : (d : List ℕ) → OnePlaceEach 0 fours (used_first d) (shapes d)
  pub stacked : (d : List ℕ) (i : ℕ) → Stacked d i
  pub past_address : (d : List ℕ) → hidden d ≡ true → All (λ k. 4 ≤ k) (addresses_of d)
  pub area : (d : List ℕ) → RoundedUp 16 (used_at d (arguments_in d)).stack.0 (area_of d)
  -- placing and gathering
  pub places_all : PlacesAll old386
  pub address_unseen : AddressUnseen old386
  pub gathers_placed : GathersPlaced old386
  pub places_gathered : PlacesGathered old386
  pub unused_unseen : UnusedUnseen old386
  pub twelve_exactly : TwelveExactly old386
  pub twenty_seven_exactly : TwentySevenExactly
  pub no_shared_image : NoSharedImage old386
  -- an added argument moves nothing (request 2026-13)
  pub unmoved : (d e : List ℕ) → Extends d e → Unmoved d e
  pub bytes_stay : BytesStay old386
  -- station and walk: condition C, and "a single offset", the other two standing still
  pub condition_c : ConditionC intel386
  pub single_offset : (d : List ℕ) (n p : ℕ) → ((standing intel386 d n p).general.0 ≡ 0) × ((standing intel386 d n p).vector.0 ≡ 48)
