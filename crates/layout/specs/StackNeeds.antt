-- Whether a call needs the stack at all: document 02, request 2026-10. Assumes nothing: these are definitions.
use Rattle.std.specs.Prelude.{◌≡◌, Bool, true, false, not, cond, List, ℕ, ◌+◌, ◌<◌, ltb, eqb, Err, Ok, Result, None, Option, Some}
use Rattle.description.specs.Description.{arguments_in}
use Rattle.form.specs.Search.{first_from}
use Rattle.types.specs.Wrong.{refusal_for}
use Rattle.uses.specs.Uses.{uses_refusal}
use Rattle.places.specs.Places.{on_stack, fits}
use Rattle.places.specs.Recorded.{place_of}
use Rattle.layout.specs.Arguments.{shape_at, used_at, area_of}
use Rattle.layout.specs.Verdict.{verdict}
use Rattle.layout.specs.Placements.{placement_at}
use Rattle.layout.specs.declared.needing.StackNeed.{StackNeed}
use Rattle.form.specs.declared.Refusal.{Refusal}

-- argument i finds no registers, by its class or because some are lacking: it goes to the stack
unfoldable pub stacked : List ℕ → ℕ → Bool
stacked d i = not (fits (used_at d i) (shape_at d i).kinds)

-- "the first argument that goes to the stack", or A where there is none
abbrev pub first_stacked : List ℕ → ℕ
first_stacked d = first_from (stacked d) 0 (arguments_in d)

-- the same, where there is one
unfoldable pub first_found : List ℕ → Option ℕ
first_found d = cond (ltb (first_stacked d) (arguments_in d)) (Some (first_stacked d)) None

-- "The count of arguments looked at .. equals that argument's position plus one, or A where there is none"
unfoldable pub stack_need : List ℕ → StackNeed
stack_need d = record {
  needed = ltb (first_stacked d) (arguments_in d);
  looked = cond (ltb (first_stacked d) (arguments_in d)) (first_stacked d + 1) (arguments_in d);
}

-- "Refusals: 1..9 as before; 10 is not given here"
unfoldable pub stack_answer : List ℕ → Result StackNeed Refusal
stack_answer d = cond (eqb (uses_refusal d) 0) (Ok (stack_need d)) (Err (refusal_for d (uses_refusal d)))

-- ---- what is proved of it

-- argument i goes to the stack, as its record says
abbrev pub OnStack : List ℕ → ℕ → Type 0
OnStack d i = (o : ℕ) × (place_of (placement_at d i).place ≡ on_stack o)

-- argument i is the first that does
pub record FirstOnStack (d : List ℕ) (i : ℕ) : Type 0 where
  pub there : i < arguments_in d
  pub goes : OnStack d i
  pub before : (j : ℕ) → j < i → OnStack d j → ⊥

-- of a description that none of 1 to 9 refuses
pub record StackNeeded (d : List ℕ) : Type 0 where
  -- "It equals "area is not 0" of the full layout"
  pub area : (stack_need d).needed ≡ not (eqb (area_of d) 0)
  -- "and is yes where only 10 would refuse"
  pub ten : verdict d ≡ 10 → (stack_need d).needed ≡ true
  -- "The count of arguments looked at .. equals that argument's position plus one, or A where there is none"
  pub some : (stack_need d).needed ≡ true → (i : ℕ) × (((stack_need d).looked ≡ i + 1) × FirstOnStack d i)
  pub none : (stack_need d).needed ≡ false → ((stack_need d).looked ≡ arguments_in d) × ((j : ℕ) → j < arguments_in d → OnStack d j → ⊥)
