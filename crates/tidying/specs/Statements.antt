-- What request 2026-03 asks of the tidy form. Assumes nothing: these are definitions.
use Rattle.std.specs.Prelude.{◌≡◌, List, ℕ, zero, suc, ◌+◌, ◌≤◌, ◌<◌, length}
use Rattle.description.specs.Description.{flags_in, types_in, named_in, arguments_in, members_in, kind_at, a_at, argument_at}
use Rattle.types.specs.Decode.{ty_at}
use Rattle.layout.specs.Verdict.{verdict}
use Rattle.layout.specs.Layout.{layout_of}
use Rattle.layout.specs.Placements.{placement_at}
use Rattle.tidying.specs.Call.{returned_by, call_of}
use Rattle.tidying.specs.Numbering.{table_of}
use Rattle.tidying.specs.Tidy.{separate}
use Rattle.tidying.specs.Answers.{tidied}
use Rattle.tidying.specs.Asks.{run_length}

-- a description that "can be tidied"
pub record Tidiable (d : List ℕ) : Type 0 where
  pub accepted : verdict d ≡ 0
  pub room : separate (table_of (call_of d)) ≤ 255

-- these are its tidy bytes
pub record TidyBytes (d bytes : List ℕ) : Type 0 where
  pub tidiable : Tidiable d
  pub are : tidied d ≡ bytes

-- "Two descriptions have the same tidy bytes"
pub record SameTidyBytes (d e : List ℕ) : Type 0 where
  pub bytes : List ℕ
  pub one : TidyBytes d bytes
  pub other : TidyBytes e bytes

-- "both can be tidied and they have equal flags, N, A and the same written-out types"
pub record SameCall (d e : List ℕ) : Type 0 where
  pub one : Tidiable d
  pub other : Tidiable e
  pub flags : flags_in d ≡ flags_in e
  pub named : named_in d ≡ named_in e
  pub many : arguments_in d ≡ arguments_in e
  pub returns : returned_by d ≡ returned_by e
  pub arguments : (i : ℕ) → i < arguments_in d → ty_at d (argument_at d i) ≡ ty_at e (argument_at e i)

-- "Tidying twice changes nothing, and the layout is the same apart from type numbers"; and the tidy form can be tidied, which means that it is accepted
pub record TidyForm (d : List ℕ) : Type 0 where
  pub again : Tidiable (tidied d)
  pub twice : tidied (tidied d) ≡ tidied d
  pub layout : layout_of (tidied d) ≡ layout_of d
  pub sizes : (i : ℕ) → i < arguments_in d → (placement_at (tidied d) i).size ≡ (placement_at d i).size
  pub aligns : (i : ℕ) → i < arguments_in d → (placement_at (tidied d) i).align ≡ (placement_at d i).align
  pub places : (i : ℕ) → i < arguments_in d → (placement_at (tidied d) i).place ≡ (placement_at d i).place
  pub values : (i : ℕ) → i < arguments_in d → (placement_at (tidied d) i).at ≡ (placement_at d i).at
  pub marks : (i : ℕ) → i < arguments_in d → (placement_at (tidied d) i).named ≡ (placement_at d i).named

-- where a run must begin: behind the runs of the types with lower numbers
unfoldable pub runs_before : List ℕ → ℕ → ℕ
runs_before d zero = 0
runs_before d (suc k) = runs_before d k + run_length d k

-- "a tidy form that uses that room again: only types reached from return and arguments, equal ones once ..; member runs in that order, without overlap or
-- gaps", read from the bytes of the tidy form
pub record TidyTable (d : List ℕ) : Type 0 where
  pub reached : length (table_of (call_of (tidied d))) ≡ types_in (tidied d)
  pub room : types_in (tidied d) ≤ types_in d
  pub once : (i j : ℕ) → i < types_in (tidied d) → j < types_in (tidied d) → ty_at (tidied d) i ≡ ty_at (tidied d) j → i ≡ j
  pub runs : (k : ℕ) → k < types_in (tidied d) → 2 ≤ kind_at (tidied d) k → a_at (tidied d) k ≡ runs_before (tidied d) k
  pub members : members_in (tidied d) ≡ runs_before (tidied d) (types_in (tidied d))
