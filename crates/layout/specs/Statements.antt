-- What is said of an accepted description's layout. Assumes nothing: these are definitions.
use Rattle.std.specs.Prelude.{◌≡◌, List, [], ◌++◌, ℕ, zero, suc, ◌+◌, ◌*◌, ◌%◌, ◌≤◌, ◌<◌, ltb, length}
use Rattle.description.specs.Description.{types_in, named_in, arguments_in, model_in}
use Rattle.types.specs.Size.{size_ty, align_ty}
use Rattle.types.specs.Decode.{ty_at}
use Rattle.types.specs.Alignments.{Alignment}
use Rattle.places.specs.Places.{area_align}
use Rattle.places.specs.Images.{stack_at, bytes_of}
use Rattle.places.specs.Recorded.{place_of}
use Rattle.layout.specs.Arguments.{shape_at, used_at, area_of}
use Rattle.layout.specs.Layout.{values_of}
use Rattle.layout.specs.Placements.{placement_at}

-- the bounds of all that an accepted description can ask for
pub record Bounded (d : List ℕ) : Type 0 where
  pub short : length d ≤ 586
  pub filled : (k : ℕ) → k < types_in d → 1 ≤ size_ty (model_in d) (ty_at d k)
  pub small : (k : ℕ) → k < types_in d → size_ty (model_in d) (ty_at d k) ≤ 4096
  pub whole : (k : ℕ) → k < types_in d → size_ty (model_in d) (ty_at d k) % align_ty (model_in d) (ty_at d k) ≡ 0
  pub aligned : (i : ℕ) → i < arguments_in d → Alignment (shape_at d i).align
  pub general : (used_at d (arguments_in d)).general.0 ≤ 6
  pub vector : (used_at d (arguments_in d)).vector.0 ≤ 8
  pub area : area_of d ≤ 16384
  pub sixteens : area_of d % 16 ≡ 0
  pub rounded : area_of d % area_align (used_at d (arguments_in d)) ≡ 0
  pub values : values_of d ≤ 4096 * arguments_in d

-- the addresses of the bytes of n records from the i-th on, one record after the other
unfoldable pub record_addresses : List ℕ → ℕ → ℕ → List ℕ
record_addresses d i zero = []
record_addresses d i (suc n) = bytes_of stack_at (place_of (placement_at d i).place) (placement_at d i).size.0 ++ record_addresses d (i + 1) n

-- request 2026-07, of the records of any description: "The records' offsets start at 0, each is the one before plus its size, and the last ends at the total";
-- "whether it is named": the first N are
pub record ValuesPacked (d : List ℕ) : Type 0 where
  pub first : (placement_at d 0).at.0 ≡ 0
  pub next : (i : ℕ) → (placement_at d (i + 1)).at.0 ≡ (placement_at d i).at.0 + (placement_at d i).size.0
  pub last : (i : ℕ) → i + 1 ≡ arguments_in d → (placement_at d i).at.0 + (placement_at d i).size.0 ≡ values_of d
  pub marks : (i : ℕ) → (placement_at d i).named ≡ ltb i (named_in d)
