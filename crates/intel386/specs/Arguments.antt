-- The arguments of a description of the 386 kind and where they go: document 02, request 2026-12. Assumes nothing: these are definitions.
use Rattle.std.specs.Prelude.{Bool, cond, false, not, ◌&&◌, List, [], ◌∷◌, ℕ, zero, suc, ◌+◌, leb}
use Rattle.addresses.specs.Addresses.{run}
use Rattle.description.specs.Description.{arguments_in, return_in, kind_at, argument_at}
use Rattle.types.specs.Decode.{ty_at}
use Rattle.places.specs.declared.Used.{Used}
use Rattle.places.specs.Shapes.{Shape}
use Rattle.places.specs.Places.{fours, after, area}
use Rattle.places.specs.Images.{addresses, total}
use Rattle.layout.specs.Arguments.{is_void}
use Rattle.old_types.specs.Size.{align_ty, size_ty}

-- "All arguments go on the stack": no argument asks for a register
unfoldable pub shape_at : List ℕ → ℕ → Shape
shape_at d i = record { kinds = []; size = size_ty (ty_at d (argument_at d i)); align = align_ty (ty_at d (argument_at d i)) }

-- of n arguments from the i-th on, and of all
unfoldable pub shapes_from : List ℕ → ℕ → ℕ → List Shape
shapes_from d i zero = []
shapes_from d i (suc n) = shape_at d i ∷ shapes_from d (i + 1) n

abbrev pub shapes : List ℕ → List Shape
shapes d = shapes_from d 0 (arguments_in d)

-- "Structs and unions return through a 4-byte hidden address at offset 0": kinds 2 and 3
unfoldable pub hidden : List ℕ → Bool
hidden d = not (is_void d) && leb 2 (kind_at d (return_in d))

-- its bytes in the stack image, none where there is none
abbrev pub address_for : Bool → List ℕ
address_for used = cond used (run 0 4) []

-- what is used before the first argument: no register, and the hidden address
abbrev pub before : Bool → Used
before used = record { general = record { 0 = 0 }; vector = record { 0 = 0 }; stack = record { 0 = cond used 4 0 }; strict = false }

abbrev pub used_first : List ℕ → Used
used_first d = before (hidden d)

-- "in rounded-up multiples of 4, lowest first": what is used after the first i arguments, of the stack alone
unfoldable pub used_at : List ℕ → ℕ → Used
used_at d i = after fours (used_first d) (shapes_from d 0 i)

-- "the area is rounded up to 16"
unfoldable pub area_of : List ℕ → ℕ
area_of d = area fours (used_first d) (shapes d)

-- the address of each value byte, argument after argument, in the one image; how many there are, and where the value of argument i begins
unfoldable pub addresses_of : List ℕ → List ℕ
addresses_of d = addresses 0 fours (used_first d) (shapes d)

unfoldable pub values_of : List ℕ → ℕ
values_of d = total (shapes d)

unfoldable pub value_start : List ℕ → ℕ → ℕ
value_start d i = total (shapes_from d 0 i)
