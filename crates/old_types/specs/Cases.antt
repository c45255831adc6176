-- Worked sizes of the 386 kind, and two descriptions that it refuses. Assumes nothing: these are definitions.
use Rattle.std.specs.Prelude.{List, [], ◌∷◌, ℕ}
use Rattle.types.specs.Tree.{Ty, basic, array, struct, union, none, more}
use Rattle.old_types.specs.Size.{align_ty, size_ty}

-- a type, its size and its alignment
pub data SizeCase : Type 0 where
  sized : Ty → ℕ → ℕ → SizeCase

-- the nine codes that are not left out; then struct {char, double}, struct {char, long double}, union {double, long double}, an array of three pointers, and
-- struct {short, struct {char, long long}}
abbrev pub size_cases : List SizeCase
size_cases =
    sized (basic 0) 1 1
    ∷ sized (basic 1) 1 1
    ∷ sized (basic 2) 2 2
    ∷ sized (basic 3) 4 4
    ∷ sized (basic 4) 8 4
    ∷ sized (basic 6) 4 4
    ∷ sized (basic 7) 8 4
    ∷ sized (basic 8) 12 4
    ∷ sized (basic 15) 4 4
    ∷ sized (struct (more (basic 1) (more (basic 7) none))) 12 4
    ∷ sized (struct (more (basic 1) (more (basic 8) none))) 16 4
    ∷ sized (union (more (basic 7) (more (basic 8) none))) 12 4
    ∷ sized (array (basic 15) 3) 12 4
    ∷ sized (struct (more (basic 2) (more (struct (more (basic 1) (more (basic 4) none))) none))) 16 4
    ∷ []

-- what the definitions say of it
abbrev pub sized_so : SizeCase → SizeCase
sized_so (sized t n a) = sized t (size_ty t) (align_ty t)

-- bit 1 of byte 6 is set: 4
abbrev pub bit_one : List ℕ
bit_one = 75 ∷ 67 ∷ 66 ∷ 1 ∷ 0 ∷ 0 ∷ 2 ∷ 0 ∷ 0 ∷ 255 ∷ 0 ∷ []

-- an __int128, and an array of 4,096 ints, neither of them used: 28, though 7 holds too
abbrev pub left_and_large : List ℕ
left_and_large =
    75 ∷ 67 ∷ 66 ∷ 1 ∷ 0 ∷ 3 ∷ 0 ∷ 0 ∷ 0 ∷ 255 ∷ 0 ∷ 0 ∷ 5 ∷ 0 ∷ 0 ∷ 0 ∷ 3 ∷ 0 ∷ 0 ∷ 1 ∷ 1 ∷ 0 ∷ 16 ∷ []
