-- Worked cases: a value 1, 2, 3 .. in its return place, and all 96 bytes of its images, the upper one behind the other. Assumes nothing: these are definitions.
use Rattle.std.specs.Prelude.{List, [], ◌∷◌, ◌++◌, ℕ, replicate}
use Rattle.addresses.specs.Addresses.{run}
use Rattle.types.specs.Tree.{Ty, basic, array, struct, union, none, more}
use Rattle.places.specs.declared.ReturnPlace.{ReturnPlace}
use Rattle.places.specs.declared.ReturnPlace.TheVariants.{Void, Memory, One, Two, St0, St0St1}
use Rattle.places.specs.Cases.{rax, rdx_behind_rax, xmm0, xmm0h, xmm0y, xmm1}

-- a place, how many bytes the value has, and the image
pub data ImageCase : Type 0 where
  puts : ReturnPlace → ℕ → List ℕ → ImageCase

abbrev pub zeros : ℕ → List ℕ
zeros n = replicate n 0

-- the hidden address of each case
abbrev pub hidden : ℕ
hidden = 578437695752307201

abbrev pub image_cases : List ImageCase
image_cases =
    -- void
    puts Void 0 (zeros 96)
    -- in memory: the hidden address, 0x0807060504030201
    ∷ puts Memory 0 (run 1 8 ++ zeros 88)
    -- int; struct of eleven chars; __int128
    ∷ puts (One rax) 4 (run 1 4 ++ zeros 92)
    ∷ puts (Two rax rdx_behind_rax) 11 (run 1 11 ++ zeros 85)
    ∷ puts (Two rax rdx_behind_rax) 16 (run 1 16 ++ zeros 80)
    -- float; __m128; complex double
    ∷ puts (One xmm0) 4 (zeros 16 ++ run 1 4 ++ zeros 76)
    ∷ puts (Two xmm0 xmm0h) 16 (zeros 16 ++ run 1 16 ++ zeros 64)
    ∷ puts (Two xmm0 xmm1) 16 (zeros 16 ++ run 1 8 ++ zeros 8 ++ run 9 8 ++ zeros 56)
    -- struct of long and double; of double and long
    ∷ puts (Two rax xmm0) 16 (run 1 8 ++ zeros 8 ++ run 9 8 ++ zeros 72)
    ∷ puts (Two xmm0 rax) 16 (run 9 8 ++ zeros 8 ++ run 1 8 ++ zeros 72)
    -- long double, and a struct of one; complex long double
    ∷ puts St0 16 (zeros 48 ++ run 1 10 ++ zeros 38)
    ∷ puts St0St1 32 (zeros 48 ++ run 1 10 ++ zeros 6 ++ run 17 10 ++ zeros 22)
    -- __m256: bytes 0 to 15 in xmm0, 16 to 31 in the upper image
    ∷ puts (One xmm0y) 32 (zeros 16 ++ run 1 16 ++ zeros 48 ++ run 17 16)
    ∷ []

-- the same of types: a type, and the images of its value
pub data TypeCase : Type 0 where
  returned : Ty → List ℕ → TypeCase

abbrev m256 : Ty
m256 = basic 16

-- bytes 1 to 32 in all of xmm0
abbrev wide : List ℕ
wide = zeros 16 ++ run 1 16 ++ zeros 48 ++ run 17 16

-- "A struct of one __m256 goes in a register; a union of it and four doubles doesn't"
abbrev pub type_cases : List TypeCase
type_cases =
    returned m256 wide
    ∷ returned (struct (more m256 none)) wide
    ∷ returned (struct (more (array m256 1) none)) wide
    ∷ returned (union (more m256 (more (basic 7) none))) wide
    ∷ returned (union (more m256 (more (array (basic 7) 4) none))) (run 1 8 ++ zeros 88)
    ∷ returned (struct (more m256 (more m256 none))) (run 1 8 ++ zeros 88)
    ∷ []
