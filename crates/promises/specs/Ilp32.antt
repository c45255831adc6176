-- Request 2026-11, "The ILP32 model": "Pointers (code 15) become 4 bytes, alignment 4 .. Registers, classes and the walk's bounds stay. A pointer in a
-- register or a stack slot has its upper half zero, and so has the hidden address. Sizes, classes and the three parts of demand 3 are proved once with the
-- model as a parameter": demands 1 to 3 are of any description, and so of both models; here is what the second one adds. proofs/Ilp32.antt proves
-- `Ilp32Model`. Assumes nothing: these are definitions.
use Rattle.std.specs.Prelude.{◌≡◌, List, [], ◌∷◌, map, ℕ}
use Rattle.description.specs.declared.Model.TheVariants.{Ilp32}
use Rattle.classes.specs.declared.Class.{Class}
use Rattle.classes.specs.declared.Class.TheVariants.{NoClass, Integer, Sse, Memory}
use Rattle.types.specs.Tree.{Ty, basic}
use Rattle.types.specs.Size.{size_ty, align_ty}
use Rattle.classify.specs.Classify.{classes_of}
use Rattle.classify.specs.Cases.{int, long, float, double, struct_of, union_of}
use Rattle.moving.specs.Ilp32.{AddressRight, TwentySevenExactly as PlacingTwentySeven, PointerUpper, HiddenUpper}
use Rattle.returning.specs.Statements.{TwentySevenExactly as PuttingTwentySeven, PointerUpper as ReturnedPointer, HiddenUpper as ReturnedAddress}

-- a type, its size, its alignment and its classes in ILP32
pub data Ilp32Case : Type 0 where
  sized : Ty → ℕ → ℕ → List Class → Ilp32Case

abbrev pub pointer : Ty
pointer = basic 15

-- "long is described by code 3 and long long by code 4"
abbrev pub ilp32_cases : List Ilp32Case
ilp32_cases =
    sized pointer 4 4 (Integer ∷ NoClass ∷ []) ∷ sized int 4 4 (Integer ∷ NoClass ∷ []) ∷ sized long 8 8 (Integer ∷ NoClass ∷ [])
    ∷ sized (struct_of (pointer ∷ pointer ∷ [])) 8 4 (Integer ∷ NoClass ∷ [])
    ∷ sized (struct_of (float ∷ pointer ∷ double ∷ [])) 16 8 (Integer ∷ Sse ∷ [])
    ∷ sized (struct_of (float ∷ float ∷ pointer ∷ [])) 12 4 (Sse ∷ Integer ∷ [])
    ∷ sized (struct_of (pointer ∷ long ∷ [])) 16 8 (Integer ∷ Integer ∷ [])
    ∷ sized (struct_of (pointer ∷ pointer ∷ pointer ∷ pointer ∷ pointer ∷ [])) 20 4 (Memory ∷ NoClass ∷ [])
    ∷ sized (union_of (pointer ∷ double ∷ [])) 8 8 (Integer ∷ NoClass ∷ [])
    ∷ []

-- what the definitions say of a case's type
abbrev pub in_ilp32 : Ilp32Case → Ilp32Case
in_ilp32 (sized t n a cs) = sized t (size_ty Ilp32 t) (align_ty Ilp32 t) (classes_of Ilp32 t)

pub record Ilp32Model : Type 0 where
  pub cases_hold : map in_ilp32 ilp32_cases ≡ ilp32_cases
  -- "A pointer in a register or a stack slot has its upper half zero, and so has the hidden address": of an argument, and of what is returned
  pub pointer_upper : PointerUpper
  pub hidden_upper : HiddenUpper
  pub returned_pointer : ReturnedPointer
  pub returned_address_lem : ReturnedAddress
  -- "27, after 11 in placing and putting, a hidden address in use of 2^32 or more; images placed again under demand 2 need one below that"
  pub placing : PlacingTwentySeven
  pub putting : PuttingTwentySeven
  pub address_right : AddressRight
