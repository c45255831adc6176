-- The words of places: document 01, "The lister". Assumes nothing: these are definitions.
use Rattle.std.specs.Prelude.{Bool, true, false, cond, List, [], ◌∷◌, ◌++◌, ℕ, ltb, get_or}
use Rattle.places.specs.declared.Register.{Register}
use Rattle.places.specs.declared.Register.TheVariants.{General, Vector, Upper, Wide}
use Rattle.places.specs.declared.Place.{Place}
use Rattle.places.specs.declared.Place.TheVariants.{One, Two, Stack}
use Rattle.places.specs.declared.ReturnPlace.{ReturnPlace}
use Rattle.places.specs.declared.ReturnPlace.TheVariants.{Void, Memory, One as InOne, Two as InTwo, St0, St0St1}
use Rattle.listing.specs.Decimal.{digit}
use Rattle.listing.specs.Words.{numbered, stack, rdi, rsi, rdx, rcx, r8, r9, rax, xmm, half, whole, void, memory, st0, st1}

-- the general registers of arguments, and those of a returned value, in order
abbrev pub argument_names : List (List ℕ)
argument_names = rdi ∷ rsi ∷ rdx ∷ rcx ∷ r8 ∷ r9 ∷ []

abbrev pub return_names : List (List ℕ)
return_names = rax ∷ rdx ∷ []

abbrev pub names : Bool → List (List ℕ)
names back = cond back return_names argument_names

-- the n-th general register, of a returned value or of an argument; a number that no register has is no word
unfoldable pub general_word : Bool → ℕ → List ℕ
general_word back n = get_or (names back) n []

-- xmm0 to xmm7
unfoldable pub vector_word : ℕ → List ℕ
vector_word n = cond (ltb n 8) (xmm ++ (digit n ∷ [])) []

-- "An upper half prints as xmm0h"; request 2026-06: "The lister prints such a place as `xmm0y`"
abbrev pub register_word : Bool → Register → List ℕ
register_word back (General n) = general_word back n.0
register_word back (Vector n) = vector_word n.0
register_word back (Upper n) = vector_word n.0 ++ half
register_word back (Wide n) = vector_word n.0 ++ whole

abbrev pub place_words : Place → List ℕ
place_words (One a) = register_word false a
place_words (Two a b) = register_word false a ++ register_word false b
place_words (Stack o) = numbered stack o.0

abbrev pub return_words : ReturnPlace → List ℕ
return_words Void = void
return_words Memory = memory
return_words (InOne a) = register_word true a
return_words (InTwo a b) = register_word true a ++ register_word true b
return_words St0 = st0
return_words St0St1 = st0 ++ st1

-- the stack offset of a place
abbrev pub offset_of : Place → ℕ
offset_of (One a) = 0
offset_of (Two a b) = 0
offset_of (Stack o) = o.0
