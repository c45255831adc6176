-- The basic types of the Intel386 supplement: document 02, request 2026-12, "int, long and pointers 4 bytes; long long and double 8 with alignment 4 in
-- structs; long double 12 with alignment 4. Long is described by code 3 and long long by code 4". Assumes nothing: these are definitions.
use Rattle.std.specs.Prelude.{Bool, ◌&&◌, ◌||◌, List, [], ◌∷◌, ℕ, leb, eqb, get_or}

-- "Vectors, 16-byte types and complex types are left out": __int128, __float128, __m64, __m128, the three complex types and __m256. (An __m64 is a
-- vector: 003 passes and returns it in an MMX register)
unfoldable pub left_code : ℕ → Bool
left_code code = eqb code 5 || ((leb 9 code && leb code 14) || eqb code 16)

-- codes 0 to 16, as document 01 numbers them; a code that is left out has size and alignment 1, which no call ever uses
abbrev pub sizes : List ℕ
sizes = 1 ∷ 1 ∷ 2 ∷ 4 ∷ 8 ∷ 1 ∷ 4 ∷ 8 ∷ 12 ∷ 1 ∷ 1 ∷ 1 ∷ 1 ∷ 1 ∷ 1 ∷ 4 ∷ 1 ∷ []

abbrev pub aligns : List ℕ
aligns = 1 ∷ 1 ∷ 2 ∷ 4 ∷ 4 ∷ 1 ∷ 4 ∷ 4 ∷ 4 ∷ 1 ∷ 1 ∷ 1 ∷ 1 ∷ 1 ∷ 1 ∷ 4 ∷ 1 ∷ []

unfoldable pub basic_size : ℕ → ℕ
basic_size code = get_or sizes code 1

unfoldable pub basic_align : ℕ → ℕ
basic_align code = get_or aligns code 1
