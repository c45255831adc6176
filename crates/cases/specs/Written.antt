-- Descriptions written out: document 01, "The description". Assumes nothing: these are definitions.
use Rattle.std.specs.Prelude.{List, [], ◌∷◌, ◌++◌, ℕ, length}

-- "A type record is kind, a, count (16 bits, little-endian)"; here no count needs its second byte
abbrev pub basic : ℕ → List ℕ
basic code = 0 ∷ code ∷ 0 ∷ 0 ∷ []

abbrev pub array : ℕ → ℕ → List ℕ
array element count = 1 ∷ element ∷ count ∷ 0 ∷ []

abbrev pub struct : ℕ → ℕ → List ℕ
struct first count = 2 ∷ first ∷ count ∷ 0 ∷ []

abbrev pub union : ℕ → ℕ → List ℕ
union first count = 3 ∷ first ∷ count ∷ 0 ∷ []

abbrev pub joined : List (List ℕ) → List ℕ
joined [] = []
joined (r ∷ rs) = r ++ joined rs

-- byte 6, N and the return type; then records, members and arguments
abbrev pub written : ℕ → ℕ → ℕ → List (List ℕ) → List ℕ → List ℕ → List ℕ
written variadic named returns records members arguments =
    75 ∷ 67 ∷ 66 ∷ 1 ∷ 0 ∷ length records ∷ variadic ∷ named ∷ length arguments ∷ returns ∷ length members ∷ joined records ++ (members ++ arguments)

-- a plain function that returns void
abbrev pub plain : List (List ℕ) → List ℕ → List ℕ → List ℕ
plain records members arguments = written 0 (length arguments) 255 records members arguments

-- codes of document 01's table
abbrev pub char : List ℕ
char = basic 1

abbrev pub int : List ℕ
int = basic 3

abbrev pub long : List ℕ
long = basic 4

abbrev pub int128 : List ℕ
int128 = basic 5

abbrev pub float : List ℕ
float = basic 6

abbrev pub double : List ℕ
double = basic 7

abbrev pub long_double : List ℕ
long_double = basic 8

abbrev pub m128 : List ℕ
m128 = basic 11

abbrev pub m256 : List ℕ
m256 = basic 16

abbrev pub complex_double : List ℕ
complex_double = basic 13
