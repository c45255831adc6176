-- Worked cases: a description and its tidy form, byte by byte. Assumes nothing: these are definitions.
use Rattle.std.specs.Prelude.{List, [], ◌∷◌, ◌++◌, ℕ, replicate}

pub data TidyCase : Type 0 where
  tidies : List ℕ → List ℕ → TidyCase

-- "KCB", version 1, T, byte 6, N, A, return and M
abbrev pub header : ℕ → ℕ → ℕ → ℕ → ℕ → ℕ → List ℕ
header t f n a r m = 75 ∷ 67 ∷ 66 ∷ 1 ∷ 0 ∷ t ∷ f ∷ n ∷ a ∷ r ∷ m ∷ []

-- one type record, its count below 256
abbrev pub typed : ℕ → ℕ → ℕ → List ℕ
typed k a c = k ∷ a ∷ c ∷ 0 ∷ []

abbrev pub char : List ℕ
char = typed 0 1 0

abbrev pub int : List ℕ
int = typed 0 3 0

abbrev pub long_double : List ℕ
long_double = typed 0 8 0

abbrev pub tidy_cases : List TidyCase
tidy_cases =
    -- the request, word by word. Types 0 and 5 are dead, 3 and 4 are equal, the union's run overlaps that of type 3, and place 3 begins a run behind a gap.
    -- Through return: the union's char is completed first, 0, then int, 1, then struct { int, char }, 2, then the union, 3; the arguments reach nothing new.
    tidies
    (header 7 0 2 2 6 5 ++ long_double ++ int ++ char ++ typed 2 0 2 ++ typed 2 3 2 ++ typed 1 0 2 ++ typed 3 1 2 ++ (1 ∷ 2 ∷ 3 ∷ 1 ∷ 2 ∷ []) ++ (4 ∷ 1 ∷ []))
    (header 4 0 2 2 3 4 ++ char ++ int ++ typed 2 0 2 ++ typed 3 2 2 ++ (1 ∷ 0 ∷ 0 ∷ 2 ∷ []) ++ (2 ∷ 1 ∷ []))
    -- void (struct { int, char }, int, struct { int, char }), the struct described twice: int 0, char 1, struct 2
    ∷ tidies
    (header 4 0 3 3 255 4 ++ char ++ int ++ typed 2 0 2 ++ typed 2 2 2 ++ (1 ∷ 0 ∷ 1 ∷ 0 ∷ []) ++ (3 ∷ 1 ∷ 2 ∷ []))
    (header 3 0 3 3 255 2 ++ int ++ char ++ typed 2 0 2 ++ (0 ∷ 1 ∷ []) ++ (2 ∷ 0 ∷ 2 ∷ []))
    -- the order of members counts: struct { int, char } and struct { char, int } are two types
    ∷ tidies
    (header 4 0 2 2 255 3 ++ int ++ char ++ typed 2 0 2 ++ typed 2 1 2 ++ (0 ∷ 1 ∷ 0 ∷ []) ++ (3 ∷ 2 ∷ []))
    (header 4 0 2 2 255 4 ++ char ++ int ++ typed 2 0 2 ++ typed 2 2 2 ++ (0 ∷ 1 ∷ 1 ∷ 0 ∷ []) ++ (2 ∷ 3 ∷ []))
    -- so does the count of an array, both bytes of it: struct { char[300], char[44] }
    ∷ tidies
    (header 4 0 1 1 255 2 ++ char ++ (1 ∷ 0 ∷ 44 ∷ 0 ∷ []) ++ (1 ∷ 0 ∷ 44 ∷ 1 ∷ []) ++ typed 2 0 2 ++ (2 ∷ 1 ∷ []) ++ (3 ∷ []))
    (header 4 0 1 1 255 2 ++ char ++ (1 ∷ 0 ∷ 44 ∷ 1 ∷ []) ++ (1 ∷ 0 ∷ 44 ∷ 0 ∷ []) ++ typed 2 0 2 ++ (1 ∷ 2 ∷ []) ++ (3 ∷ []))
    -- a variadic call stays one: int (char, int ...) called with an int
    ∷ tidies (header 3 1 2 3 2 0 ++ long_double ++ char ++ int ++ (1 ∷ 2 ∷ 2 ∷ [])) (header 2 1 2 3 0 0 ++ int ++ char ++ (1 ∷ 0 ∷ 0 ∷ []))
    -- void (void): all types are dead
    ∷ tidies (header 2 0 0 0 255 1 ++ int ++ typed 2 0 1 ++ (0 ∷ [])) (header 0 0 0 0 255 0)
    ∷ []

-- 29: a struct of 255 ints and one of a single int, over one run; apart they have 256 members
abbrev pub wide_description : List ℕ
wide_description = header 3 0 2 2 255 255 ++ int ++ typed 2 0 255 ++ typed 2 0 1 ++ replicate 255 0 ++ (1 ∷ 2 ∷ [])
