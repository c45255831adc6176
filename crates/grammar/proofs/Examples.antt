-- Worked examples: what makers paste, what it means, and where what is no prototype is refused. Assumes nothing.
use mathlib.Core.Path.{◌≡◌, refl}
use mathlib.Core.List.{[], ◌∷◌}
use Prim.Native.Nat.{ℕ}
use Rattle.listing.specs.Characters.{bytes}
use Rattle.types.specs.Tree.{basic, array, struct, none, more}
use Rattle.grammar.specs.Tokens.{class_of}
use Rattle.grammar.specs.Grammar.{kind_of, said}
use Rattle.grammar.specs.Machine.{possible, Outcome, accepted, refused_at, read_text}
use Rattle.grammar.specs.Prototype.{spellings, table, declarations, prototype, types}
use Rattle.grammar.specs.Meaning.{Read, meaning, blank}

-- the code of long is 4
abbrev says_in : Outcome → Read
says_in (accepted es) = meaning 4 blank es
says_in (refused_at p) = blank

abbrev place_in : Outcome → ℕ
place_in (accepted es) = 9999
place_in (refused_at p) = p

lister : (says_in (read_text declarations prototype (bytes "double mix(int n, struct pair { double a; long b; } p, long double, ...);"))).arguments
    ≡ basic 3 ∷ struct (more (basic 7) (more (basic 4) none)) ∷ basic 8 ∷ []
unfolding read_text possible spellings table kind_of class_of said
lister = refl

matrix : (says_in (read_text declarations prototype (bytes "void f(struct { float x, *y, m[2][3]; int (*cb)(char, ...); } s, struct t *q, int v[])"))).arguments
    ≡ struct (more (basic 6) (more (basic 15) (more (array (array (basic 6) 3) 2) (more (basic 15) none)))) ∷ basic 15 ∷ basic 15 ∷ []
unfolding read_text possible spellings table kind_of class_of said
matrix = refl

-- a typedef name is read where a pointer to it is declared, and the names of sizes are words like others
plugin : (says_in (read_text declarations prototype (bytes "const void *get(const host_t *host, size_t n, uint32_t k, bool b, void (*log)(const char *))"))).arguments
    ≡ basic 15 ∷ basic 4 ∷ basic 3 ∷ basic 0 ∷ basic 15 ∷ []
unfolding read_text possible spellings table kind_of class_of said
plugin = refl

further : (says_in (read_text declarations types (bytes "double, struct { short s; } v"))).arguments ≡ basic 7 ∷ struct (more (basic 2) none) ∷ []
unfolding read_text possible spellings table kind_of class_of said
further = refl

-- the third `long` could have become a name: the comma is the first byte that cannot be
third_long : place_in (read_text declarations prototype (bytes "int f(long long long, int)")) ≡ 20
unfolding read_text possible spellings table kind_of class_of said
third_long = refl

-- a typedef name by itself says no type
no_type : place_in (read_text declarations prototype (bytes "int f(foo)")) ≡ 9
unfolding read_text possible spellings table kind_of class_of said
no_type = refl

octal : place_in (read_text declarations prototype (bytes "int f(struct { int a[010]; } s)")) ≡ 22
unfolding read_text possible spellings table kind_of class_of said
octal = refl

-- comments are no part of the grammar
comment : place_in (read_text declarations prototype (bytes "int f(int /* frames */ n)")) ≡ 10
unfolding read_text possible spellings table kind_of class_of said
comment = refl

stops_short : place_in (read_text declarations prototype (bytes "int f(lon")) ≡ 9
unfolding read_text possible spellings table kind_of class_of said
stops_short = refl
