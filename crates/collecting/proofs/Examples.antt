-- Worked examples. Assumes nothing.
use mathlib.Core.Path.{◌≡◌, refl}
use mathlib.Core.List.{List, [], ◌∷◌}
use Prim.Native.Nat.{ℕ}
use Rattle.listing.specs.Characters.{bytes}
use Rattle.grammar.specs.Tokens.{class_of}
use Rattle.grammar.specs.Grammar.{kind_of, said}
use Rattle.grammar.specs.Machine.{possible, Outcome, accepted, refused_at, read_text}
use Rattle.grammar.specs.Prototype.{spellings, table, declarations, prototype}
use Rattle.collecting.specs.Rows.{same_numbers, same_row, find, members_in, records_in, runs_in, beyond}
use Rattle.collecting.specs.Bounded.{raise, moves, vacant, written}

abbrev describes : Outcome → List ℕ
describes (accepted es) = written 0 (moves 4 vacant es)
describes (refused_at p) = []

-- the target leaves the table again: int 0, pointer 1, short 2
target : describes (read_text declarations prototype (bytes "int f(struct { short a; } *p, short b)")) ≡ 75 ∷ 67 ∷ 66 ∷ 1 ∷ 0 ∷ 3 ∷ 0 ∷ 2 ∷ 2 ∷ 0 ∷ 0 ∷ 0 ∷ 3 ∷ 0 ∷ 0 ∷ 0 ∷ 15 ∷ 0 ∷ 0 ∷ 0 ∷ 2 ∷ 0 ∷ 0 ∷ 1 ∷ 2 ∷ []
unfolding read_text possible spellings table kind_of class_of said same_numbers same_row find members_in records_in runs_in beyond raise
target = refl

-- arrays innermost first, equal groups once, a group in a group: float 0, float[3] 1, float[3][2] 2, struct 3, union 4, void returned
nested : describes (read_text declarations prototype (bytes "void f(struct { float m[2][3]; } a, union { struct { float x[2][3]; } s; float y; } u, ...)"))
    ≡ 75 ∷ 67 ∷ 66 ∷ 1 ∷ 0 ∷ 5 ∷ 1 ∷ 2 ∷ 2 ∷ 255 ∷ 3 ∷ 0 ∷ 6 ∷ 0 ∷ 0 ∷ 1 ∷ 0 ∷ 3 ∷ 0 ∷ 1 ∷ 1 ∷ 2 ∷ 0 ∷ 2 ∷ 0 ∷ 1 ∷ 0 ∷ 3 ∷ 1 ∷ 2 ∷ 0 ∷ 2 ∷ 3 ∷ 0 ∷ 3 ∷ 4 ∷ []
unfolding read_text possible spellings table kind_of class_of said same_numbers same_row find members_in records_in runs_in beyond raise
nested = refl
