-- Worked cases of the 386 kind. Assumes nothing: these are definitions.
use Rattle.std.specs.Prelude.{List, [], ◌∷◌, ℕ}

-- it returns a struct of one char and takes a char and then, unnamed, a double, a long double and an int
abbrev pub old_call : List ℕ
old_call =
    75 ∷ 67 ∷ 66 ∷ 1 ∷ 0 ∷ 5 ∷ 1 ∷ 1 ∷ 4 ∷ 4 ∷ 1 ∷ 0 ∷ 1 ∷ 0 ∷ 0 ∷ 0 ∷ 7 ∷ 0 ∷ 0 ∷ 0 ∷ 8 ∷ 0 ∷ 0 ∷ 0 ∷ 3 ∷ 0 ∷ 0 ∷ 2 ∷ 0 ∷ 1 ∷ 0 ∷ 0 ∷ 0 ∷ 1 ∷ 2 ∷ 3 ∷ []
