-- A grammar given as a table: of each symbol, in order, whether it may be left out and what it then says, and its alternatives.
-- Assumes nothing: these are definitions.
use Rattle.std.specs.Prelude.{cond, List, [], ◌∷◌, ◌++◌, ℕ, eqb, get_or}
use Rattle.grammar.specs.Grammar.{Rest, stop, goes, Absence, optional, Grammar}

-- the kind of the first token, and the symbols behind it
pub data Alternative : Type 0 where
  ◌⟶◌ : ℕ → List ℕ → Alternative

infix 4 ◌⟶◌
-- the symbol's number is its place in the table
pub data Entry : Type 0 where
  entry : ℕ → Absence → List Alternative → Entry

abbrev pub more : List ℕ → Alternative → Alternative
more ns (k ⟶ r) = k ⟶ (r ++ ns)

-- the same alternatives, with more symbols behind each
abbrev pub behind : List ℕ → List Alternative → List Alternative
behind ns [] = []
behind ns (a ∷ alternatives) = more ns a ∷ behind ns alternatives

abbrev pub pick : List Alternative → ℕ → Rest
pick [] k = stop
pick ((j ⟶ r) ∷ alternatives) k = cond (eqb k j) (goes r) (pick alternatives k)

abbrev pub alternatives_of : Entry → List Alternative
alternatives_of (entry n a alternatives) = alternatives

abbrev pub absence_of : Entry → Absence
absence_of (entry n a alternatives) = a

-- a number past the table stands for nothing
abbrev pub nowhere : Entry
nowhere = entry 0 (optional []) []

abbrev pub grammar_of : List (List ℕ) → List Entry → Grammar
grammar_of spellings table = record {
  spellings = spellings;
  rule = λ n k. pick (alternatives_of (get_or table n nowhere)) k;
  absent = λ n. absence_of (get_or table n nowhere);
}
