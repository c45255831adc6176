-- The lists of a plan, each as numbers of its own: what they say as moves, and which they are. Assumes nothing: these are definitions.
use Rattle.std.specs.Prelude.{◌≡◌, Bool, true, false, List, [], ◌∷◌, ◌++◌, ℕ}
use Rattle.by_plan.specs.declared.head.Lists.{Lists}
use Rattle.plans.specs.Moves.{Move, turned_all}
use Rattle.plans.specs.Plans.{moves_in, bools_in}

-- two numbers say a move of width bytes, and three one of as many bytes as they say; what is left over says none
abbrev pub pairs_of : ℕ → List ℕ → List Move
pairs_of width [] = []
pairs_of width (s ∷ []) = []
pairs_of width (s ∷ t ∷ ns) = record { source = s; target = t; count = width } ∷ pairs_of width ns

abbrev pub triples_of : List ℕ → List Move
triples_of [] = []
triples_of (s ∷ []) = []
triples_of (s ∷ t ∷ []) = []
triples_of (s ∷ t ∷ n ∷ ns) = record { source = s; target = t; count = n } ∷ triples_of ns

-- all moves
abbrev pub moves_of : Lists → List Move
moves_of l = pairs_of 8 l.eights.now ++ (pairs_of 4 l.fours.now ++ triples_of l.parts.now)

-- the moves, or the other way
abbrev pub turned_if : Bool → List Move → List Move
turned_if true ms = turned_all ms
turned_if false ms = ms

-- the lists of these numbers
pub record AreLists (plan : List ℕ) (l : Lists) : Type 0 where
  pub moves : moves_of l ≡ moves_in plan
  pub bools : l.bools.now ≡ bools_in plan
