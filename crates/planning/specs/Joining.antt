-- How code makes the lists of a plan: it joins one move after another to the last one, and writes each move's numbers for one kind after another. Assumes
-- nothing: these are definitions.
use Rattle.std.specs.Prelude.{Bool, false, cond, ◌&&◌, List, [], ◌∷◌, ◌++◌, ℕ, ◌+◌, eqb}
use Rattle.plans.specs.Moves.{Move}
use Rattle.planning.specs.declared.lists.Kind.{Kind}
use Rattle.planning.specs.declared.lists.Kind.TheVariants.{Eights, Fours, Parts}
use Rattle.plans.specs.Cuts.{adjoin, longer, halved, eights, fours, parts, twos, threes}

abbrev pub move : ℕ → ℕ → ℕ → Move
move s t n = record { source = s; target = t; count = n }

-- one move more, behind these: joined to the last one where both go on there
abbrev pub join_last : Move → List Move → Move → List Move
join_last l [] m = cond (adjoin l m) (longer l m ∷ []) (l ∷ m ∷ [])
join_last l (k ∷ ls) m = l ∷ join_last k ls m

abbrev pub added : List Move → Move → List Move
added [] m = m ∷ []
added (l ∷ ls) m = join_last l ls m

abbrev pub added_all : List Move → List Move → List Move
added_all ls [] = ls
added_all ls (m ∷ ms) = added_all (added ls m) ms

-- whether the last of these goes on at source s and target t
abbrev pub last_goes : Move → List Move → ℕ → ℕ → Bool
last_goes l [] s t = eqb (l.source + l.count) s && eqb (l.target + l.count) t
last_goes l (k ∷ ls) s t = last_goes k ls s t

abbrev pub goes_on : List Move → ℕ → ℕ → Bool
goes_on [] s t = false
goes_on (l ∷ ls) s t = last_goes l ls s t

-- what a move writes into the list of a kind
abbrev pub numbers_of : Kind → Move → List ℕ
numbers_of Eights m = twos (eights (halved (m ∷ [])))
numbers_of Fours m = twos (fours (halved (m ∷ [])))
numbers_of Parts m = threes (parts (halved (m ∷ [])))

abbrev pub all_of : Kind → List Move → List ℕ
all_of kind [] = []
all_of kind (m ∷ ms) = numbers_of kind m ++ all_of kind ms
