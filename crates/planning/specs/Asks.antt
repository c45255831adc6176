-- What planning asks inside. Assumes nothing: these are definitions.
use Rattle.std.specs.Prelude.{◌≡◌, true, List, ℕ, ◌+◌, ◌≤◌}
use Rattle.places.specs.declared.Register.{Register}
use Rattle.places.specs.declared.Place.{Place}
use Rattle.images.specs.Asks.{Alone, Inside}
use Rattle.plans.specs.Moves.{Move, all_fit}

-- no accepted call has more bytes of values, nor longer images
abbrev pub most_values : ℕ
most_values = 18432

abbrev pub most_image : ℕ
most_image = 16688

-- an argument of size bytes at its place, its value from index k on, in an accepted call
pub record AskCut (p : Place) (size k : ℕ) : Type 0 where
  pub inside : Inside p size 16384
  pub there : k + size ≤ most_values

-- and one that a register alone holds
pub record AskAlone (a : Register) (size k : ℕ) : Type 0 where
  pub alone : Alone a size
  pub there : k + size ≤ most_values

-- a move lies within the values and the images of some accepted call
pub record AskMove (m : Move) : Type 0 where
  pub source : m.source + m.count ≤ most_values
  pub target : m.target + m.count ≤ most_image

-- all of these do
abbrev pub AskMoves : List Move → Type 0
AskMoves ms = all_fit most_values most_image ms ≡ true
