-- The table of lengths. Assumes nothing: these are definitions.
use Rattle.std.specs.Prelude.{◌≡◌, List, ℕ, ◌≤◌, ◌<◌, get_or}
use Rattle.declaring.specs.Lengths.{length_at}

-- the entries of the types below n are there
pub record Lengths (d : List ℕ) (n : ℕ) (table : List ℕ) : Type 0 where
  pub few : n ≤ 64
  pub right : (k : ℕ) → k < n → get_or table k 0 ≡ length_at d k
