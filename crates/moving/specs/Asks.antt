-- What the loops over the arguments ask. Assumes nothing: these are definitions.
use Rattle.std.specs.Prelude.{◌≡◌, List, ℕ}
use Rattle.layout.specs.Arguments.{area_of}
use Rattle.layout.specs.Verdict.{verdict}
use Rattle.layout.specs.Layout.{values_of}

-- the description is accepted, and the lent lists, values and images, have the right lengths
pub record Lent (d : List ℕ) (v r y s : ℕ) : Type 0 where
  pub accepted : verdict d ≡ 0
  pub values : v ≡ values_of d
  pub registers : r ≡ 176
  pub upper : y ≡ 128
  pub stack : s ≡ area_of d
