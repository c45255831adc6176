-- What moving a returned value asks of the lent lists. Assumes nothing: these are definitions.
use Rattle.std.specs.Prelude.{◌≡◌, List, ℕ}
use Rattle.layout.specs.Verdict.{verdict}
use Rattle.returning.specs.Returned.{return_length}

-- the description is accepted, and the lent lists, value and images, have the right lengths
pub record Lent (d : List ℕ) (v i y : ℕ) : Type 0 where
  pub accepted : verdict d ≡ 0
  pub value : v ≡ return_length d
  pub image : i ≡ 80
  pub upper : y ≡ 16
