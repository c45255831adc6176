-- A digit is stored. Assumes nothing.
use mathlib.Core.Path.{refl}
use native.Mathlib.Omega.{arith}
use Rattle.listing.specs.Written.{written}
use Rattle.listing.proofs.texts.Text.put_digit.Goals as goal

pub returns : goal.returns
unfolding written
returns c = record { is = refl; short = omega arith }
