-- `take_value` meets its contract: each part's copy, one after the other.
-- Assumes nothing.
use mathlib.Core.Path.{refl}
use native.Mathlib.Omega.{arith}
use Rattle.returning.proofs.Moves.{asks-low, asks-high, value_taken}
use Rattle.returning.proofs.return_image.take_value.Goals as goal

pub take-requires : goal.take-requires
take-requires c = asks-low _ _ c.requires.0 _ c.parts_of.ensures _ _ _ _ refl (omega arith) c.requires.1 c.requires.2

pub take-requires-2 : goal.take-requires-2
take-requires-2 c = asks-high _ _ c.requires.0 _ c.parts_of.ensures _ _ _ _ refl (omega arith) c.requires.1 c.requires.2

pub returns : goal.returns
returns c = value_taken _ _ _ _ _ _ _ c.parts_of.ensures c.clear.ensures c.take.ensures c.take-2.ensures
