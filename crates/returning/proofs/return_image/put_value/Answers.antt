-- `put_value` meets its contract: each part's copy, one after the other.
-- Assumes nothing.
use mathlib.Core.Path.{refl}
use native.Mathlib.Omega.{arith}
use Rattle.returning.proofs.Moves.{asks-low, asks-high, value-put}
use Rattle.returning.proofs.return_image.put_value.Goals as goal

pub put-requires : goal.put-requires
put-requires c = asks-low _ _ c.requires.0 _ c.parts_of.ensures _ _ _ _ refl refl (omega (arith, c.requires.1)) (omega (arith, c.requires.2))

pub put-requires-2 : goal.put-requires-2
put-requires-2 c = asks-high _ _ c.requires.0 _ c.parts_of.ensures _ _ _ _ refl refl (omega (arith, c.requires.1)) (omega (arith, c.requires.2))

pub returns : goal.returns
returns c = value-put _ _ _ _ _ _ _ _ c.parts_of.ensures c.in_memory.ensures c.blank_images.ensures c.put.ensures c.put-2.ensures
