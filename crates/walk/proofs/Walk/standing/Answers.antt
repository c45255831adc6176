-- The offsets where so much is used.
-- Assumes nothing.
use mathlib.Core.Path.{refl}
use native.Mathlib.Omega.{arith}
use Rattle.walk.specs.Offsets.{walk_at}
use Rattle.walk.proofs.Fetches.{walk_same}
use Rattle.walk.proofs.Walk.standing.Goals as goal

pub returns : goal.returns
unfolding walk_at
returns c = walk_same _ _ refl refl c.general_bytes.ensures (omega (arith, c.add.ensures, c.vector_bytes.ensures)) refl
