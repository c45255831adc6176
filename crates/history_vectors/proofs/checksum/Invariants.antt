-- The invariant: no sum is past its modulus.
-- Assumes nothing.
use Prim.Native.Nat.{◌<◌}
use Rattle.history_vectors.proofs.checksum.Given as goal

abbrev pub invariant-loop-byte : goal.invariant-loop-byte
invariant-loop-byte l = (l.passed < 65521) × (l.sum < 65521)
