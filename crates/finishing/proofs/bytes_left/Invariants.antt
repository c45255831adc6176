-- The invariant: what is summed and the sizes to come are all of them.
-- Assumes nothing.
use Rattle.finishing.proofs.Checks.{Summed}
use Rattle.finishing.proofs.bytes_left.Given as goal

abbrev pub invariant-loop-at : goal.invariant-loop-at
invariant-loop-at l = Summed l.known.bytes.now l.position l.at l.sum.0
