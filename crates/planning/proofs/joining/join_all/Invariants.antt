-- What is left to add comes to all moves.
-- Assumes nothing.
use Rattle.planning.proofs.Cutting.{Joining}
use Rattle.planning.proofs.joining.join_all.Given as goal

abbrev pub invariant-loop-i : goal.invariant-loop-i
invariant-loop-i l = Joining l.described.bytes.now l.moves l.count l.laying l.i
