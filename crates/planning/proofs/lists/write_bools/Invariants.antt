-- What is left to write comes to the whole list.
-- Assumes nothing.
use Rattle.planning.proofs.Bools.{Marking}
use Rattle.planning.proofs.lists.write_bools.Given as goal

abbrev pub invariant-loop-i : goal.invariant-loop-i
invariant-loop-i l = Marking l.described.bytes.now l.initial.plan l.first l.plan l.at l.start.0 l.i
