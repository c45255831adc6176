-- `gather_all` meets its contract. The invariant: what is left to gather comes to what was to be gathered at first.
-- Assumes nothing.
use Rattle.moving.proofs.Loops.{Gathering}
use Rattle.moving.proofs.filling.gather_all.Given as goal

abbrev pub invariant-loop-i : goal.invariant-loop-i
invariant-loop-i l = Gathering l.described.bytes.now l.registers l.upper l.stack l.initial.values l.values l.laying l.i
