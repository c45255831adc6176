-- `place_all` meets its contract. The invariant: what is left to place comes to what was to be placed at first.
-- Assumes nothing.
use Rattle.moving.proofs.Loops.{Placing}
use Rattle.moving.proofs.filling.place_all.Given as goal

abbrev pub invariant-loop-i : goal.invariant-loop-i
invariant-loop-i l = Placing l.described.bytes.now l.values l.initial.registers l.initial.upper l.initial.stack l.registers l.upper l.stack l.laying l.i
