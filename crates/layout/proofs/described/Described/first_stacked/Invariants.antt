use Rattle.layout.proofs.Stacked.{Looking}
use Rattle.layout.proofs.described.Described.first_stacked.Given as goal

-- no argument so far went to the stack, so the first that does is among the rest
abbrev pub invariant-loop-i : goal.invariant-loop-i
invariant-loop-i l = Looking l.self.bytes.now l.i l.laying
