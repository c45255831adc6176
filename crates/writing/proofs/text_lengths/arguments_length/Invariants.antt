-- All arguments. The invariant: the sum of the rest is the sum of all. Assumes nothing.
use Rattle.writing.proofs.Steps.{Summing}
use Rattle.writing.proofs.text_lengths.arguments_length.Given as goal

abbrev pub invariant-loop-i : goal.invariant-loop-i
invariant-loop-i l = Summing l.d l.before l.named l.x l.i
