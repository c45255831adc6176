-- The members of a type. The invariant: the sum of the rest is the sum of all. Assumes nothing.
use Rattle.writing.proofs.Steps.{Adding}
use Rattle.declaring.specs.Length.{braces_length}
use Rattle.writing.proofs.text_lengths.members_length.Given as goal

abbrev pub invariant-loop-i : goal.invariant-loop-i
invariant-loop-i l = Adding l.d l.first l.count (braces_length l.union) l.x l.i
