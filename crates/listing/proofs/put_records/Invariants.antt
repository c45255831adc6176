-- The invariant: i records are put, and `laying` is what is laid out by them. Assumes nothing.
use Rattle.listing.proofs.Lines.{Going}
use Rattle.listing.proofs.put_records.Given as goal

abbrev pub invariant-loop-i : goal.invariant-loop-i
invariant-loop-i l = Going l.described.bytes.now l.initial.text l.text l.laying l.i
