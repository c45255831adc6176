-- `write_offsets` meets its contract. The invariant: the offsets of the members that are left are the rest of all.
-- Assumes nothing.
use mathlib.Core.Path.{◌≡◌}
use Rattle.questions.specs.Offsets.{OffsetAt}
use Rattle.questions.proofs.Offsets.{Before}
use Rattle.types.specs.Table.{filled}
use Rattle.questions.proofs.lent_offsets.write_offsets.Given as goal

abbrev pub invariant-loop-i : goal.invariant-loop-i
invariant-loop-i l = record {
  left : Before l.d l.k l.first l.count l.union l.i l.end.0;
  done : l.offsets ≡ filled (OffsetAt l.d l.k) l.i l.initial.offsets;
}
