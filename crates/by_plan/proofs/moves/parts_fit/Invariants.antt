-- What is left to judge comes to what was to be judged at first.
-- Assumes nothing.
use Rattle.std.proofs.Common.{◌≡◌}
use Rattle.std.specs.Slice.Iter.{chunks_exact_rest, chunks_exact_size}
use Rattle.plans.specs.Moves.{all_fit}
use Rattle.by_plan.specs.Lists.{triples_of}
use Rattle.by_plan.proofs.moves.parts_fit.Given as goal

abbrev pub invariant-loop-part : goal.invariant-loop-part
invariant-loop-part l = record {
  ready : goal.iterator-loop-part.can_next l.part-iterator;
  ends : goal.iterator-loop-part.is_finite l.part-iterator;
  size : chunks_exact_size l.part-iterator ≡ 3;
  same : all_fit l.values l.image (triples_of (chunks_exact_rest l.part-iterator)) ≡ all_fit l.values l.image (triples_of l.parts);
}
