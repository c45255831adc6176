-- What is left to judge comes to what was to be judged at first.
-- Assumes nothing.
use Rattle.std.proofs.Common.{◌≡◌}
use Rattle.std.specs.Slice.Iter.{chunks_exact_rest, chunks_exact_size}
use Rattle.plans.specs.Moves.{all_fit}
use Rattle.by_plan.specs.Lists.{pairs_of}
use Rattle.by_plan.proofs.moves.pairs_fit.Given as goal

abbrev pub invariant-loop-pair : goal.invariant-loop-pair
invariant-loop-pair g l = record {
  ready : (goal.iterator-loop-pair g).can_next l.pair-iterator;
  ends : (goal.iterator-loop-pair g).is_finite l.pair-iterator;
  size : chunks_exact_size l.pair-iterator ≡ 2;
  same : all_fit l.values l.image (pairs_of g.row.WIDTH (chunks_exact_rest l.pair-iterator)) ≡ all_fit l.values l.image (pairs_of g.row.WIDTH l.pairs);
}
