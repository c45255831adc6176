-- What is left to move comes to what was to be moved at first.
-- Assumes nothing.
use Rattle.std.proofs.Common.{◌≡◌, length, true, not, nat_eq}
use Rattle.std.specs.Slice.Iter.{chunks_exact_rest, chunks_exact_size}
use Rattle.plans.specs.Moves.{move_all, all_fit}
use Rattle.by_plan.specs.Lists.{pairs_of, turned_if}
use Rattle.by_plan.proofs.moves.move_pairs.Given as goal

abbrev pub invariant-loop-pair : goal.invariant-loop-pair
invariant-loop-pair g l = record {
  ready : (goal.iterator-loop-pair g).can_next l.pair-iterator;
  ends : (goal.iterator-loop-pair g).is_finite l.pair-iterator;
  size : chunks_exact_size l.pair-iterator ≡ 2;
  long : length l.dst ≡ length l.initial.dst;
  fit : all_fit (length l.src) (length l.dst) (turned_if (not (nat_eq g.row.TURNED 0)) (pairs_of g.row.WIDTH (chunks_exact_rest l.pair-iterator))) ≡ true;
  same : move_all l.dst l.src (turned_if (not (nat_eq g.row.TURNED 0)) (pairs_of g.row.WIDTH (chunks_exact_rest l.pair-iterator)))
      ≡ move_all l.initial.dst l.src (turned_if (not (nat_eq g.row.TURNED 0)) (pairs_of g.row.WIDTH l.pairs));
}
