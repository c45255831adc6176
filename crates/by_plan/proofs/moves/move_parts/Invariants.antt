-- What is left to move comes to what was to be moved at first.
-- Assumes nothing.
use Rattle.std.proofs.Common.{◌≡◌, length, true, not, nat_eq}
use Rattle.std.specs.Slice.Iter.{chunks_exact_rest, chunks_exact_size}
use Rattle.plans.specs.Moves.{move_all, all_fit}
use Rattle.by_plan.specs.Lists.{triples_of, turned_if}
use Rattle.by_plan.proofs.moves.move_parts.Given as goal

abbrev pub invariant-loop-part : goal.invariant-loop-part
invariant-loop-part g l = record {
  ready : (goal.iterator-loop-part g).can_next l.part-iterator;
  ends : (goal.iterator-loop-part g).is_finite l.part-iterator;
  size : chunks_exact_size l.part-iterator ≡ 3;
  long : length l.dst ≡ length l.initial.dst;
  fit : all_fit (length l.src) (length l.dst) (turned_if (not (nat_eq g.row.TURNED 0)) (triples_of (chunks_exact_rest l.part-iterator))) ≡ true;
  same : move_all l.dst l.src (turned_if (not (nat_eq g.row.TURNED 0)) (triples_of (chunks_exact_rest l.part-iterator)))
      ≡ move_all l.initial.dst l.src (turned_if (not (nat_eq g.row.TURNED 0)) (triples_of l.parts));
}
