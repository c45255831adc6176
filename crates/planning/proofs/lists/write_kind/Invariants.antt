-- What is left to write comes to the whole list.
-- Assumes nothing.
use Prim.Native.Nat.{◌+◌, ◌*◌, ◌-◌, ◌≤◌}
use lib.ListN.{length}
use Rattle.planning.specs.Joining.{all_of}
use Rattle.planning.proofs.Writing.{Writing}
use Rattle.plans.specs.Plans.{triples}
use Rattle.planning.proofs.lists.write_kind.Given as goal

abbrev pub invariant-loop-k : goal.invariant-loop-k
invariant-loop-k l = Writing l.moves l.kind l.initial.plan l.first l.count l.plan l.at (3 * l.k) (l.count - l.k) × (l.first + length (all_of l.kind (triples l.moves 0 l.count)) ≤ length l.initial.plan)
