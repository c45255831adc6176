-- The eights before are copied.
-- Assumes nothing.
use Rattle.std.proofs.Common.{◌≡◌, ◌*◌, length}
use Rattle.addresses.specs.Copy.{copied}
use Rattle.by_plan.proofs.moves.copy_part.Given as goal

abbrev pub invariant-loop-k : goal.invariant-loop-k
invariant-loop-k l = (length l.dst ≡ length l.initial.dst) × (l.dst ≡ copied l.initial.dst l.to l.src l.from (8 * l.k))
