-- `mark_all` meets its contract. The invariant: the types below k have their marks.
-- Assumes nothing.
use mathlib.Core.Path.{◌≡◌}
use lib.ListN.{length}
use Rattle.tidying.specs.Marks.{Marked}
use Rattle.tidying.proofs.marking.mark_all.Given as goal

abbrev pub invariant-loop-k : goal.invariant-loop-k
invariant-loop-k l = Marked l.d l.marks l.k × (length l.marks ≡ 64)
