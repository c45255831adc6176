-- `same_run` meets its contract: what is left of the runs is the same exactly where the whole runs are.
-- Assumes nothing.
use mathlib.Core.Path.{◌≡◌}
use lib.ListN.{length, drop}
use Rattle.collecting.proofs.Rows.{part}
use Rattle.collecting.specs.Rows.{same_numbers}
use Rattle.collecting.proofs.interning.same_run.Given as goal

abbrev pub invariant-loop-i : goal.invariant-loop-i
invariant-loop-i l = (same_numbers (drop l.i (part l.members l.a (length l.run))) (drop l.i l.run) ≡ same_numbers (part l.members l.a (length l.run)) l.run)
