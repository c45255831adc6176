-- No row before k is the one that is looked for. Assumes nothing.
use mathlib.Core.Path.{◌≡◌}
use mathlib.Core.Bool.{false}
use Prim.Native.Nat.{ℕ, ◌<◌}
use Rattle.collecting.specs.Arrays.{row_by, row_at}
use Rattle.collecting.specs.Rows.{same_row}
use Rattle.collecting.proofs.interning.Rows.find.Given as goal

abbrev pub invariant-loop-k : goal.invariant-loop-k
invariant-loop-k l = (i : ℕ) → i < l.k → same_row (row_at l.self.kinds l.self.seconds l.self.counts l.self.members i) (row_by l.row.kind l.row.second l.row.count l.row.run.now) ≡ false
