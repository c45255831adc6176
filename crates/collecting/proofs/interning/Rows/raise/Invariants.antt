-- The arrays of the sizes from i on are completed. Assumes nothing.
use mathlib.Core.Path.{◌≡◌}
use Prim.Native.Nat.{◌≤◌}
use lib.ListN.{length, drop}
use Rattle.std.specs.Prelude.{Some}
use Rattle.collecting.specs.Bounded.{raise}
use Rattle.collecting.specs.Arrays.{rows_at, kept_of}
use Rattle.collecting.proofs.interning.Rows.raise.Given as goal

abbrev pub invariant-loop-i : goal.invariant-loop-i
invariant-loop-i l =
    (kept_of (Some l.element) (rows_at l.self.kinds l.self.seconds l.self.counts l.self.members l.self.types) ≡ raise (drop l.i l.sizes) (kept_of (Some l.fn.number) (rows_at l.fn.self.kinds l.fn.self.seconds l.fn.self.counts l.fn.self.members l.fn.self.types)))
    × (l.element ≤ 64)
    × (l.i ≤ length l.sizes)
