-- `write_runs` meets its contract. The invariant: the runs before that of type j are written, which begins at `from`.
-- Assumes nothing.
use mathlib.Core.Path.{◌≡◌}
use Prim.Native.Nat.{◌+◌, ◌*◌}
use Rattle.tidying.specs.Asks.{Written}
use Rattle.tidying.specs.Call.{call_of}
use Rattle.tidying.specs.Numbering.{table_of}
use Rattle.tidying.specs.Tidy.{start_of, tidy_of}
use Rattle.tidying.proofs.writing.Tidied.write_runs.Given as goal

abbrev pub invariant-loop-j : goal.invariant-loop-j
invariant-loop-j l = (l.from ≡ 11 + 4 * l.self.numbering.count + start_of (table_of (call_of l.self.numbering.types.bytes.now)) l.j) × Written (tidy_of (call_of l.self.numbering.types.bytes.now)) l.from l.out
