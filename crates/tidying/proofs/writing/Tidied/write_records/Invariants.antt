-- `write_records` meets its contract. The invariant: the records before j are written, and the run of type j begins at `start`.
-- Assumes nothing.
use mathlib.Core.Path.{◌≡◌}
use Prim.Native.Nat.{◌+◌, ◌*◌}
use Rattle.tidying.specs.Asks.{Written}
use Rattle.tidying.specs.Call.{call_of}
use Rattle.tidying.specs.Numbering.{table_of}
use Rattle.tidying.specs.Tidy.{start_of, tidy_of}
use Rattle.tidying.proofs.writing.Tidied.write_records.Given as goal

abbrev pub invariant-loop-j : goal.invariant-loop-j
invariant-loop-j l = (l.start ≡ start_of (table_of (call_of l.self.numbering.types.bytes.now)) l.j) × Written (tidy_of (call_of l.self.numbering.types.bytes.now)) (11 + 4 * l.j) l.out
