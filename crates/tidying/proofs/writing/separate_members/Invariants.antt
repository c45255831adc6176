-- `separate_members` meets its contract. The invariant: the sum is where the run of type j begins.
-- Assumes nothing.
use mathlib.Core.Path.{◌≡◌}
use Prim.Native.Nat.{◌*◌, ◌≤◌}
use Rattle.tidying.specs.Call.{call_of}
use Rattle.tidying.specs.Numbering.{table_of}
use Rattle.tidying.specs.Tidy.{start_of}
use Rattle.tidying.proofs.writing.separate_members.Given as goal

abbrev pub invariant-loop-j : goal.invariant-loop-j
invariant-loop-j l = (l.sum ≡ start_of (table_of (call_of l.numbering.types.bytes.now)) l.j) × (l.sum ≤ 65536 * l.j)
