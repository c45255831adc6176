-- The table, from number 0 upward. The invariant: the entries below k are there. Assumes nothing.
use mathlib.Core.Path.{◌≡◌}
use Prim.Native.Nat.{◌≤◌}
use lib.ListN.{length}
use Rattle.writing.specs.Asks.{Lengths}
use Rattle.description.specs.Description.{types_in}
use Rattle.writing.proofs.text_lengths.fill_lengths.Given as goal

abbrev pub invariant-loop-k : goal.invariant-loop-k
invariant-loop-k l = (l.types ≡ types_in l.d) × (l.k ≤ l.types) × (length l.table ≡ 64) × Lengths l.d l.k l.table
