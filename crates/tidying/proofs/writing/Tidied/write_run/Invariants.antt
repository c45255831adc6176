-- `write_run` meets its contract. The invariant: the numbers of the members before i are written.
-- Assumes nothing.
use mathlib.Core.Path.{◌≡◌}
use Prim.Native.Nat.{ℕ, ◌+◌, ◌<◌}
use lib.ListN.{get_or}
use Rattle.description.specs.Description.{member_at}
use Rattle.tidying.proofs.writing.Tidied.write_run.Given as goal

abbrev pub invariant-loop-i : goal.invariant-loop-i
invariant-loop-i l = (j : ℕ) → j < l.i → get_or l.run j 0 ≡ get_or l.self.numbering.numbers (member_at l.self.numbering.types.bytes.now (l.first + j)) 0
