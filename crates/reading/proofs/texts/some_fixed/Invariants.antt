-- `some_fixed` meets its contract: the fixed tokens that are left say what all did.
-- Assumes nothing.
use mathlib.Core.Path.{◌≡◌}
use Prim.Native.Nat.{◌+◌, ◌≤◌}
use lib.ListN.{drop}
use Rattle.reading.specs.Code.{tops}
use Rattle.grammar.specs.Machine.{some_fixed}
use Rattle.grammar.specs.Prototype.{spellings, declarations}
use Rattle.reading.proofs.texts.some_fixed.Given as goal

abbrev pub invariant-loop-i : goal.invariant-loop-i
invariant-loop-i l = (some_fixed declarations (tops l.symbols.cells l.symbols.depth) (drop l.i spellings) (l.i + 3) l.token ≡ some_fixed declarations (tops l.symbols.cells l.symbols.depth) spellings 3 l.token) × (l.i ≤ 45)
