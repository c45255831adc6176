-- What is left below is what was left at first. Assumes nothing.
use mathlib.Core.Path.{◌≡◌}
use Prim.Native.Nat.{◌≤◌}
use Rattle.reading.specs.Code.{tops}
use Rattle.grammar.specs.Machine.{is_ended, finish}
use Rattle.grammar.specs.Prototype.{declarations}
use Rattle.reading.proofs.symbols.Symbols.may_end.Given as goal

abbrev pub invariant-loop-place : goal.invariant-loop-place
invariant-loop-place l = (is_ended (finish declarations (tops l.self.cells l.place)) ≡ is_ended (finish declarations (tops l.self.cells l.self.depth))) × (l.place ≤ l.self.depth)
