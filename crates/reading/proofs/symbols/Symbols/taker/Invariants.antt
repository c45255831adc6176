-- What is left below is what was left at first. Assumes nothing.
use mathlib.Core.Path.{◌≡◌}
use Prim.Native.Nat.{◌≤◌}
use Rattle.reading.specs.Code.{takes}
use Rattle.grammar.specs.Prototype.{declarations}
use Rattle.reading.proofs.symbols.Symbols.taker.Given as goal

abbrev pub invariant-loop-place : goal.invariant-loop-place
invariant-loop-place l = (takes declarations l.self.cells l.place l.k ≡ takes declarations l.self.cells l.self.depth l.k) × (l.place ≤ l.self.depth)
