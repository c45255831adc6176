-- The symbols from the last one down to the one at j stand above the others. Assumes nothing.
use mathlib.Core.Path.{◌≡◌}
use mathlib.Core.List.{[], ◌++◌}
use Prim.Native.Nat.{◌+◌, ◌-◌, ◌≤◌}
use lib.ListN.{length, get_or, drop}
use Rattle.reading.specs.Code.{tops}
use Rattle.reading.specs.Productions.{productions}
use Rattle.reading.proofs.symbols.Symbols.push.Given as goal

abbrev pub invariant-loop-j : goal.invariant-loop-j
invariant-loop-j l = (tops l.self.cells (l.base + l.j) ≡ drop (l.count - l.j) (get_or productions l.p []) ++ tops l.initial.self.cells l.base) × (l.count ≡ length (get_or productions l.p [])) × (l.count ≤ 5) × (l.j ≤ l.count)
