-- `reach_arguments` meets its contract. The invariant: what the arguments left reach from the table as it is is what all reach from the first.
-- Assumes nothing.
use mathlib.Core.Path.{◌≡◌}
use Prim.Native.Nat.{ℕ, ◌-◌, ◌<◌}
use Rattle.tidying.specs.Asks.{Has, tabled}
use Rattle.tidying.specs.Call.{trees_from}
use Rattle.tidying.specs.Numbering.{reached_from}
use Rattle.description.specs.Description.{argument_at}
use Rattle.tidying.proofs.numbering.Numbering.reach_arguments.Given as goal

abbrev pub invariant-loop-i : goal.invariant-loop-i
invariant-loop-i l =
    (l.self.types ≡ l.initial.self.types)
    × (reached_from (tabled l.d l.self.originals l.self.count) (trees_from l.d l.i (l.arguments - l.i)) ≡ reached_from (tabled l.d l.initial.self.originals l.initial.self.count) (trees_from l.d 0 l.arguments))
    × ((j : ℕ) → j < l.i → Has l.self.numbers (argument_at l.d j))
    × ((j : ℕ) → Has l.initial.self.numbers j → Has l.self.numbers j)
