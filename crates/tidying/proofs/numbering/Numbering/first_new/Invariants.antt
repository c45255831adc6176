-- `first_new` meets its contract. The invariant: what is left to search finds what the whole search finds.
-- Assumes nothing.
use mathlib.Core.Path.{◌≡◌}
use Prim.Native.Nat.{◌+◌, ◌-◌}
use Rattle.form.specs.Search.{first_from}
use Rattle.tidying.specs.Asks.{unnumbered}
use Rattle.tidying.proofs.numbering.Numbering.first_new.Given as goal

abbrev pub invariant-loop-at : goal.invariant-loop-at
invariant-loop-at l = first_from (unnumbered l.self.types.bytes.now l.self.numbers) l.at (l.first + l.count - l.at) ≡ first_from (unnumbered l.self.types.bytes.now l.self.numbers) l.first l.count
