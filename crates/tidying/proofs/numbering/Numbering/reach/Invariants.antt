-- `reach` meets its contract. The invariant: what is reached from the table as it is is what is reached from the first.
-- Assumes nothing.
use mathlib.Core.Path.{◌≡◌}
use Prim.Native.Nat.{ℕ}
use Rattle.tidying.specs.Asks.{Has, tabled, blanks}
use Rattle.tidying.specs.Numbering.{reached}
use Rattle.types.specs.Decode.{ty_at}
use Rattle.tidying.proofs.numbering.Numbering.reach.Given as goal

abbrev pub invariant-loop-self : goal.invariant-loop-self
invariant-loop-self l =
    (l.self.types ≡ l.initial.self.types)
    × (reached (tabled l.self.types.bytes.now l.self.originals l.self.count) (ty_at l.self.types.bytes.now l.k) ≡ reached (tabled l.self.types.bytes.now l.initial.self.originals l.initial.self.count) (ty_at l.self.types.bytes.now l.k))
    × ((i : ℕ) → Has l.initial.self.numbers i → Has l.self.numbers i)

abbrev pub decreases-loop-self : goal.decreases-loop-self
decreases-loop-self l = blanks l.self.numbers
