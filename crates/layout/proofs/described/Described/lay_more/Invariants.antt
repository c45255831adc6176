use mathlib.Core.Path.{◌≡◌}
use Rattle.layout.specs.Placements.{laying_at}
use Rattle.layout.proofs.described.Described.lay_more.Given as goal

abbrev pub invariant-loop-i : goal.invariant-loop-i
invariant-loop-i l = l.laying ≡ laying_at l.self.bytes.now l.i
