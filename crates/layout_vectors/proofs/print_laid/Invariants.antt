use mathlib.Core.Path.{◌≡◌}
use Rattle.layout.specs.Placements.{laying_at}
use Rattle.layout_vectors.proofs.print_laid.Given as goal

-- `laying` is what is laid out before record i
abbrev pub invariant-loop-i : goal.invariant-loop-i
invariant-loop-i g l = l.laying ≡ laying_at l.described.bytes.now l.i
