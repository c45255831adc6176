use mathlib.Core.Path.{◌≡◌}
use Rattle.layout.specs.Lists.{filled}
use Rattle.layout.specs.Placements.{laying_at, placement_at}
use Rattle.layout.proofs.lent_list.lay_out.Given as goal

-- the list is filled below i, and `laying` is what is laid out before record i
abbrev pub invariant-loop-i : goal.invariant-loop-i
invariant-loop-i l = (l.list ≡ filled (placement_at l.d) l.i l.fn.list) × (l.laying ≡ laying_at l.d l.i)
