-- The list is filled below i, and `laying` is what is laid out before record i. Assumes nothing.
use Rattle.std.proofs.Common.{◌≡◌}
use Rattle.layout.specs.Lists.{filled}
use Rattle.layout.specs.Placements.{laying_at}
use Rattle.callbridge.specs.LayoutCalls.{flat_at}
use Rattle.callbridge.proofs.lay_out.Given as goal

abbrev pub invariant-loop-i : goal.invariant-loop-i
invariant-loop-i l = (l.list ≡ filled (flat_at l.d) l.i l.fn.list) × (l.laying ≡ laying_at l.d l.i)
