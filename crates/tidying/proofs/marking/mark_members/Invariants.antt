-- `mark_members` meets its contract. The invariant: what is mixed so far gives, with the members that are left, what the whole run gives.
-- Assumes nothing.
use mathlib.Core.Path.{◌≡◌}
use Prim.Native.Nat.{◌+◌, ◌-◌}
use Rattle.tidying.specs.Marks.{mark_tys}
use Rattle.types.specs.Decode.{tys_from, ty_at}
use Rattle.tidying.proofs.marking.mark_members.Given as goal

abbrev pub invariant-loop-at : goal.invariant-loop-at
invariant-loop-at l = mark_tys l.mark (tys_from (ty_at l.d) l.d l.at (l.first + l.count - l.at)) ≡ mark_tys l.start (tys_from (ty_at l.d) l.d l.first l.count)
