-- `list_members` meets its contract. The invariant: the members passed are listed once each, and those that are marked add nothing.
-- Assumes nothing.
use Prim.Native.Nat.{◌-◌}
use Rattle.classify.proofs.Skips.{Listing}
use Rattle.classify.proofs.unions.list_members.Given as goal

abbrev pub invariant-loop-i : goal.invariant-loop-i
invariant-loop-i l = Listing l.d l.k l.i (l.i-end - l.i) l.list.members l.list.count l.seen
