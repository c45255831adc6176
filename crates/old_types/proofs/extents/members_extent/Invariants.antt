-- `members_extent` meets its contract. The invariant: what answers for the members that are left answers for all of them.
-- Assumes nothing.
use Prim.Native.Nat.{◌+◌, ◌-◌}
use Rattle.types.specs.declared.Extent.{Extent}
use Rattle.old_types.specs.Asks.{SizedRun, IsRun}
use Rattle.types.specs.Decode.{tys_from, ty_at}
use Rattle.old_types.proofs.extents.members_extent.Given as goal

abbrev pub invariant-loop-at : goal.invariant-loop-at
invariant-loop-at l = record {
  left : SizedRun l.d l.k l.at (l.first + l.count - l.at) l.size.0 l.align.0;
  answers : (r : Extent) → IsRun (tys_from (ty_at l.d) l.d l.at (l.first + l.count - l.at)) l.union l.size.0 l.align.0 r → IsRun (tys_from (ty_at l.d) l.d l.first l.count) l.union 0 1 r;
}
