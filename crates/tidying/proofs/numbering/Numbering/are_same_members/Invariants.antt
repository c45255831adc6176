-- `are_same_members` meets its contract. The invariant: the rest of the two runs is the same exactly where the whole runs are.
-- Assumes nothing.
use mathlib.Core.Path.{◌≡◌}
use Prim.Native.Nat.{◌+◌, ◌-◌}
use Rattle.types.specs.Decode.{tys_from, ty_at}
use Rattle.tidying.specs.Same.{same_tys}
use Rattle.tidying.proofs.numbering.Numbering.are_same_members.Given as goal

abbrev pub invariant-loop-i : goal.invariant-loop-i
invariant-loop-i l =
    same_tys (tys_from (ty_at l.self.types.bytes.now) l.self.types.bytes.now (l.a + l.i) (l.count - l.i)) (tys_from (ty_at l.self.types.bytes.now) l.self.types.bytes.now (l.b + l.i) (l.count - l.i))
    ≡ same_tys (tys_from (ty_at l.self.types.bytes.now) l.self.types.bytes.now l.a l.count) (tys_from (ty_at l.self.types.bytes.now) l.self.types.bytes.now l.b l.count)
