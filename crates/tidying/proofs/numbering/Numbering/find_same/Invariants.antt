-- `find_same` meets its contract. The invariant: no type passed is the same as type k.
-- Assumes nothing.
use mathlib.Core.Path.{◌≡◌}
use mathlib.Core.Bool.{false}
use Prim.Native.Nat.{ℕ, ◌<◌}
use lib.ListN.{get_or}
use Rattle.types.specs.Decode.{ty_at}
use Rattle.tidying.specs.Same.{same_ty}
use Rattle.tidying.proofs.numbering.Numbering.find_same.Given as goal

abbrev pub invariant-loop-j : goal.invariant-loop-j
invariant-loop-j l = (i : ℕ) → i < l.j → same_ty (ty_at l.self.types.bytes.now (get_or l.self.originals i 0)) (ty_at l.self.types.bytes.now l.k) ≡ false
