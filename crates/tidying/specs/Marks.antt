-- A mark for each type: equal types have equal marks, so that types with different ones need not be compared part by part. How it is mixed matters for speed
-- alone. Assumes nothing: these are definitions.
use Rattle.std.specs.Prelude.{◌≡◌, List, ℕ, ◌+◌, ◌*◌, ◌%◌, ◌≤◌, ◌<◌, get_or}
use Rattle.description.specs.Description.{members_in, member_at, Whole}
use Rattle.types.specs.Tree.{Ty, Tys, basic, array, struct, union, none, more}
use Rattle.types.specs.Decode.{ty_at}

-- one number more, in 32 bits
unfoldable pub mixed : ℕ → ℕ → ℕ
mixed mark next = (mark * 2654435761 + next) % 4294967296

unfoldable mutual
  pub mark_ty : Ty → ℕ
  mark_ty (basic c) = mixed 0 c
  mark_ty (array t n) = mixed (mixed 1 n) (mark_ty t)
  mark_ty (struct ts) = mark_tys 2 ts
  mark_ty (union ts) = mark_tys 3 ts

  -- that of members, behind what is mixed so far
  pub mark_tys : ℕ → Tys → ℕ
  mark_tys mark none = mark
  mark_tys mark (more t ts) = mark_tys (mixed mark (mark_ty t)) ts

-- the first n types have their marks
pub record Marked (d marks : List ℕ) (n : ℕ) : Type 0 where
  pub right : (k : ℕ) → k < n → get_or marks k 0 ≡ mark_ty (ty_at d k)

-- members whose types have their marks
pub record AskMarks (d marks : List ℕ) (first count : ℕ) : Type 0 where
  pub whole : Whole d
  pub fits : first + count ≤ members_in d
  pub below : (i : ℕ) → first ≤ i → i < first + count → member_at d i < 64
  pub known : (i : ℕ) → first ≤ i → i < first + count → get_or marks (member_at d i) 0 ≡ mark_ty (ty_at d (member_at d i))
