-- What the functions on sizes ask of a description, and what they answer. Assumes nothing: these are definitions.
use Rattle.std.specs.Prelude.{◌≡◌, Bool, false, List, ℕ, ◌+◌, ◌*◌, ◌≤◌, ◌<◌, max}
use Rattle.description.specs.Description.{types_in, members_in, member_at, Whole}
use Rattle.form.specs.Conditions.{broken_record}
use Rattle.types.specs.Tree.{Ty, Tys}
use Rattle.old_types.specs.Size.{aligns_by, end_by, old, align_ty, size_ty}
use Rattle.types.specs.Decode.{ty_at}
use Rattle.types.specs.declared.Extent.{Extent}

-- the records up to number k obey the rules, and each type below k, but perhaps not k, has at most 4,096 bytes: so its size is exact, and no sum overflows
pub record Sized (d : List ℕ) (k : ℕ) : Type 0 where
  pub known : k < types_in d
  pub whole : Whole d
  pub right : (j : ℕ) → j ≤ k → broken_record d j ≡ false
  pub small : (j : ℕ) → j < k → size_ty (ty_at d j) ≤ 4096

-- the same for n members of type k from place i on, those before them ending at x and aligned to a
pub record SizedRun (d : List ℕ) (k i n x a : ℕ) : Type 0 where
  pub sized : Sized d k
  pub fits : i + n ≤ members_in d
  pub lower : (j : ℕ) → i ≤ j → j < i + n → member_at d j < k
  pub room : x + 4128 * n ≤ 4128 * 65536
  pub low : 1 ≤ a
  pub high : a ≤ 4

pub record IsExtent (t : Ty) (r : Extent) : Type 0 where
  pub size : r.size.0 ≡ size_ty t
  pub align : r.align.0 ≡ align_ty t

pub record IsRun (ts : Tys) (is_union : Bool) (x a : ℕ) (r : Extent) : Type 0 where
  pub size : r.size.0 ≡ end_by old ts is_union x
  pub align : r.align.0 ≡ max a (aligns_by old ts)
  pub room : r.size.0 ≤ 4128 * 65536
