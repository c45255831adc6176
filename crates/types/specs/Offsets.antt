-- Where the members of a struct or a union lie: document 01, "A struct member has the lowest aligned offset after the one before .. A union's
-- members are at 0". Assumes nothing: these are definitions.
use Rattle.std.specs.Prelude.{Bool, true, false, List, [], ◌∷◌, ℕ, zero, suc}
use Rattle.types.specs.Tree.{Ty, Tys, basic, array, struct, union, none, more}
use Rattle.description.specs.declared.Model.{Model}
use Rattle.types.specs.Size.{align_ty, size_ty, offset_after, end_after}

-- the offsets of the members that follow those that end at x
unfoldable pub offsets_from : Model → Tys → Bool → ℕ → List ℕ
offsets_from m none is_union x = []
offsets_from m (more t ts) is_union x = offset_after is_union x (align_ty m t) ∷ offsets_from m ts is_union (end_after is_union x (align_ty m t) (size_ty m t))

-- the offsets of a type's members, in their order: a basic type and an array have none
unfoldable pub member_offsets : Model → Ty → List ℕ
member_offsets m (basic code) = []
member_offsets m (array t n) = []
member_offsets m (struct ts) = offsets_from m ts false 0
member_offsets m (union ts) = offsets_from m ts true 0

-- a type's members
unfoldable pub members_of : Ty → Tys
members_of (basic code) = none
members_of (array t n) = none
members_of (struct ts) = ts
members_of (union ts) = ts

-- how many there are, and which is number i, counted from 0; behind the last there is none, and what stands there does not matter
unfoldable pub count : Tys → ℕ
count none = 0
count (more t ts) = suc (count ts)

unfoldable pub member_in : Tys → ℕ → Ty
member_in none i = basic 0
member_in (more t ts) zero = t
member_in (more t ts) (suc i) = member_in ts i
