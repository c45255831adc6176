-- Size and alignment of a type written out, by any table of basic types, and by the Intel386's: 003 has document 01's rules for arrays, structs and unions,
-- "Structures and unions assume the alignment of their most strictly aligned component. Each member is assigned to the lowest available offset with the
-- appropriate alignment. The size of any object is always a multiple of the object's alignment". Assumes nothing: these are definitions.
use Rattle.std.specs.Prelude.{Bool, true, false, ℕ, ◌*◌, max}
use Rattle.units.specs.Raise.{raise}
use Rattle.types.specs.Tree.{Ty, Tys, basic, array, struct, union, none, more}
use Rattle.types.specs.Size.{end_after}
use Rattle.old_types.specs.Basic.{basic_size, basic_align}

-- what size and what alignment a code has
pub record Basics : Type 0 where
  pub size : ℕ → ℕ
  pub align : ℕ → ℕ

unfoldable mutual
  pub align_by : Basics → Ty → ℕ
  align_by b (basic code) = b.align code
  align_by b (array t n) = align_by b t
  align_by b (struct ts) = aligns_by b ts
  align_by b (union ts) = aligns_by b ts

  pub aligns_by : Basics → Tys → ℕ
  aligns_by b none = 1
  aligns_by b (more t ts) = max (align_by b t) (aligns_by b ts)

unfoldable mutual
  pub size_by : Basics → Ty → ℕ
  size_by b (basic code) = b.size code
  size_by b (array t n) = size_by b t * n
  size_by b (struct ts) = raise (aligns_by b ts) (end_by b ts false 0)
  size_by b (union ts) = raise (aligns_by b ts) (end_by b ts true 0)

  -- where the members end that follow those that end at x
  pub end_by : Basics → Tys → Bool → ℕ → ℕ
  end_by b none is_union x = x
  end_by b (more t ts) is_union x = end_by b ts is_union (end_after is_union x (align_by b t) (size_by b t))

-- the Intel386's table
unfoldable pub old : Basics
old = record { size = basic_size; align = basic_align }

abbrev pub align_ty : Ty → ℕ
align_ty t = align_by old t

abbrev pub size_ty : Ty → ℕ
size_ty t = size_by old t
