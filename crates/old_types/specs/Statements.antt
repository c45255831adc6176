-- What is proved of the sizes of the 386 kind: document 02, request 2026-12. Assumes nothing: these are definitions.
use Rattle.std.specs.Prelude.{◌≡◌, map, ◌≤◌}
use Rattle.description.specs.declared.Model.{Model}
use Rattle.types.specs.Tree.{Ty}
use Rattle.types.specs.Basic.{basic_size as basic_size64, basic_align as basic_align64}
use Rattle.types.specs.Size.{align_ty as align_ty64, size_ty as size_ty64}
use Rattle.old_types.specs.Size.{Basics, align_by, size_by, align_ty}
use Rattle.old_types.specs.Conditions.{types_refusal}
use Rattle.old_types.specs.Cases.{size_cases, sized_so, bit_one, left_and_large}

-- document 01's tables, of a model
abbrev pub tables : Model → Basics
tables m = record { size = basic_size64 m; align = basic_align64 m }

pub record OldSizes : Type 0 where
  pub cases_hold : map sized_so size_cases ≡ size_cases
  -- the rules for arrays, structs and unions are document 01's: by its tables they give its sizes
  pub same_align : (m : Model) (t : Ty) → align_by (tables m) t ≡ align_ty64 m t
  pub same_size : (m : Model) (t : Ty) → size_by (tables m) t ≡ size_ty64 m t
  -- "alignment meaning 4": no type has more
  pub four_most : (t : Ty) → align_ty t ≤ 4
  pub bit_one_lem : types_refusal bit_one ≡ 4
  pub left_before_large : types_refusal left_and_large ≡ 28
