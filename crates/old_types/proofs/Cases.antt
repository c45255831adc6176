-- The worked cases, computed. Assumes nothing.
use mathlib.Core.Path.{◌≡◌, refl}
use mathlib.Core.List.{map}
use Rattle.units.specs.Raise.{raise}
use Rattle.description.specs.Description.{variadic_in, kind_at, a_at, count_at, member_at}
use Rattle.form.specs.Conditions.{too_short, wrong_mark, wrong_version, wrong_counts, wrong_length, broken_basic, broken_array, broken_run, broken_record, wrong_record}
use Rattle.form.specs.Search.{first_from}
use Rattle.types.specs.Size.{offset_after, end_after}
use Rattle.old_types.specs.Basic.{left_code, basic_size, basic_align}
use Rattle.old_types.specs.Size.{align_by, size_by, old}
use Rattle.old_types.specs.Conditions.{wrong_flags, omitted, left_out, types_refusal}
use Rattle.old_types.specs.Cases.{size_cases, sized_so, bit_one, left_and_large}

pub all-sized : map sized_so size_cases ≡ size_cases
unfolding raise offset_after end_after basic_size basic_align align_by size_by old
all-sized = refl

pub bit_one_lem : types_refusal bit_one ≡ 4
unfolding variadic_in too_short wrong_mark wrong_version wrong_counts wrong_flags types_refusal
bit_one_lem = refl

pub left_before_large : types_refusal left_and_large ≡ 28
unfolding variadic_in kind_at a_at count_at member_at too_short wrong_mark wrong_version wrong_counts wrong_length broken_basic broken_array broken_run broken_record wrong_record first_from left_code wrong_flags omitted left_out types_refusal
left_before_large = refl
