-- The worked cases of the 386 kind, computed. Assumes nothing.
use mathlib.Core.Path.{◌≡◌, refl}
use mathlib.Core.List.{◌∷◌}
use Rattle.addresses.specs.Addresses.{run}
use Rattle.units.specs.Raise.{raise}
use Rattle.description.specs.Description.{variadic_in, kind_at, a_at, count_at, member_at, argument_at}
use Rattle.form.specs.Conditions.{too_short, wrong_mark, wrong_version, wrong_counts, wrong_length, broken_basic, broken_array, broken_run, broken_record, wrong_record}
use Rattle.form.specs.Search.{first_from}
use Rattle.types.specs.Decode.{tys_from, ty_by, ty_at}
use Rattle.types.specs.Size.{offset_after, end_after}
use Rattle.uses.specs.Uses.{wrong_number, wrong_return, wrong_use, narrow, narrow_unnamed}
use Rattle.layout.specs.Arguments.{is_void}
use Rattle.places.specs.Places.{enough, fits, start, place, next, area}
use Rattle.histories.specs.Accident.{lister}
use Rattle.old_types.specs.Basic.{left_code, basic_size, basic_align}
use Rattle.old_types.specs.Size.{align_by, size_by, old}
use Rattle.old_types.specs.Conditions.{wrong_flags, omitted, left_out, large, too_large}
use Rattle.intel386.specs.Arguments.{shape_at, shapes_from, hidden, area_of, addresses_of}
use Rattle.intel386.specs.Verdict.{wide_area, verdict}
use Rattle.intel386.specs.Cases.{old_call}

pub call-accepted : verdict old_call ≡ 0
unfolding raise variadic_in kind_at a_at count_at member_at argument_at too_short wrong_mark wrong_version wrong_counts wrong_length broken_basic broken_array broken_run broken_record wrong_record first_from tys_from ty_by ty_at offset_after end_after wrong_number wrong_return wrong_use narrow narrow_unnamed is_void enough fits start place next area left_code basic_size basic_align align_by size_by old wrong_flags omitted left_out large too_large shape_at shapes_from hidden area_of wide_area verdict
call-accepted = refl

-- the hidden address at 0, the char at 4, the double at 8, the long double's 12 bytes at 16, the int at 28
pub call-placed : addresses_of old_call ≡ 4 ∷ run 8 24
unfolding raise kind_at a_at count_at member_at argument_at tys_from ty_by ty_at offset_after end_after is_void enough fits start place next basic_size basic_align align_by size_by old shape_at shapes_from hidden addresses_of
call-placed = refl

pub call-area : area_of old_call ≡ 32
unfolding raise kind_at a_at count_at member_at argument_at tys_from ty_by ty_at offset_after end_after is_void enough fits start place next area basic_size basic_align align_by size_by old shape_at shapes_from hidden area_of
call-area = refl

-- document 01's lister's case has an __int128 among its unnamed arguments
pub lister-left : verdict lister ≡ 28
unfolding raise variadic_in kind_at a_at count_at member_at argument_at too_short wrong_mark wrong_version wrong_counts wrong_length broken_basic broken_array broken_run broken_record wrong_record first_from left_code wrong_flags omitted left_out verdict
lister-left = refl
