-- The cases hold (B14): "proved of the definitions by a single theorem over a list of them". Assumes nothing.
use Rattle.std.specs.Prelude.{Ok, Result}
use mathlib.Core.Path.{◌≡◌, refl}
use mathlib.Core.List.{List, map}
use Rattle.addresses.specs.Addresses.{run}
use Rattle.units.specs.Raise.{raise}
use Rattle.description.specs.Description.{kind_at, a_at, count_at, member_at, argument_at, arguments_in, variadic_in, model_in}
use Rattle.form.specs.Search.{first_from}
use Rattle.form.specs.Conditions.{too_short, wrong_mark, wrong_version, wrong_counts, wrong_length, broken_basic, broken_array, broken_run, broken_record, wrong_record}
use Rattle.types.specs.Basic.{basic_size, basic_align}
use Rattle.types.specs.Size.{align_ty, size_ty, offset_after, end_after}
use Rattle.types.specs.Decode.{tys_from, ty_by, ty_at}
use Rattle.types.specs.Large.{large, too_large}
use Rattle.classes.specs.Classes.{same, is_x87, merge_of, merge_all}
use Rattle.classes.specs.CleanUp.{up_alone, settled, clean_up}
use Rattle.classify.specs.Classify.{first_class, second_class, gap, one_class, vector_at, basic_at, elements_at, eightbytes_in, closed, classes_at, eightbytes_of, shown, classes_of}
use Rattle.uses.specs.Uses.{wrong_number, wrong_return, wrong_use, narrow, narrow_unnamed}
use Rattle.places.specs.Shapes.{kinds_of, kinds_for, shape_of}
use Rattle.places.specs.Places.{enough, fits, start, place, next, area}
use Rattle.places.specs.Returns.{return_of, hidden_by}
use Rattle.layout.specs.Arguments.{is_named, shape_at, shapes_from, is_void, return_place, returned_size, hidden, used_at, value_start, area_of}
use Rattle.layout.specs.Verdict.{wide_area, verdict}
use Rattle.layout.specs.Layout.{values_of, layout_of, layout_answer}
use Rattle.layout.specs.Placements.{laying_at, placement_at}
use Rattle.layout.specs.declared.placements.Placement.{Placement}
use Rattle.cases.specs.Cases.{Case, cases}
use Rattle.layout.specs.declared.Layout.{Layout}
use Rattle.form.specs.declared.Refusal.{Refusal}

-- what the definitions say, and what the case says
abbrev got : Case → Result Layout Refusal × List Placement
got c = (layout_answer c.bytes, map (placement_at c.bytes) (run 0 (arguments_in c.bytes)))

abbrev want : Case → Result Layout Refusal × List Placement
want c = (Ok c.laid, c.records)

pub cases_hold : map got cases ≡ map want cases
unfolding cases raise kind_at a_at count_at member_at argument_at first_from too_short wrong_mark wrong_version wrong_counts wrong_length broken_basic broken_array broken_run broken_record wrong_record basic_size basic_align align_ty size_ty offset_after end_after tys_from ty_by ty_at variadic_in model_in large too_large same is_x87 merge_of merge_all up_alone settled clean_up first_class second_class gap one_class vector_at basic_at elements_at eightbytes_in closed classes_at eightbytes_of shown classes_of wrong_number wrong_return wrong_use narrow narrow_unnamed kinds_of kinds_for shape_of enough fits start place next area return_of hidden_by is_named shape_at shapes_from is_void return_place hidden used_at value_start area_of wide_area verdict values_of returned_size layout_of layout_answer laying_at placement_at
cases_hold = refl
