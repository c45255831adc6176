-- The walk over 000's figure computes: every call answers what is told. Assumes nothing.
use mathlib.Core.Path.{refl}
use Rattle.units.specs.Raise.{raise}
use Rattle.description.specs.Description.{IsBytes, header_of, kind_at, a_at, count_at, member_at, argument_at, variadic_in, model_in}
use Rattle.form.specs.Conditions.{too_short, wrong_mark, wrong_version, wrong_counts, wrong_length, broken_basic, broken_array, broken_run, broken_record, wrong_record}
use Rattle.form.specs.Search.{first_from}
use Rattle.types.specs.Basic.{basic_size, basic_align}
use Rattle.types.specs.Decode.{tys_from, ty_by, ty_at}
use Rattle.types.specs.Large.{large, too_large}
use Rattle.types.specs.Size.{offset_after, end_after, widest, size_ty, align_ty}
use Rattle.classes.specs.Classes.{same, is_x87, merge_of, merge_all}
use Rattle.classes.specs.CleanUp.{up_alone, settled, clean_up}
use Rattle.classify.specs.Classify.{first_class, second_class, gap, one_class, vector_at, basic_at, elements_at, eightbytes_in, closed, classes_at, eightbytes_of, shown, classes_of}
use Rattle.uses.specs.Uses.{wrong_number, wrong_return, wrong_use, narrow, narrow_unnamed}
use Rattle.places.specs.Shapes.{kinds_of, kinds_for, shape_of}
use Rattle.places.specs.Places.{enough, fits, start, place, next, area}
use Rattle.places.specs.Returns.{hidden_by}
use Rattle.layout.specs.Arguments.{is_named, shape_at as layout_shape, shapes_from, is_void, hidden, area_of as layout_area}
use Rattle.layout.specs.Verdict.{wide_area}
use Rattle.station.specs.Paper.{verdict_of, arguments, shape_at, type_at, used_at, area_of, kcb}
use Rattle.station.specs.Attachment.{new_station, wrong_seat, described, seat_of, attach_refusal, attach_station, attach_seat}
use Rattle.walk.specs.Offsets.{holds, raised, read_at, step, walk_at}
use Rattle.walk.specs.Orders.{wrong_registers, other_number, standing, open_refusal, astray, at_end, other_type, wrong_stack, wrong_out, step_refusal, show_refusal}
use Rattle.walk.specs.Steps.{open_walk, bytes_at, moved_on, step_walk, step_out}
use Rattle.histories.specs.Calls.{with_walk}
use Rattle.histories.specs.Values.{blank, images_for}
use Rattle.histories.specs.Figure.{figure, walked, Walked}
use Rattle.histories.proofs.Accident.{small_bytes}

pub figure-bytes : IsBytes figure
figure-bytes = small_bytes figure refl

pub figure-walked : Walked (walked figure-bytes)
unfolding raise header_of kind_at a_at count_at member_at argument_at too_short wrong_mark wrong_version wrong_counts wrong_length broken_basic broken_array broken_run broken_record wrong_record first_from basic_size basic_align tys_from ty_by ty_at variadic_in model_in large too_large offset_after end_after widest size_ty align_ty same is_x87 merge_of merge_all up_alone settled clean_up first_class second_class gap one_class vector_at basic_at elements_at eightbytes_in closed classes_at eightbytes_of shown classes_of wrong_number wrong_return wrong_use narrow narrow_unnamed kinds_of kinds_for shape_of enough fits start place next area hidden_by is_named layout_shape shapes_from is_void hidden layout_area wide_area verdict_of arguments shape_at type_at used_at area_of kcb new_station wrong_seat described seat_of attach_refusal attach_station attach_seat holds raised read_at step walk_at wrong_registers other_number standing open_refusal astray at_end other_type wrong_stack wrong_out step_refusal show_refusal open_walk bytes_at moved_on step_walk step_out with_walk blank images_for
figure-walked = record { answer = refl; each = refl; upper = refl }
