-- Request 2026-11, cited. Assumes nothing.
use mathlib.Core.Path.{◌≡◌, refl}
use mathlib.Core.List.{map}
use Rattle.units.specs.Raise.{raise}
use Rattle.classes.specs.Classes.{same, is_x87, merge_of, merge_all}
use Rattle.classes.specs.CleanUp.{up_alone, settled, clean_up}
use Rattle.types.specs.Basic.{basic_size, basic_align}
use Rattle.types.specs.Size.{align_ty, size_ty, offset_after, end_after}
use Rattle.classify.specs.Classify.{first_class, second_class, gap, one_class, vector_at, basic_at, elements_at, eightbytes_in, closed, classes_at, eightbytes_of, shown, classes_of}
use Rattle.moving.proofs.Ilp32.{address-is_right, twenty_seven_exactly, pointer_upper, hidden_upper}
use Rattle.returning.proofs.Theorems.{twenty_seven_exactly as putting-exactly, pointer_upper as returned_pointer, hidden_upper as returned_address_lem}
use Rattle.promises.specs.Ilp32.{ilp32_cases, in_ilp32, Ilp32Model}

all-sized : map in_ilp32 ilp32_cases ≡ ilp32_cases
unfolding raise same is_x87 merge_of merge_all up_alone settled clean_up basic_size basic_align align_ty size_ty offset_after end_after first_class second_class gap one_class vector_at basic_at elements_at eightbytes_in closed classes_at eightbytes_of shown classes_of
all-sized = refl

pub ilp32-model : Ilp32Model
ilp32-model = record {
  cases_hold = all-sized;
  pointer_upper = pointer_upper;
  hidden_upper = hidden_upper;
  returned_pointer = returned_pointer;
  returned_address_lem = returned_address_lem;
  placing = twenty_seven_exactly;
  putting = putting-exactly;
  address_right = address-is_right;
}
