-- The worked cases hold. Assumes nothing.
use mathlib.Core.Path.{◌≡◌, refl}
use mathlib.Core.List.{map}
use Rattle.addresses.specs.Addresses.{run}
use Rattle.description.specs.declared.Model.TheVariants.{Lp64}
use Rattle.units.specs.Raise.{raise}
use Rattle.classes.specs.Classes.{same, is_x87, merge_of, merge_all}
use Rattle.classes.specs.CleanUp.{up_alone, settled, clean_up}
use Rattle.types.specs.Basic.{basic_size, basic_align}
use Rattle.types.specs.Size.{size_ty, align_ty, align_tys, end_of, offset_after, end_after}
use Rattle.classify.specs.Classify.{first_class, second_class, gap, one_class, vector_at, basic_at, elements_at, eightbytes_in, closed, classes_at, members_at, eightbytes_of, shown, classes_of}
use Rattle.places.specs.Shapes.{kinds_of}
use Rattle.places.specs.Returns.{return_of}
use Rattle.returning.specs.Moved.{parts_of, sources, targets}
use Rattle.returning.specs.Image.{length_for, blank_return, return_image}
use Rattle.returning.specs.Cases.{ImageCase, puts, hidden, image_cases, TypeCase, returned, type_cases}

abbrev pub got : ImageCase → ImageCase
got (puts place n img) = puts place n (return_image place hidden (run 1 n))

pub image-cases : map got image_cases ≡ image_cases
unfolding parts_of sources targets blank_return return_image
image-cases = refl

abbrev pub found : TypeCase → TypeCase
found (returned t img) =
    let place = return_of (classes_of Lp64 t) in
    returned t (return_image place hidden (run 1 (length_for place (size_ty Lp64 t))))

pub type-cases : map found type_cases ≡ type_cases
unfolding raise same is_x87 merge_of merge_all up_alone settled clean_up basic_size basic_align size_ty align_ty align_tys end_of offset_after end_after first_class second_class gap one_class vector_at basic_at elements_at eightbytes_in closed classes_at members_at eightbytes_of shown classes_of kinds_of return_of parts_of sources targets blank_return return_image
type-cases = refl
