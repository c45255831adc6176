-- The arguments of a description and what it returns, as `places` takes them. Assumes nothing: these are definitions.
use Rattle.std.specs.Prelude.{Bool, cond, not, ◌&&◌, List, [], ◌∷◌, ℕ, zero, suc, ◌+◌, ltb, eqb}
use Rattle.description.specs.Description.{named_in, arguments_in, return_in, argument_at, model_in}
use Rattle.types.specs.Size.{size_ty}
use Rattle.types.specs.Decode.{ty_at}
use Rattle.classes.specs.declared.Class.{Class}
use Rattle.classify.specs.Classify.{classes_of}
use Rattle.places.specs.declared.Used.{Used}
use Rattle.places.specs.declared.ReturnPlace.{ReturnPlace}
use Rattle.places.specs.declared.ReturnPlace.TheVariants.{Void}
use Rattle.places.specs.Shapes.{Shape, shape_of}
use Rattle.places.specs.Places.{eights, fresh, after, area}
use Rattle.places.specs.Images.{total}
use Rattle.places.specs.Returns.{return_of, hidden_for}

-- "N, named arguments": the first N are
unfoldable pub is_named : List ℕ → ℕ → Bool
is_named d i = ltb i (named_in d)

-- what places argument i
unfoldable pub shape_at : List ℕ → ℕ → Shape
shape_at d i = shape_of (model_in d) (is_named d i) (ty_at d (argument_at d i))

-- the same of n arguments from the i-th on
unfoldable pub shapes_from : List ℕ → ℕ → ℕ → List Shape
shapes_from d i zero = []
shapes_from d i (suc n) = shape_at d i ∷ shapes_from d (i + 1) n

-- of all arguments
abbrev pub shapes : List ℕ → List Shape
shapes d = shapes_from d 0 (arguments_in d)

-- "Byte 9: return type number, 255 for void"
unfoldable pub is_void : List ℕ → Bool
is_void d = eqb (return_in d) 255

abbrev pub return_classes : List ℕ → List Class
return_classes d = classes_of (model_in d) (ty_at d (return_in d))

unfoldable pub return_place : List ℕ → ReturnPlace
return_place d = cond (is_void d) Void (return_of (return_classes d))

-- the size of the returned type; void has none
unfoldable pub returned_size : List ℕ → ℕ
returned_size d = cond (is_void d) 0 (size_ty (model_in d) (ty_at d (return_in d)))

-- "If the return type's class is MEMORY, a hidden address takes rdi first"
unfoldable pub hidden : List ℕ → Bool
hidden d = not (is_void d) && hidden_for (return_classes d)

-- what is used where no argument is placed yet, and after the first i arguments
abbrev pub used_first : List ℕ → Used
used_first d = fresh (hidden d)

unfoldable pub used_at : List ℕ → ℕ → Used
used_at d i = after eights (used_first d) (shapes_from d 0 i)

-- where the value of argument i begins: "packed, argument after argument, size bytes each, no gaps"
unfoldable pub value_start : List ℕ → ℕ → ℕ
value_start d i = total (shapes_from d 0 i)

-- "The stack image is the rounded area"
unfoldable pub area_of : List ℕ → ℕ
area_of d = area eights (used_first d) (shapes d)
