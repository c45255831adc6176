-- The layout of a call written out: no type number counts. Assumes nothing: these are definitions.
use Rattle.std.specs.Prelude.{Bool, false, List, [], ◌∷◌, ℕ, ◌+◌, ltb, length, get_or, take}
use Rattle.description.specs.declared.Model.{Model}
use Rattle.types.specs.Tree.{Ty, basic}
use Rattle.types.specs.Size.{size_ty}
use Rattle.classify.specs.Classify.{classes_of}
use Rattle.places.specs.declared.Used.{Used}
use Rattle.places.specs.declared.ReturnPlace.{ReturnPlace}
use Rattle.places.specs.declared.ReturnPlace.TheVariants.{Void}
use Rattle.places.specs.Shapes.{Shape, shape_of}
use Rattle.places.specs.Places.{eights, fresh, place, after, area_align, area}
use Rattle.places.specs.Images.{total}
use Rattle.places.specs.Returns.{return_of, hidden_for}
use Rattle.places.specs.Recorded.{recorded}
use Rattle.layout.specs.declared.placements.Placement.{Placement}
use Rattle.layout.specs.declared.Layout.{Layout}
use Rattle.tidying.specs.Call.{Returned, void, returned, Call}

-- in the model m
module _ (m : Model) where
  abbrev pub hidden_in : Returned → Bool
  hidden_in void = false
  hidden_in (returned t) = hidden_for (classes_of m t)

  abbrev pub place_in : Returned → ReturnPlace
  place_in void = Void
  place_in (returned t) = return_of (classes_of m t)

  abbrev pub size_in : Returned → ℕ
  size_in void = 0
  size_in (returned t) = size_ty m t

  -- arguments from number i on, the first `named` of all being named
  unfoldable pub shapes_by : ℕ → ℕ → List Ty → List Shape
  shapes_by named i [] = []
  shapes_by named i (t ∷ ts) = shape_of m (ltb i named) t ∷ shapes_by named (i + 1) ts

  unfoldable pub shapes_in : Call → List Shape
  shapes_in c = shapes_by c.named 0 c.arguments

  abbrev pub shape_for : Call → ℕ → Shape
  shape_for c i = shape_of m (ltb i c.named) (get_or c.arguments i (basic 0))

  unfoldable pub used_in : Call → ℕ → Used
  used_in c i = after eights (fresh (hidden_in c.returns)) (take i (shapes_in c))

  unfoldable pub layout_in : Call → Layout
  layout_in c = record {
    used = used_in c (length c.arguments);
    area = record { 0 = area eights (fresh (hidden_in c.returns)) (shapes_in c) };
    align = record { 0 = area_align (used_in c (length c.arguments)) };
    values = record { 0 = total (shapes_in c) };
    returns = place_in c.returns;
    returned = record { 0 = size_in c.returns };
    hidden = hidden_in c.returns;
    named = used_in c c.named;
  }

  -- the record of argument i, which has type number n
  unfoldable pub placement_in : Call → ℕ → ℕ → Placement
  placement_in c i n = record {
    ty = n;
    size = record { 0 = (shape_for c i).size };
    align = record { 0 = (shape_for c i).align };
    place = recorded (place eights (used_in c i) (shape_for c i));
    at = record { 0 = total (take i (shapes_in c)) };
    named = ltb i c.named;
  }
