-- "the layout is the same apart from type numbers": a description's layout is that of the call that it says. Assumes nothing.
use mathlib.Core.Path.{◌≡◌, refl, sym, ap, ◌∙◌}
use mathlib.Core.Bool.{Bool, true, false, cond}
use mathlib.Core.List.{List, ◌∷◌}
use Prim.Native.Nat.{ℕ, zero, suc, ◌+◌, ◌-◌, ◌/◌, ◌%◌, ◌≤◌, ◌<◌}
use native.Mathlib.Omega.{arith}
use lib.Dec.{eqb}
use lib.ListN.{length, get_or, take}
use lib.Seq.{take_at}
use Rattle.description.specs.declared.Model.TheVariants.{Lp64, Ilp32}
use Rattle.description.specs.Description.{flags_in, model_in, arguments_in, named_in, argument_at}
use Rattle.types.specs.Tree.{basic}
use Rattle.types.specs.Decode.{ty_at}
use Rattle.places.specs.Shapes.{Shape}
use Rattle.places.specs.Places.{eights, fresh, area}
use Rattle.places.specs.Images.{total}
use Rattle.layout.specs.Arguments.{is_named, shape_at, shapes_from, shapes, is_void, return_place, returned_size, hidden, used_at, value_start, area_of}
use Rattle.layout.specs.Placements.{laying_at, placement_at}
use Rattle.layout.proofs.Arguments.{length-shapes, shapes-split}
use Rattle.layout.specs.Layout.{values_of, layout_of}
use Rattle.tidying.specs.Call.{Call, trees_from, returned_by, call_of}
use Rattle.tidying.specs.Laid.{hidden_in, place_in, size_in, shapes_by, shapes_in, used_in, layout_in, placement_in}

pub length-trees : (d : List ℕ) (i n : ℕ) → length (trees_from d i n) ≡ n
unfolding trees_from
length-trees d i zero = refl
length-trees d i (suc n) = ap suc (length-trees d (i + 1) n)

pub trees_at : (d : List ℕ) (i n j : ℕ) → j < n → get_or (trees_from d i n) j (basic 0) ≡ ty_at d (argument_at d (i + j))
unfolding trees_from
trees_at d i zero j h = absurd (omega arith)
trees_at d i (suc n) zero h = let q : i + 0 ≡ i = omega arith in rw q
trees_at d i (suc n) (suc j) h = let q : i + suc j ≡ i + 1 + j = omega arith in rw q (trees_at d (i + 1) n j (omega arith))

shapes-trees : (d : List ℕ) (i n : ℕ) → shapes_from d i n ≡ shapes_by (model_in d) (named_in d) i (trees_from d i n)
unfolding shapes_from trees_from shape_at is_named shapes_by
shapes-trees d i zero = refl
shapes-trees d i (suc n) = ap (λ (l : List Shape). shape_at d i ∷ l) (shapes-trees d (i + 1) n)

-- the model is told by byte 6
pub model-flags : (d e : List ℕ) → flags_in d ≡ flags_in e → model_in d ≡ model_in e
unfolding model_in
model-flags d e h = ap (λ (b : ℕ). cond (eqb (b / 2 % 2) 1) Ilp32 Lp64) h

module _ (d : List ℕ) where
  pub shapes-call : shapes d ≡ shapes_in (model_in d) (call_of d)
  unfolding shapes_in call_of
  shapes-call = shapes-trees d 0 (arguments_in d)

  pub many-call : length (call_of d).arguments ≡ arguments_in d
  unfolding call_of
  many-call = length-trees d 0 (arguments_in d)

  pub argument-call : (i : ℕ) → i < arguments_in d → get_or (call_of d).arguments i (basic 0) ≡ ty_at d (argument_at d i)
  unfolding call_of
  argument-call i l = let q : 0 + i ≡ i = omega arith in trees_at d 0 (arguments_in d) i l ∙ rw q

  pub hidden-call : hidden d ≡ hidden_in (model_in d) (call_of d).returns
  unfolding call_of hidden returned_by
  hidden-call = by (is_void d) refl
    where
      by : (b : Bool) → is_void d ≡ b → hidden d ≡ hidden_in (model_in d) (returned_by d)
      by true e = rw e
      by false e = rw e

  pub return_call : return_place d ≡ place_in (model_in d) (call_of d).returns
  unfolding call_of return_place returned_by
  return_call = by (is_void d) refl
    where
      by : (b : Bool) → is_void d ≡ b → return_place d ≡ place_in (model_in d) (returned_by d)
      by true e = rw e
      by false e = rw e

  pub size-call : returned_size d ≡ size_in (model_in d) (call_of d).returns
  unfolding call_of returned_size returned_by
  size-call = by (is_void d) refl
    where
      by : (b : Bool) → is_void d ≡ b → returned_size d ≡ size_in (model_in d) (returned_by d)
      by true e = rw e
      by false e = rw e

  pub used-call : (i : ℕ) → i ≤ arguments_in d → used_at d i ≡ used_in (model_in d) (call_of d) i
  unfolding used_at used_in
  used-call i l =
      rw (← shapes-call, ← hidden-call, shapes-split d i (arguments_in d) l, take_at (shapes_from d 0 i) (shapes_from d i (arguments_in d - i)) i (length-shapes d i 0))

  pub start-call : (i : ℕ) → i ≤ arguments_in d → value_start d i ≡ total (take i (shapes_in (model_in d) (call_of d)))
  unfolding value_start
  start-call i l =
      rw (← shapes-call, shapes-split d i (arguments_in d) l, take_at (shapes_from d 0 i) (shapes_from d i (arguments_in d - i)) i (length-shapes d i 0))

  pub area-call : area_of d ≡ area eights (fresh (hidden_in (model_in d) (call_of d).returns)) (shapes_in (model_in d) (call_of d))
  unfolding area_of
  area-call = rw (← shapes-call, ← hidden-call)

  pub flags-call : (call_of d).flags ≡ flags_in d
  unfolding call_of
  flags-call = refl

  pub named-call : (call_of d).named ≡ named_in d
  unfolding call_of
  named-call = refl

  -- all that a layout answers
  pub layout-call : named_in d ≤ arguments_in d → layout_of d ≡ layout_in (model_in d) (call_of d)
  unfolding layout_of layout_in values_of
  layout-call l =
      rw (used-call (arguments_in d) (omega arith), used-call (named_in d) l, area-call, shapes-call, hidden-call, return_call, size-call, ← many-call, named-call)

  -- the record of an argument, its type number apart
  pub placement_call : (i : ℕ) → i < arguments_in d → placement_at d i ≡ placement_in (model_in d) (call_of d) i (argument_at d i)
  unfolding placement_at laying_at placement_in shape_at is_named
  placement_call i l = rw (← used-call i (omega arith), ← start-call i (omega arith), argument-call i l, named-call)

pub model-call : (d e : List ℕ) → call_of d ≡ call_of e → model_in d ≡ model_in e
model-call d e h = model-flags d e (sym (flags-call d) ∙ ap (λ (x : Call). x.flags) h ∙ flags-call e)
