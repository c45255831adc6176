-- Adding an argument moves nothing (request 2026-13): a shared argument is placed by what stands before it alone. Assumes nothing.
use mathlib.Core.Path.{◌≡◌, refl, sym, ap, ap₂, ◌∙◌}
use mathlib.Core.Bool.{Bool, true, false, not, ◌&&◌, true≢false}
use mathlib.Core.List.{List, ◌∷◌, ◌++◌}
use Prim.Native.Nat.{ℕ, zero, suc, ◌+◌, ◌-◌, ◌≤◌, ◌<◌}
use native.Mathlib.Omega.{arith}
use borrow.Author.Tests.{eq-eqb}
use lib.Dec.{eqb}
use Rattle.description.specs.Description.{arguments_in, return_in, argument_at, model_in}
use Rattle.types.specs.Decode.{ty_at}
use Rattle.types.proofs.Large.{accepted-form}
use Rattle.types.proofs.SameTables.{same-type}
use Rattle.classify.specs.Classify.{classes_of}
use Rattle.uses.proofs.Uses.{accepted-types}
use Rattle.places.specs.Shapes.{Shape}
use Rattle.places.specs.Places.{eights, after}
use Rattle.places.specs.Images.{stack_at, addresses, total}
use Rattle.places.specs.Returns.{hidden_for}
use Rattle.places.proofs.Apart.{Grows}
use Rattle.places.proofs.Growing.{all-grow, area-more}
use Rattle.places.proofs.Prefix.{addresses-append}
use Rattle.layout.specs.Arguments.{is_named, shape_at, shapes_from, shapes, is_void, hidden, used_first, used_at, value_start, area_of}
use Rattle.layout.specs.Layout.{layout_of}
use Rattle.layout.specs.Placements.{laying_at, placement_at}
use Rattle.layout.specs.Extending.{Extends, Continues, Unmoved}
use Rattle.layout.proofs.Arguments.{shapes-split, used-split}
use Rattle.layout.proofs.Bounds.{argument-known}
use Rattle.layout.proofs.Steps.{return_known}
use Rattle.layout.proofs.Verdict.{accepted-uses}

-- the arguments that are added
abbrev pub added : List ℕ → List ℕ → List Shape
added d e = shapes_from e (arguments_in d) (arguments_in e - arguments_in d)

module _ (d e : List ℕ) (x : Extends d e) where
  shape_same : (i : ℕ) → i < arguments_in d → shape_at e i ≡ shape_at d i
  unfolding shape_at is_named
  shape_same i l = rw (x.pair.model, x.pair.named i l, x.shared i l)

  shapes-same : (i n : ℕ) → i + n ≤ arguments_in d → shapes_from e i n ≡ shapes_from d i n
  unfolding shapes_from
  shapes-same i zero h = refl
  shapes-same i (suc n) h = ap₂ ◌∷◌ (shape_same i (omega arith)) (shapes-same (i + 1) n (omega arith))

  -- the hidden address goes by the returned type
  pub hidden-same : hidden e ≡ hidden d
  unfolding hidden
  hidden-same = by (is_void d) refl
    where
      by : (b : Bool) → is_void d ≡ b → (not (is_void e) && hidden_for (classes_of (model_in e) (ty_at e (return_in e)))) ≡ (not (is_void d) && hidden_for (classes_of (model_in d) (ty_at d (return_in d))))
      by true q = rw (x.void, q)
      by false q = rw (x.void, q, x.pair.model, x.returns q)

  used-same : (i : ℕ) → i ≤ arguments_in d → used_at e i ≡ used_at d i
  unfolding used_at
  used-same i l = rw (hidden-same, shapes-same 0 i (omega arith))

  start-same : (i : ℕ) → i ≤ arguments_in d → value_start e i ≡ value_start d i
  unfolding value_start
  start-same i l = ap total (shapes-same 0 i (omega arith))

  shapes-more : shapes e ≡ shapes d ++ added d e
  shapes-more = shapes-split e (arguments_in d) (arguments_in e) x.pair.long ∙ ap (λ (ss : List Shape). ss ++ added d e) (shapes-same 0 (arguments_in d) (omega arith))

  grows : Grows (used_at d (arguments_in d)) (used_at e (arguments_in e))
  grows =
      rw (used-split e (arguments_in d) (arguments_in e) x.pair.long, used-same (arguments_in d) (omega arith))
      (all-grow eights (added d e) (used_at d (arguments_in d)))

  area-grows : area_of d ≤ area_of e
  unfolding area_of
  area-grows = rw (shapes-more, hidden-same) (area-more eights (shapes d) (added d e) (used_first d))

  -- the addresses of the value bytes: those of d, and then more
  pub addresses-more : addresses stack_at eights (used_first e) (shapes e) ≡ addresses stack_at eights (used_first d) (shapes d) ++ addresses stack_at eights (after eights (used_first d) (shapes d)) (added d e)
  addresses-more = rw (shapes-more, hidden-same) (addresses-append stack_at eights (shapes d) (added d e) (used_first d))

  pub unmoved : Unmoved d e
  unfolding placement_at laying_at layout_of is_named
  unmoved = record {
    places = λ i l. rw (shape_same i l, used-same i (omega arith));
    sizes = λ i l. rw (shape_same i l);
    aligns = λ i l. rw (shape_same i l);
    values = λ i l. ap (λ (v : ℕ). record { 0 = v }) (start-same i (omega arith));
    marks = λ i l. x.pair.named i l;
    address = hidden-same;
    general = grows.general;
    vector = grows.vector;
    stack = grows.stack;
    area = area-grows;
  }

-- one type table: the numbers that the shared arguments and the returned type have name the same types
module _ (d e : List ℕ) (x : Continues d e) where
  argument-same : (i : ℕ) → i < arguments_in d → ty_at e (argument_at e i) ≡ ty_at d (argument_at d i)
  argument-same i l =
      let right = accepted-uses d x.pair.one in
      ap (ty_at e) (x.shared i l) ∙ same-type d e x.table (accepted-form d (accepted-types d right)) (argument_at d i) (argument-known d right i l)

  return_same : is_void d ≡ false → ty_at e (return_in e) ≡ ty_at d (return_in d)
  unfolding is_void
  return_same v =
      let right = accepted-uses d x.pair.one in
      ap (ty_at e) x.returns
      ∙ same-type d e x.table (accepted-form d (accepted-types d right)) (return_in d) (return_known d right (λ z. true≢false (sym (eq-eqb (return_in d) 255 z) ∙ v)))

  pub continues_extends : Extends d e
  unfolding is_void
  continues_extends = record {
    pair = x.pair;
    void = ap (λ (k : ℕ). eqb k 255) x.returns;
    returns = return_same;
    shared = argument-same;
  }
