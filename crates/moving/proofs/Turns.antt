-- Where a loop over the arguments stands: what is laid out, and which argument is next. Assumes nothing.
use mathlib.Core.Path.{◌≡◌, refl, sym, ap, ap₂, ◌∙◌}
use mathlib.Core.List.{List}
use Prim.Native.Nat.{ℕ, zero, suc, ◌+◌, ◌*◌, ◌-◌, ◌^◌, ◌≤◌, ◌<◌}
use native.Mathlib.Numerals.{add-one}
use native.Mathlib.Omega.{arith}
use Rattle.description.specs.Description.{types_in, arguments_in, argument_at, Whole, model_in}
use Rattle.types.specs.Size.{size_ty}
use Rattle.types.specs.Decode.{ty_at}
use Rattle.types.specs.Asks.{Sized}
use Rattle.types.proofs.Large.{accepted-sized}
use Rattle.types.proofs.Laws.{size_low, type-filled}
use Rattle.uses.specs.Uses.{uses_refusal}
use Rattle.uses.proofs.Uses.{accepted-types, accepted-typed}
use Rattle.places.specs.declared.Used.{Used}
use Rattle.places.specs.Shapes.{shape_of}
use Rattle.places.specs.Places.{eights, place, next, after}
use Rattle.places.specs.Images.{total}
use Rattle.places.specs.Recorded.{place_of, recorded}
use Rattle.places.proofs.Prefix.{total-append}
use Rattle.places.proofs.Apart.{after-grows}
use Rattle.places.proofs.Offsets.{area-rounded}
use Rattle.layout.specs.Arguments.{shape_at, shapes_from, shapes, hidden, used_first, used_at, value_start, area_of}
use Rattle.layout.specs.Asks.{AskRecord}
use Rattle.layout.specs.Layout.{values_of}
use Rattle.layout.specs.Placements.{Step, laying_fresh, laying_at, step_at}
use Rattle.layout.specs.Verdict.{verdict}
use Rattle.layout.specs.declared.placements.Laying.{Laying}
use Rattle.layout.specs.declared.placements.Placement.{Placement}
use Rattle.layout.proofs.Arguments.{shapes-split, used-next, used-split, start_none, start-next}
use Rattle.layout.proofs.Verdict.{accepted-uses}
use Rattle.layout.proofs.Bounds.{arguments-few, argument-known, argument-small, argument-shaped}
use Rattle.layout.proofs.Layouts.{record_asks, laying_none, laying_next}
use Rattle.images.specs.Asks.{AskMove}
use Rattle.images.proofs.Inside.{place_inside}
use Rattle.moving.specs.Asks.{Lent}

module _ (d : List ℕ) where
  -- ---- where the values end

  pub start-end : value_start d (arguments_in d) ≡ values_of d
  unfolding value_start values_of
  start-end = refl

  start-rest : (i : ℕ) → i ≤ arguments_in d → value_start d i ≤ values_of d
  unfolding value_start values_of
  start-rest i h =
      omega (arith, ap total (shapes-split d i (arguments_in d) h) ∙ total-append (shapes_from d 0 i) (shapes_from d i (arguments_in d - i)))

  -- ---- an accepted description

  module _ (accepted : verdict d ≡ 0) where
    pub right : uses_refusal d ≡ 0
    right = accepted-uses d accepted

    pub whole : Whole d
    whole = (accepted-typed d right).whole

    pub known : (i : ℕ) → i < arguments_in d → argument_at d i < types_in d
    known i h = argument-known d right i h

    pub sized : (k : ℕ) → k < types_in d → Sized (model_in d) d k
    sized k h = accepted-sized d (accepted-types d right) k h

    start_small : (i : ℕ) → i ≤ arguments_in d → value_start d i ≤ 4096 * i
    start_small zero h = omega (arith, start_none d)
    start_small (suc i) h =
        rw (← add-one i) (omega (arith, start-next d i, start_small i (omega arith), (argument-small d right i (omega arith)).size))

    pub values-small : values_of d ≤ 2 ^ 18
    values-small = omega (arith, start_small (arguments_in d) (omega arith), start-end, arguments-few d right)

    pub value-inside : (i : ℕ) → i < arguments_in d → value_start d i + (shape_at d i).size ≤ values_of d
    value-inside i h = omega (arith, start-next d i, start-rest (i + 1) (omega arith))

    -- no argument is empty
    pub value-some : (i : ℕ) → i < arguments_in d → 1 ≤ (shape_at d i).size
    unfolding shape_at shape_of
    value-some i h =
        let k = argument_at d i in
        size_low (model_in d) (ty_at d k) (type-filled d k (sized k (known i h)))

    pub size_is : (i : ℕ) → size_ty (model_in d) (ty_at d (argument_at d i)) ≡ (shape_at d i).size
    unfolding shape_at shape_of
    size_is i = refl

    next-area : (i : ℕ) → i < arguments_in d → (next eights (used_at d i) (shape_at d i)).stack.0 ≤ area_of d
    unfolding area_of
    next-area i h =
        let all : used_at d (arguments_in d) ≡ after eights (used_first d) (shapes d) = unfold used_at in refl in
        omega (
          arith,
          ap (λ (u : Used). u.stack.0) (used-next d i),
          ap (λ (u : Used). u.stack.0) (used-split d (i + 1) (arguments_in d) (omega arith)),
          after-grows eights (shapes_from d (i + 1) (arguments_in d - (i + 1))) (used_at d (i + 1)),
          ap (λ (u : Used). u.stack.0) all,
          (area-rounded eights (used_first d) (shapes d)).behind,
        )

  -- ---- the loop

  pub record Turn (l : Laying) (i : ℕ) : Type 0 where
    pub bound : i ≤ arguments_in d
    pub laid : l ≡ laying_at d i

  pub turn_first : (l : Laying) → l ≡ laying_fresh (hidden d) → Turn l 0
  turn_first l e = record { bound = omega arith; laid = e ∙ sym (laying_none d) }

  pub turn_used : (l : Laying) (i : ℕ) → Turn l i → l.used ≡ used_at d i
  unfolding laying_at
  turn_used l i t = ap (λ (x : Laying). x.used) t.laid

  pub turn_start : (l : Laying) (i : ℕ) → Turn l i → l.values.0 ≡ value_start d i
  unfolding laying_at
  turn_start l i t = ap (λ (x : Laying). x.values.0) t.laid

  pub step_pair : (l : Laying) (i : ℕ) (p : Placement) (x : Laying) → p ≡ (step_at d l i).placement → x ≡ (step_at d l i).after → ◌≡◌ {A = Step} (record { placement = p; after = x }) (step_at d l i)
  step_pair l i p x e f = ap₂ (λ (q : Placement) (y : Laying). record { placement = q; after = y }) e f

  module _ (l : Laying) (i : ℕ) (h : i < arguments_in d) (t : Turn l i) where
    pub turn_asks : verdict d ≡ 0 → AskRecord d i l
    turn_asks a = rw t.laid (record_asks d (right a) i h)

    module _ (z : Step) (e : z ≡ step_at d l i) where
      pub step-size : z.placement.size.0 ≡ (shape_at d i).size
      unfolding step_at
      step-size = ap (λ (y : Step). y.placement.size.0) e

      pub step-at : z.placement.at.0 ≡ l.values.0
      unfolding step_at
      step-at = ap (λ (y : Step). y.placement.at.0) e

      pub step-used : z.after.used ≡ next eights l.used (shape_at d i)
      unfolding step_at
      step-used = ap (λ (y : Step). y.after.used) e

      pub step-values : z.after.values.0 ≡ l.values.0 + (shape_at d i).size
      unfolding step_at
      step-values = ap (λ (y : Step). y.after.values.0) e

      step-record : z.placement.place ≡ recorded (place eights l.used (shape_at d i))
      unfolding step_at
      step-record = ap (λ (y : Step). y.placement.place) e

      step-inside : verdict d ≡ 0
          → (place_of (recorded (place eights l.used (shape_at d i))) ≡ place eights l.used (shape_at d i)) × AskMove z.placement.place z.placement.size.0 z.placement.at.0 176 128 (area_of d) (values_of d)
      step-inside a =
          let both = place_inside l.used (shape_at d i) (area_of d) (argument-shaped d (right a) i h) (rw (turn_used l i t) (next-area a i h)) in (
            both.0,
            rw (step-record, step-size)
                (record {
                  whole = refl;
                  above = refl;
                  inside = both.1;
                  there = omega (arith, step-at, turn_start l i t, value-inside a i h);
                  few = omega (arith, values-small a);
                }),
          )

      pub step-place : verdict d ≡ 0 → place_of z.placement.place ≡ place eights l.used (shape_at d i)
      step-place a = ap place_of step-record ∙ (step-inside a).0

      -- what moving this argument asks
      pub turn_move : (v r y s : ℕ) → Lent d v r y s → AskMove z.placement.place z.placement.size.0 z.placement.at.0 r y s v
      turn_move v r y s n = rw (n.registers, n.upper, n.stack, n.values) (step-inside n.accepted).1

      pub turn_next : Turn z.after (i + 1)
      turn_next = record { bound = omega arith; laid = ap (λ (y : Step). y.after) e ∙ ap (λ (x : Laying). (step_at d x i).after) t.laid ∙ laying_next d i }
