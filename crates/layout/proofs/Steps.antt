-- What the functions answer, from what they call. Assumes nothing.
use mathlib.Core.Path.{◌≡◌, sym, ap, ◌∙◌}
use mathlib.Core.Bool.{Bool, false}
use mathlib.Core.List.{List}
use Prim.Native.Nat.{ℕ, ◌+◌, ◌/◌, ◌^◌, ◌≤◌, ◌<◌}
use native.Mathlib.Omega.{arith}
use borrow.Author.Tests.{eq-eqb, ne_eqb}
use lib.Dec.{ltb}
use lib.ListN.{get_or}
use lib.Seq.{get_or-take}
use Rattle.description.specs.Description.{types_in, named_in, return_in, argument_at, model_in}
use Rattle.types.specs.Decode.{ty_at}
use Rattle.classes.specs.declared.Class.{Class}
use Rattle.classes.specs.declared.Class.TheVariants.{NoClass}
use Rattle.classify.specs.Classify.{classes_of}
use Rattle.uses.specs.Uses.{uses_refusal}
use Rattle.uses.proofs.Uses.{accepted-types, accepted-return, right-below}
use Rattle.places.specs.declared.Used.{Used}
use Rattle.places.specs.declared.Place.{Place}
use Rattle.places.specs.declared.ReturnPlace.{ReturnPlace}
use Rattle.places.specs.declared.ReturnPlace.TheVariants.{Void}
use Rattle.places.specs.Shapes.{Shape, shape_of, shape_in, Asking}
use Rattle.places.specs.Places.{eights, place, next}
use Rattle.places.specs.Recorded.{place_of, recorded, Room, Small}
use Rattle.places.specs.Asked.{Between}
use Rattle.places.specs.Returns.{return_of, classes_by, hidden_by, hidden_for}
use Rattle.places.proofs.Records.{place_is, shape_known}
use Rattle.places.proofs.Asking.{asking-known}
use Rattle.types.specs.Table.{IsEntry}
use Rattle.types.proofs.Table.{known-extent}
use Rattle.types.proofs.Large.{accepted-sized}
use Rattle.types.specs.declared.Extent.{Extent}
use Rattle.classify.specs.Table.{pair_in, wide_in, unpacked_of, Tabled}
use Rattle.classify.proofs.Table.{pair-taken}
use Rattle.layout.specs.Arguments.{is_named, shape_at, is_void, return_classes, return_place, returned_size, hidden}
use Rattle.layout.specs.Asks.{AskArgument, AskRecord}
use Rattle.layout.specs.Placements.{step_of, step_at}
use Rattle.units.specs.declared.Bytes.{Bytes}
use Rattle.layout.specs.declared.placements.Laying.{Laying}
use Rattle.layout.proofs.Bounds.{arguments-few, types-few, argument-known, argument-small, argument-some, argument-shaped, before-room}

-- what is returned
module _ (d : List ℕ) where
  pub return_void : return_in d ≡ 255 → (Void ≡ return_place d) × (false ≡ hidden d)
  unfolding return_place hidden is_void
  return_void e = (rw (eq-eqb (return_in d) 255 e), rw (eq-eqb (return_in d) 255 e))

  pub return_known : uses_refusal d ≡ 0 → (return_in d ≡ 255 → ⊥) → return_in d < types_in d
  return_known right n = right-below d (return_in d) (accepted-return d right (ne_eqb (return_in d) 255 n))

  -- the classes that the table has for the returned type
  pub return_classes_lem : (table : List ℕ) → Tabled d table → uses_refusal d ≡ 0 → (k : ℕ) → k ≡ return_in d → (return_in d ≡ 255 → ⊥)
      → unpacked_of (get_or table k 0 / 524288) ≡ return_classes d
  return_classes_lem table t right k e n = t.classes k (omega (arith, e, return_known right n)) ∙ ap (λ (j : ℕ). classes_of (model_in d) (ty_at d j)) e

  -- the size that the table has for it
  pub size-void : return_in d ≡ 255 → 0 ≡ returned_size d
  unfolding returned_size is_void
  size-void e = rw (eq-eqb (return_in d) 255 e)

  pub size-known : (table : List ℕ) → Tabled d table → uses_refusal d ≡ 0 → (k : ℕ) → k ≡ return_in d → (return_in d ≡ 255 → ⊥) → (r : Extent) → IsEntry (get_or table k 0) r → r.size.0 ≡ returned_size d
  unfolding returned_size is_void
  size-known table t right k e n r h =
      rw (ne_eqb (return_in d) 255 n)
      (known-extent d table t.sizes (return_in d) (accepted-sized d (accepted-types d right) (return_in d) (return_known right n)) r (rw (sym e) h)).size

  -- by the word of its entry
  module _ (n : return_in d ≡ 255 → ⊥) (x : ℕ) (is : unpacked_of x ≡ return_classes d) (cs : List Class) (pair : cs ≡ pair_in x) where
    held_by : (w : Bool) → w ≡ wide_in x → classes_by w (get_or cs 0 NoClass) (get_or cs 1 NoClass) ≡ unpacked_of x
    unfolding pair_in unpacked_of
    held_by w e = rw (pair, e)

    pub return_some : (w : Bool) → w ≡ wide_in x → (p : ReturnPlace) → p ≡ return_of (classes_by w (get_or cs 0 NoClass) (get_or cs 1 NoClass)) → p ≡ return_place d
    unfolding return_place is_void
    return_some w e p h = rw (ne_eqb (return_in d) 255 n) (h ∙ ap return_of (held_by w e ∙ is))

    first : get_or cs 0 NoClass ≡ get_or (unpacked_of x) 0 NoClass
    first = ap (λ (l : List Class). get_or l 0 NoClass) (pair ∙ sym (pair-taken x)) ∙ get_or-take 2 (unpacked_of x) 0 NoClass (omega arith)

    pub hidden-some : (b : Bool) → b ≡ hidden_by (get_or cs 0 NoClass) → b ≡ hidden d
    unfolding hidden is_void
    hidden-some b e = rw (ne_eqb (return_in d) 255 n) (e ∙ ap hidden_by first ∙ ap hidden_for is)

-- ---- one argument

pub named_by : (d : List ℕ) (i n : ℕ) → n ≡ named_in d → is_named d i ≡ ltb i n
unfolding is_named
named_by d i n e = rw e

-- by the entry of the argument's type
module _ (d t : List ℕ) (w : Tabled d t) (u : Used) (i : ℕ) (a : AskArgument d i u) (k : ℕ) (e : k ≡ argument_at d i) (named : Bool) (n : is_named d i ≡ named) where
  known : k < types_in d
  known = omega (arith, argument-known d a.right i a.there)

  entry-shape : shape_in named (get_or t k 0) ≡ shape_at d i
  unfolding shape_at
  entry-shape = rw n (shape_known d t w named k known ∙ ap (λ (j : ℕ). shape_of (model_in d) named (ty_at d j)) e)

  pub turn_low : k < 64
  turn_low = omega (arith, known, types-few d a.right)

  pub place-asks : (k < 64) × Room u × Small (shape_in named (get_or t k 0))
  place-asks = (turn_low, before-room i u (omega (arith, arguments-few d a.right, a.there)) a.before, rw entry-shape (argument-small d a.right i a.there))

  pub turn_asks : Room u × Small (shape_in named (get_or t k 0)) × Asking (get_or t k 0)
  turn_asks = (place-asks.1, place-asks.2, asking-known d t w k known)

-- the record, by the same entry
module _ (d t : List ℕ) (w : Tabled d t) (l : Laying) (i : ℕ) (a : AskRecord d i l) (k : ℕ) (e : k ≡ argument_at d i) (named : Bool) (n : is_named d i ≡ named) where
  shape_is : shape_in named (get_or t k 0) ≡ shape_at d i
  shape_is = entry-shape d t w l.used i a.argument k e named n

  -- what `place_between` asks, where u is used after the argument
  pub between_asks : (u : Used) → u ≡ next eights l.used (shape_in named (get_or t k 0))
      → (l.used.stack.0 ≤ 2 ^ 20) × Between named (get_or t k 0) l.used u
  unfolding shape_in
  between_asks u f =
      let asks = place-asks d t w l.used i a.argument k e named n in (
        asks.1.stack,
        record {
          shaped = rw shape_is (argument-shaped d a.argument.right i a.argument.there);
          some = omega (arith, ap (λ (s : Shape). s.size) shape_is, argument-some d a.argument.right i a.argument.there);
          after = f;
        },
      )

  -- by what its entry says
  module _ (x : Extent) (h : IsEntry (get_or t k 0) x) where
    size_is : x.size.0 ≡ (shape_at d i).size
    unfolding shape_in
    size_is = h.size ∙ ap (λ (s : Shape). s.size) shape_is

    align_is : x.align.0 ≡ (shape_at d i).align
    unfolding shape_in
    align_is = h.align ∙ ap (λ (s : Shape). s.align) shape_is

    -- no sum overflows
    pub values-room : l.values.0 + x.size.0 ≤ 2 ^ 63
    values-room =
        omega (
          arith,
          size_is,
          (argument-small d a.argument.right i a.argument.there).size,
          a.sum,
          arguments-few d a.argument.right,
          a.argument.there,
        )

    -- what is laid out after it, without the record
    pub pass_is : (u : Used) → u ≡ next eights l.used (shape_in named (get_or t k 0)) → (v : Bytes) → v.0 ≡ l.values.0 + x.size.0
        → ◌≡◌ {A = Laying} (record { used = u; values = v }) (step_at d l i).after
    unfolding step_at
    pass_is u f v g =
        let used = f ∙ ap (λ (s : Shape). next eights l.used s) shape_is in
        let values : v.0 ≡ l.values.0 + (shape_at d i).size = g ∙ ap (λ (m : ℕ). l.values.0 + m) size_is in
        λ j. record { used = used j; values = record { 0 = values j } }

    pub step_is : (u : Used) → u ≡ next eights l.used (shape_in named (get_or t k 0))
        → (p : Place) → place_of p ≡ place eights l.used (shape_in named (get_or t k 0))
        → step_of l k x p named u ≡ step_at d l i
    unfolding step_at
    step_is u f p g =
        let placed = place_is p (place eights l.used (shape_in named (get_or t k 0))) g ∙ ap (λ (s : Shape). recorded (place eights l.used s)) shape_is in
        let used = f ∙ ap (λ (s : Shape). next eights l.used s) shape_is in
        let values : l.values.0 + x.size.0 ≡ l.values.0 + (shape_at d i).size = ap (λ (m : ℕ). l.values.0 + m) size_is in
        λ j. record {
          placement = record { ty = e j; size = record { 0 = size_is j }; align = record { 0 = align_is j }; place = placed j; at = l.values; named = sym n j };
          after = record { used = used j; values = record { 0 = values j } };
        }
