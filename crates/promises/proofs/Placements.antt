-- What the records of an accepted description say of places, one by one and all together. Assumes nothing.
use mathlib.Core.Path.{◌≡◌, refl, sym, ap, ap₂, ◌∙◌, subst}
use mathlib.Core.Logic.{◌↔◌}
use mathlib.Core.Bool.{Bool, true, false, cond, not, ◌&&◌, true≢false}
use mathlib.Core.List.{List, ◌∷◌, map}
use Prim.Native.Nat.{ℕ, zero, suc, ◌+◌, ◌-◌, ◌%◌, ◌≤◌, ◌<◌}
use native.Mathlib.Omega.{arith}
use lib.ListN.{length, get_or}
use Rattle.addresses.specs.Addresses.{run}
use Rattle.addresses.proofs.Runs.{length_run}
use Rattle.description.specs.Description.{named_in, arguments_in}
use Rattle.uses.specs.Uses.{uses_refusal}
use Rattle.classes.specs.declared.Class.TheVariants.{NoClass, Memory}
use Rattle.classes.specs.Classes.{same}
use Rattle.places.specs.declared.Register.{Register}
use Rattle.places.specs.declared.Used.{Used}
use Rattle.places.specs.declared.ReturnPlace.{ReturnPlace}
use Rattle.places.specs.declared.ReturnPlace.TheVariants.{Void, Memory as InMemory, One, Two, St0, St0St1}
use Rattle.places.specs.Places.{eights, Place, in_registers, on_stack, start, place, places, after}
use Rattle.places.specs.Returns.{return_of, hidden_for, hidden_by}
use Rattle.places.specs.Statements.{LowestOffset, RoundedUp, Lacks, Fit, general_number, vector_number, numbers_in, kind_in}
use Rattle.places.proofs.Fits.{stack-exactly, stack-step, register-step}
use Rattle.places.proofs.Numbers.{kinds_kept, generals-in_order, vectors_in-order, counts}
use Rattle.places.proofs.Offsets.{stack-lowest, stack-rounded, after-slotted}
use Rattle.places.proofs.Records.{place-written}
use Rattle.places.proofs.Returning.{hidden_exactly}
use Rattle.layout.specs.Arguments.{shape_at, shapes_from, shapes, is_void, return_classes, return_place, hidden, used_first, used_at}
use Rattle.layout.specs.Verdict.{verdict}
use Rattle.layout.specs.Placements.{laying_at, placement_at}
use Rattle.layout.proofs.Arguments.{used-none, used-next}
use Rattle.layout.proofs.Bounds.{argument-shaped}
use Rattle.layout.proofs.Verdict.{accepted-uses}
use Rattle.walk.specs.Offsets.{walk_at, source_in, read_at, step}
use Rattle.walk.proofs.Agreement.{read-agrees, step-agrees}
use Rattle.walk.proofs.Unnamed.{argument-narrow}
use Rattle.promises.specs.Demand2.{place_at, places_from, all_places}

module _ (d : List ℕ) (accepted : verdict d ≡ 0) where
  right : uses_refusal d ≡ 0
  right = accepted-uses d accepted

  -- the record says the place that the layout gives
  pub place-said : (i : ℕ) → i < arguments_in d → place_at d i ≡ place eights (used_at d i) (shape_at d i)
  unfolding placement_at laying_at
  place-said i l = place-written (used_at d i) (shape_at d i) (argument-shaped d right i l)

  places-said : (n i : ℕ) → i + n ≤ arguments_in d → places_from d i n ≡ places eights (used_at d i) (shapes_from d i n)
  unfolding places_from shapes_from
  places-said zero i h = refl
  places-said (suc n) i h =
      ap₂ (λ (p : Place) (ps : List Place). p ∷ ps) (place-said i (omega arith))
      (places-said n (i + 1) (omega arith) ∙ ap (λ (u : Used). places eights u (shapes_from d (i + 1) n)) (used-next d i))

  all_said : all_places d ≡ places eights (used_first d) (shapes d)
  all_said = places-said (arguments_in d) 0 (omega arith) ∙ ap (λ (u : Used). places eights u (shapes d)) (used-none d)

  -- ---- registers

  pub general-count : (used_at d (arguments_in d)).general.0 ≡ cond (hidden d) 1 0 + length (numbers_in general_number (all_places d))
  unfolding used_at
  general-count = sym (counts eights (shapes d) (used_first d)).0 ∙ ap (λ (ps : List Place). cond (hidden d) 1 0 + length (numbers_in general_number ps)) (sym all_said)

  pub vector-count : (used_at d (arguments_in d)).vector.0 ≡ length (numbers_in vector_number (all_places d))
  unfolding used_at
  vector-count =
      sym (counts eights (shapes d) (used_first d)).1 ∙ ap (λ (ps : List Place). 0 + length (numbers_in vector_number ps)) (sym all_said) ∙ omega arith

  -- numbers in a row are as many as they are
  in_row : (p n : ℕ) (ns : List ℕ) → ns ≡ run p n → ns ≡ run p (length ns)
  in_row p n ns e = e ∙ ap (run p) (sym (ap length e ∙ length_run p n))

  pub generals-in_row : numbers_in general_number (all_places d) ≡ run (cond (hidden d) 1 0) (length (numbers_in general_number (all_places d)))
  generals-in_row =
      in_row (cond (hidden d) 1 0) ((after eights (used_first d) (shapes d)).general.0 - (used_first d).general.0) (numbers_in general_number (all_places d))
      (ap (numbers_in general_number) all_said ∙ generals-in_order eights (shapes d) (used_first d))

  pub vectors_in-row : numbers_in vector_number (all_places d) ≡ run 0 (length (numbers_in vector_number (all_places d)))
  vectors_in-row =
      in_row 0 ((after eights (used_first d) (shapes d)).vector.0 - (used_first d).vector.0) (numbers_in vector_number (all_places d))
      (ap (numbers_in vector_number) all_said ∙ vectors_in-order eights (shapes d) (used_first d))

  -- ---- one argument

  module _ (i : ℕ) (there : i < arguments_in d) where
    pub in_registers_lem : (rs : List Register) → place_at d i ≡ in_registers rs → (map kind_in rs ≡ (shape_at d i).kinds) × Fit (used_at d i) (shape_at d i).kinds
    in_registers_lem rs e =
        let s = register-step eights (used_at d i) (shape_at d i) rs (sym (place-said i there) ∙ e) in
        (ap (map kind_in) s.registers ∙ kinds_kept (shape_at d i).kinds (used_at d i).general.0 (used_at d i).vector.0, s.fit)

    pub lacks-exactly : ((o : ℕ) × (place_at d i ≡ on_stack o)) ↔ Lacks (used_at d i) (shape_at d i).kinds
    lacks-exactly = (
      λ p. (stack-step eights (used_at d i) (shape_at d i) p.0 (sym (place-said i there) ∙ p.1)).lacks,
      λ l. (start eights (used_at d i) (shape_at d i), place-said i there ∙ (stack-exactly eights (used_at d i) (shape_at d i)).1 l),
    )

    module _ (o : ℕ) (e : place_at d i ≡ on_stack o) where
      said : place eights (used_at d i) (shape_at d i) ≡ on_stack o
      said = sym (place-said i there) ∙ e

      pub takes_none : ((used_at d (i + 1)).general ≡ (used_at d i).general) × ((used_at d (i + 1)).vector ≡ (used_at d i).vector)
      takes_none =
          let n = used-next d i ∙ (stack-step eights (used_at d i) (shape_at d i) o said).next_is in
          (ap (λ (u : Used). u.general) n, ap (λ (u : Used). u.vector) n)

      pub lowest : LowestOffset eights (used_at d i).stack.0 (placement_at d i).align.0 o
      unfolding placement_at laying_at
      lowest = stack-lowest eights (used_at d i) (shape_at d i) o (argument-shaped d right i there) said

      pub room : RoundedUp 8 (o + (placement_at d i).size.0) (used_at d (i + 1)).stack.0
      unfolding placement_at laying_at
      room = subst (λ (u : Used). RoundedUp 8 (o + (shape_at d i).size) u.stack.0) (sym (used-next d i)) (stack-rounded eights (used_at d i) (shape_at d i) o said)

    -- ---- the walk beside it

    slotted : (used_at d i).stack.0 % 8 ≡ 0
    unfolding used_at
    slotted = after-slotted eights (shapes_from d 0 i) (used_first d) refl

    pub fetches : named_in d ≤ i → read_at eights (walk_at (used_at d i)) (shape_at d i) ≡ source_in (place_at d i)
    fetches n = read-agrees eights (used_at d i) (shape_at d i) (argument-shaped d right i there) (argument-narrow d i n) slotted ∙ ap source_in (sym (place-said i there))

    pub moves : step eights (walk_at (used_at d i)) (shape_at d i) ≡ walk_at (used_at d (i + 1))
    moves = step-agrees eights (used_at d i) (shape_at d i) (argument-shaped d right i there) slotted ∙ ap walk_at (sym (used-next d i))

-- ---- the hidden address

module _ (d : List ℕ) where
  pub hidden-is : (hidden d ≡ true) ↔ ((is_void d ≡ false) × (same (get_or (return_classes d) 0 NoClass) Memory ≡ true))
  unfolding hidden hidden_by
  hidden-is = by (is_void d) (same (get_or (return_classes d) 0 NoClass) Memory)
    where
      by : (b c : Bool) → ((not b && c) ≡ true) ↔ ((b ≡ false) × (c ≡ true))
      by true c = (λ e. absurd (true≢false (sym e)), λ p. absurd (true≢false p.0))
      by false c = (λ e. (refl, e), λ p. p.1)

  void-not : Void ≡ InMemory → ⊥
  void-not e = true≢false (sym (ap memory e))
    where
      memory : ReturnPlace → Bool
      memory Void = false
      memory InMemory = true
      memory (One a) = false
      memory (Two a b) = false
      memory St0 = false
      memory St0St1 = false

  pub hidden-memory : (hidden d ≡ true) ↔ (return_place d ≡ InMemory)
  unfolding hidden return_place
  hidden-memory = by (is_void d)
    where
      by : (b : Bool) → ((not b && hidden_for (return_classes d)) ≡ true) ↔ (cond b Void (return_of (return_classes d)) ≡ InMemory)
      by true = (λ e. absurd (true≢false (sym e)), λ e. absurd (void-not e))
      by false = hidden_exactly (return_classes d)
