-- Whether a call needs the stack, against its full layout (request 2026-10): `StackNeeded`, and that 10 is never given. Assumes nothing.
use mathlib.Core.Path.{◌≡◌, refl, sym, ap, ◌∙◌}
use mathlib.Core.Bool.{Bool, true, false, not, cond}
use mathlib.Core.Logic.{◌≢◌}
use mathlib.Core.List.{List, [], ◌∷◌}
use Prim.Native.Nat.{ℕ, zero, suc, ◌+◌, ◌-◌, ◌≤◌, ◌<◌}
use native.Mathlib.Nat.{zero-mod}
use native.Mathlib.Numerals.{add-one}
use native.Mathlib.Omega.{arith}
use borrow.Author.Tests.{ltb-true, ltb-false, eq-eqb, ne_eqb, not-true, not-false}
use lib.Dec.{ltb, eqb}
use Rattle.description.specs.Description.{arguments_in}
use Rattle.form.specs.Order.{rule, Without}
use Rattle.form.proofs.Order.{never, none-till}
use Rattle.form.proofs.Search.{first_holds, first-least}
use Rattle.uses.specs.Uses.{uses_order, uses_refusal}
use Rattle.places.specs.declared.Used.{Used}
use Rattle.places.specs.Places.{eights, in_registers, on_stack, fits, start, registers_for, place}
use Rattle.places.specs.Recorded.{place_of}
use Rattle.places.proofs.Fits.{place-fits, place-not}
use Rattle.places.proofs.Offsets.{area-rounded}
use Rattle.places.proofs.Apart.{after-grows}
use Rattle.places.proofs.Records.{place-written}
use Rattle.layout.specs.Arguments.{shape_at, shapes_from, shapes, used_first, used_at, area_of}
use Rattle.layout.specs.Verdict.{wide_area, verdict}
use Rattle.layout.specs.Placements.{laying_at, placement_at}
use Rattle.layout.specs.StackNeeds.{stacked, first_stacked, stack_need, OnStack, FirstOnStack, StackNeeded}
use Rattle.layout.proofs.Arguments.{used-none, used-split}
use Rattle.layout.proofs.Bounds.{argument-shaped}
use Rattle.layout.proofs.Verdict.{no_ten}
use Rattle.layout.proofs.Stacked.{stack-stays, stack-grows}

-- ---- the refusals

uses-without : (d : List ℕ) → Without 10 (uses_order d)
uses-without d = (λ e. omega arith, (λ e. omega arith, (λ e. omega arith, (λ e. omega arith, (λ e. omega arith, (λ e. omega arith, (λ e. omega arith, (λ e. omega arith, (λ e. omega arith, tt)))))))))

-- "10 is not given here"
pub never_ten : (d : List ℕ) → uses_refusal d ≢ 10
unfolding uses_refusal
never_ten d = never (uses_order d) 10 (λ e. omega arith) (uses-without d)

-- where 10 refuses, nothing else does
pub only_ten : (d : List ℕ) → verdict d ≡ 10 → uses_refusal d ≡ 0
unfolding verdict uses_refusal
only_ten d e = none-till (uses_order d) (rule 10 (wide_area d) ∷ []) 10 (uses-without d) e

module _ (d : List ℕ) (right : uses_refusal d ≡ 0) where
  -- ---- what a record says

  said : (i : ℕ) → i < arguments_in d → place_of (placement_at d i).place ≡ place eights (used_at d i) (shape_at d i)
  unfolding placement_at laying_at
  said i l = place-written (used_at d i) (shape_at d i) (argument-shaped d right i l)

  on-stack : (i : ℕ) → i < arguments_in d → stacked d i ≡ true → OnStack d i
  unfolding stacked
  on-stack i l e = (start eights (used_at d i) (shape_at d i), said i l ∙ place-not eights (used_at d i) (shape_at d i) (not-true (fits (used_at d i) (shape_at d i).kinds) e))

  in_registers_lem : (i : ℕ) → i < arguments_in d → stacked d i ≡ false → OnStack d i → ⊥
  unfolding stacked
  in_registers_lem i l e s =
      let rs = registers_for (used_at d i).general.0 (used_at d i).vector.0 (shape_at d i).kinds in
      let z : in_registers rs ≡ on_stack s.0 =
      sym (place-fits eights (used_at d i) (shape_at d i) (not-false (fits (used_at d i) (shape_at d i).kinds) e)) ∙ sym (said i l) ∙ s.1 in
      let f : ◌≡◌ {A = ℕ} 0 1 = cc in
      omega arith

  -- ---- the area

  area-behind : (used_at d (arguments_in d)).stack.0 ≤ area_of d
  unfolding used_at area_of
  area-behind = (area-rounded eights (used_first d) (shapes d)).behind

  area-none : (used_at d (arguments_in d)).stack.0 ≡ 0 → area_of d ≡ 0
  unfolding used_at area_of
  area-none e = omega (arith, (area-rounded eights (used_first d) (shapes d)).least 0 (omega arith) (zero-mod _))

  -- some stack is used, and it stays used
  area-some : (i : ℕ) → i < arguments_in d → stacked d i ≡ true → 0 < area_of d
  area-some i l e =
      let more = ap (λ (u : Used). u.stack.0) (used-split d (i + 1) (arguments_in d) (omega arith)) in
      omega (arith, stack-grows d right i l e, more, after-grows eights (shapes_from d (i + 1) (arguments_in d - (i + 1))) (used_at d (i + 1)), area-behind)

  none-used : ((j : ℕ) → j < arguments_in d → stacked d j ≡ false) → (n : ℕ) → n ≤ arguments_in d → (used_at d n).stack.0 ≡ 0
  none-used h zero l = ap (λ (u : Used). u.stack.0) (used-none d)
  none-used h (suc n) l = rw (← add-one n) (stack-stays d right n (omega arith) (h n (omega arith)) ∙ none-used h n (omega arith))

  -- ---- both answers

  module _ (b : Bool) (e : ltb (first_stacked d) (arguments_in d) ≡ b) where
    needed-is : (stack_need d).needed ≡ b
    unfolding stack_need
    needed-is = e

    looked_is : (stack_need d).looked ≡ cond b (first_stacked d + 1) (arguments_in d)
    unfolding stack_need
    looked_is = rw e

  found : ltb (first_stacked d) (arguments_in d) ≡ true → stacked d (first_stacked d) ≡ true
  found e = first_holds (stacked d) 0 (arguments_in d) (omega (arith, ltb-true (first_stacked d) (arguments_in d) e))

  none_found : ltb (first_stacked d) (arguments_in d) ≡ false → (j : ℕ) → j < arguments_in d → stacked d j ≡ false
  none_found e j l = first-least (stacked d) 0 (arguments_in d) j (omega arith) (omega (arith, ltb-false (first_stacked d) (arguments_in d) e))

  is-area : (b : Bool) → ltb (first_stacked d) (arguments_in d) ≡ b → b ≡ not (eqb (area_of d) 0)
  is-area true e =
      let some = area-some (first_stacked d) (ltb-true (first_stacked d) (arguments_in d) e) (found e) in
      rw (ne_eqb (area_of d) 0 (λ z. omega arith))
  is-area false e = rw (eq-eqb (area_of d) 0 (area-none (none-used (none_found e) (arguments_in d) (omega arith))))

  first-on_stack : ltb (first_stacked d) (arguments_in d) ≡ true → FirstOnStack d (first_stacked d)
  first-on_stack e =
      let l = ltb-true (first_stacked d) (arguments_in d) e in
      record {
        there = l;
        goes = on-stack (first_stacked d) l (found e);
        before = λ j h. in_registers_lem j (omega arith) (first-least (stacked d) 0 (arguments_in d) j (omega arith) h);
      }

  wide : verdict d ≡ 10 → 16384 < area_of d
  wide v = by (ltb 16384 (area_of d)) refl
    where
      by : (b : Bool) → ltb 16384 (area_of d) ≡ b → 16384 < area_of d
      by true e = ltb-true 16384 (area_of d) e
      by false e = absurd (omega (arith, v, no_ten d right (ltb-false 16384 (area_of d) e)))

  pub stack-needed : StackNeeded d
  stack-needed =
      let b = ltb (first_stacked d) (arguments_in d) in
      record {
        area = needed-is b refl ∙ is-area b refl;
        ten = λ v. needed-is b refl ∙ is-area b refl ∙ rw (ne_eqb (area_of d) 0 (λ z. omega (arith, wide v)));
        some = λ e. let t = sym (needed-is b refl) ∙ e in (first_stacked d, (looked_is true t, first-on_stack t));
        none = λ e.
            let t = sym (needed-is b refl) ∙ e in
            (looked_is false t, λ j l. in_registers_lem j l (none_found t j l));
      }
