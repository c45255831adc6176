-- The lent list: which number, exactly, and how the records follow one another. Assumes nothing.
use Rattle.std.specs.Prelude.{Err, Ok}
use mathlib.Core.Path.{◌≡◌, refl, sym, ap, ◌∙◌}
use mathlib.Core.Bool.{Bool, true, false, cond}
use mathlib.Core.List.{List, [], ◌∷◌}
use mathlib.Core.Logic.{◌↔◌, ◌≢◌}
use Prim.Native.Nat.{ℕ, ◌+◌, ◌≤◌, ◌<◌}
use native.Mathlib.Omega.{arith}
use borrow.Author.Tests.{eq-eqb, ne_eqb, eqb-true, lt-ltb, le-ltb, ltb-false}
use lib.Dec.{eqb}
use Rattle.description.specs.Description.{arguments_in}
use Rattle.form.specs.Order.{rule, NoneHolds, Answers}
use Rattle.form.specs.Reading.{refusal_of}
use Rattle.types.specs.Wrong.{refusal_for}
use Rattle.types.proofs.Wrong.{no_type}
use Rattle.form.specs.declared.Refusal.{Refusal}
use Rattle.form.proofs.Order.{refuses-exactly, accepts-exactly, first-before, first-behind, first-both, positive-append}
use Rattle.layout.specs.Verdict.{check_order, verdict}
use Rattle.layout.specs.Layout.{layout_of, layout_answer}
use Rattle.layout.specs.Asks.{AskRecord}
use Rattle.layout.specs.Placements.{laying_fresh, laying_at, placement_at, step_at}
use Rattle.layout.specs.Lists.{short_list, list_refusal, list_answer, list_count, list_laying, layout_order}
use Rattle.layout.specs.declared.Layout.{Layout}
use Rattle.layout.specs.declared.placements.Laying.{Laying}
use Rattle.layout.proofs.Verdict.{accepted-uses, check-positive}
use Rattle.layout.proofs.Layouts.{record_asks, laying_next, refused-verdict, refused-nonzero}

-- the answer is n exactly where condition n holds and none before it; 11 comes last
pub list_exactly : (d : List ℕ) (room n : ℕ) → n ≢ 0 → (list_refusal d room ≡ n) ↔ Answers (layout_order d room) n
unfolding list_refusal
list_exactly d room n h = refuses-exactly (layout_order d room) n h

pub list_none_exactly : (d : List ℕ) (room : ℕ) → (list_refusal d room ≡ 0) ↔ NoneHolds (layout_order d room)
unfolding list_refusal
list_none_exactly d room = accepts-exactly (layout_order d room) (positive-append (check_order d) (rule 11 (short_list d room) ∷ []) (check-positive d) (omega arith, tt))

-- the record of argument i, where it is laid out
pub record_at : (d : List ℕ) (i : ℕ) → (step_at d (laying_at d i) i).placement ≡ placement_at d i
unfolding step_at placement_at
record_at d i = refl

-- which number, from what the code looks at
module _ (d : List ℕ) (room : ℕ) where
  list_verdict : (verdict d ≡ 0 → ⊥) → list_refusal d room ≡ verdict d
  unfolding list_refusal verdict
  list_verdict h = first-before (check_order d) (rule 11 (short_list d room) ∷ []) h

  behind : verdict d ≡ 0 → (b : Bool) → short_list d room ≡ b → list_refusal d room ≡ cond b 11 0
  unfolding list_refusal verdict
  behind v b e = first-behind (check_order d) (rule 11 (short_list d room) ∷ []) (check-positive d) v ∙ rw e

  eleven : verdict d ≡ 0 → room < arguments_in d → list_refusal d room ≡ 11
  unfolding short_list
  eleven v l = behind v true (lt-ltb room (arguments_in d) l)

  no_eleven : verdict d ≡ 0 → arguments_in d ≤ room → list_refusal d room ≡ 0
  unfolding short_list
  no_eleven v l = behind v false (le-ltb room (arguments_in d) l)

  pub list_accepted : list_refusal d room ≡ 0 → verdict d ≡ 0
  unfolding list_refusal verdict
  list_accepted h = (first-both (check_order d) (rule 11 (short_list d room) ∷ []) (check-positive d) h).0

  pub list_room : list_refusal d room ≡ 0 → arguments_in d ≤ room
  unfolding short_list
  list_room h = ltb-false room (arguments_in d) ((list_none_exactly d room).0 h).1.1.1.1.1.1.1.1.1.1.0

  -- the answer, from what the code looks at
  listed : (b : Bool) → eqb (list_refusal d room) 0 ≡ b → list_answer d room ≡ cond b (Ok (layout_of d)) (Err (refusal_for d (list_refusal d room)))
  unfolding list_answer
  listed b e = rw e

  pub list-refused : (f : Refusal) → layout_answer d ≡ Err f → Err f ≡ list_answer d room
  list-refused f e =
      let z = refused-nonzero d f e in
      ap Err (refused-verdict d f e ∙ ap (refusal_for d) (sym (list_verdict z)))
      ∙ sym (listed false (ne_eqb (list_refusal d room) 0 (λ q. z (sym (list_verdict z) ∙ q))))

  pub list-short : verdict d ≡ 0 → room < arguments_in d → (f : Refusal) → f ≡ refusal_of 11 → Err f ≡ list_answer d room
  list-short v h f q =
      ap Err (q ∙ sym (no_type d 11 refl refl) ∙ ap (refusal_for d) (sym (eleven v h)))
      ∙ sym (listed false (ne_eqb (list_refusal d room) 0 (λ z. omega (arith, eleven v h))))

  pub list-laid : verdict d ≡ 0 → arguments_in d ≤ room → (l : Layout) → l ≡ layout_of d → Ok l ≡ list_answer d room
  list-laid v h l e = ap Ok e ∙ sym (listed true (eq-eqb (list_refusal d room) 0 (no_eleven v h)))

  -- an answer that is known says whether the list is filled
  pub listed-laid : (l : Layout) → list_answer d room ≡ Ok l → (list_refusal d room ≡ 0) × (l ≡ layout_of d)
  listed-laid l e = by (eqb (list_refusal d room) 0) refl
    where
      by : (b : Bool) → eqb (list_refusal d room) 0 ≡ b → (list_refusal d room ≡ 0) × (l ≡ layout_of d)
      by true q = (eqb-true (list_refusal d room) 0 q, let z : Ok l ≡ Ok (layout_of d) = sym e ∙ listed true q in cc)
      by false q = absurd (let z : Ok l ≡ Err (refusal_for d (list_refusal d room)) = sym e ∙ listed false q in let f : ◌≡◌ {A = ℕ} 0 1 = cc in omega arith)

  pub count-laid : (l : Layout) → list_answer d room ≡ Ok l → list_count d room ≡ arguments_in d
  unfolding list_count
  count-laid l e = rw (eq-eqb (list_refusal d room) 0 (listed-laid l e).0)

  pub laying-laid : (l : Layout) → list_answer d room ≡ Ok l → (i : ℕ) → list_laying d room i ≡ laying_at d i
  unfolding list_laying
  laying-laid l e i = rw (eq-eqb (list_refusal d room) 0 (listed-laid l e).0)

  refused-listed : (f : Refusal) → list_answer d room ≡ Err f → eqb (list_refusal d room) 0 ≡ false
  refused-listed f e = by (eqb (list_refusal d room) 0) refl
    where
      by : (b : Bool) → eqb (list_refusal d room) 0 ≡ b → eqb (list_refusal d room) 0 ≡ false
      by true q = absurd (let z : Err f ≡ Ok (layout_of d) = sym e ∙ listed true q in let g : ◌≡◌ {A = ℕ} 0 1 = cc in omega arith)
      by false q = q

  pub count-refused : (f : Refusal) → list_answer d room ≡ Err f → list_count d room ≡ 0
  unfolding list_count
  count-refused f e = rw (refused-listed f e)

  pub laying-refused : (f : Refusal) → list_answer d room ≡ Err f → (i : ℕ) → list_laying d room i ≡ laying_fresh false
  unfolding list_laying
  laying-refused f e i = rw (refused-listed f e)

  -- the turns of the loop: there are some only where the list is filled
  module _ (i : ℕ) (less : i < list_count d room) where
    filling : list_refusal d room ≡ 0
    unfolding list_count
    filling = by (eqb (list_refusal d room) 0) refl less
      where
        by : (b : Bool) → eqb (list_refusal d room) 0 ≡ b → i < cond b (arguments_in d) 0 → list_refusal d room ≡ 0
        by true e h = eqb-true (list_refusal d room) 0 e
        by false e h = absurd (omega arith)

    there : i < arguments_in d
    unfolding list_count
    there = rw (eq-eqb (list_refusal d room) 0 filling) at less

    laying_is : (j : ℕ) → list_laying d room j ≡ laying_at d j
    unfolding list_laying
    laying_is j = rw (eq-eqb (list_refusal d room) 0 filling)

    pub turn_accepted : verdict d ≡ 0
    turn_accepted = list_accepted filling

    pub turn_asks : AskRecord d i (list_laying d room i)
    turn_asks = rw (laying_is i) (record_asks d (accepted-uses d (list_accepted filling)) i there)

    pub turn_record : (step_at d (list_laying d room i) i).placement ≡ placement_at d i
    turn_record = ap (λ (l : Laying). (step_at d l i).placement) (laying_is i) ∙ record_at d i

    pub turn_after : (step_at d (list_laying d room i) i).after ≡ list_laying d room (i + 1)
    turn_after = ap (λ (l : Laying). (step_at d l i).after) (laying_is i) ∙ laying_next d i ∙ sym (laying_is (i + 1))
