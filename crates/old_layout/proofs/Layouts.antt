-- The layout of the 386 kind from its parts, and what an answer says. Assumes nothing.
use Rattle.std.specs.Prelude.{Err, Ok, Result, IsErrAnd}
use Rattle.std.proofs.lemmas.Result.{err_from_is_err_and}
use mathlib.Core.Path.{◌≡◌, refl, sym, ap, ◌∙◌}
use mathlib.Core.Bool.{Bool, true, false, cond}
use mathlib.Core.List.{List}
use Prim.Native.Nat.{ℕ, ◌+◌, ◌*◌, ◌≤◌, ◌<◌}
use native.Mathlib.Omega.{arith}
use borrow.Author.Tests.{eq-eqb, ne_eqb, eqb-true, eqb-false}
use lib.Dec.{eqb}
use Rattle.description.specs.Description.{named_in, arguments_in}
use Rattle.form.specs.declared.Refusal.{Refusal}
use Rattle.form.specs.Reading.{refusal_of, judgment}
use Rattle.form.proofs.Judgment.{refused, judgment-none, judgment-some}
use Rattle.units.specs.Raise.{raise}
use Rattle.old_types.specs.Conditions.{refusal_for}
use Rattle.old_types.proofs.Judged.{no_type}
use Rattle.intel386.specs.Arguments.{hidden, used_at, area_of, values_of, value_start}
use Rattle.intel386.specs.Verdict.{uses_refusal, verdict}
use Rattle.intel386.proofs.Places.{area-sixteen}
use Rattle.old_layout.specs.Layout.{return_place, returned_size, layout_of, layout_answer}
use Rattle.old_layout.specs.Asks.{IsLaid}
use Rattle.old_layout.specs.declared.laying.Laying.{Laying}
use Rattle.old_layout.specs.declared.OldLayout.{OldLayout}
use Rattle.old_layout.proofs.Arguments.{arguments-few, offset-low}
use Rattle.old_layout.proofs.Verdict.{verdict-uses, ten, no_ten}

-- from what was found of the arguments and of what is returned
module _ (d : List ℕ) (all : Laying) (al : IsLaid d (arguments_in d) all) where
  pub area-asks : uses_refusal d ≡ 0 → all.offset.0 ≤ 4 + 4100 * 64
  area-asks right = omega (arith, al.offset, offset-low d right (arguments_in d) (omega arith), arguments-few d right)

  values-whole : all.values.0 ≡ values_of d
  unfolding values_of value_start
  values-whole = al.values

  area-whole : (a : ℕ) → a ≡ raise 16 all.offset.0 → a ≡ area_of d
  area-whole a e = e ∙ ap (raise 16) al.offset ∙ sym (area-sixteen d)

module _ (d : List ℕ) (first all : Laying) (fl : IsLaid d (named_in d) first) (al : IsLaid d (arguments_in d) all) where
  pub layout_is : (r : OldLayout) → r.area.0 ≡ raise 16 all.offset.0 → r.values.0 ≡ all.values.0 → r.returns ≡ return_place d → r.returned.0 ≡ returned_size d
      → r.hidden ≡ hidden d → r.popped.0 ≡ cond r.hidden 4 0 → r.start.0 ≡ first.offset.0 → r ≡ layout_of d
  unfolding layout_of
  layout_is r a v p s q b n =
      let area : r.area.0 ≡ area_of d = area-whole d all al _ a in
      let values : r.values.0 ≡ values_of d = v ∙ values-whole d all al in
      let popped : r.popped.0 ≡ cond (hidden d) 4 0 = b ∙ ap (λ (h : Bool). cond h 4 0) q in
      let start : r.start.0 ≡ (used_at d (named_in d)).stack.0 = n ∙ fl.offset in
      λ i. record { area = record { 0 = area i }; values = record { 0 = values i }; returns = p i; returned = record { 0 = s i }; hidden = q i; popped = record { 0 = popped i }; start = record { 0 = start i } }

-- what a `?` hands on
pub passed-on : {T : Type 0} {e : Refusal} (r : Result T Refusal) → IsErrAnd r (λ x. x ≡ e) → r ≡ Err e
passed-on r h = let y = err_from_is_err_and r h in y.1 ∙ ap Err y.2

-- the answer
answered : (d : List ℕ) (b : Bool) → eqb (verdict d) 0 ≡ b → layout_answer d ≡ cond b (Ok (layout_of d)) (Err (refusal_for d (verdict d)))
unfolding layout_answer
answered d b e = rw e

answer-laid : (d : List ℕ) (l : OldLayout) → l ≡ layout_of d → verdict d ≡ 0 → Ok l ≡ layout_answer d
answer-laid d l e v = ap Ok e ∙ sym (answered d true (eq-eqb (verdict d) 0 v))

pub answer-refused : (d : List ℕ) (n : ℕ) (r : Refusal) → r ≡ refusal_for d n → verdict d ≡ n → (n ≡ 0 → ⊥) → Err r ≡ layout_answer d
answer-refused d n r e v z = ap Err (e ∙ ap (refusal_for d) (sym v)) ∙ sym (answered d false (ne_eqb (verdict d) 0 (λ q. z (sym v ∙ q))))

-- a description that the types or their uses refuse
pub answer-judged : (d : List ℕ) (r : Refusal) → Err r ≡ judgment (uses_refusal d) (refusal_for d (uses_refusal d)) → Err r ≡ layout_answer d
answer-judged d r e =
    let wrong = refused _ _ _ e in
    answer-refused d (uses_refusal d) r wrong.1 (verdict-uses d wrong.0) wrong.0

-- by the area that was found
module _ (d : List ℕ) (right : uses_refusal d ≡ 0) (l : OldLayout) (is : l ≡ layout_of d) where
  area-is : l.area.0 ≡ area_of d
  unfolding layout_of
  area-is = ap (λ (k : OldLayout). k.area.0) is

  pub answer-wide : (r : Refusal) → r ≡ refusal_of 10 → 16384 < l.area.0 → Err r ≡ layout_answer d
  answer-wide r e h = answer-refused d 10 r (e ∙ sym (no_type d 10 refl refl)) (ten d right (omega (arith, area-is, h))) (λ z. omega arith)

  pub answer-small : l.area.0 ≤ 16384 → Ok l ≡ layout_answer d
  answer-small h = answer-laid d l is (no_ten d right (omega (arith, area-is, h)))

-- an answer that is known says which verdict there is
pub laid-accepted : (d : List ℕ) (l : OldLayout) → layout_answer d ≡ Ok l → (verdict d ≡ 0) × (l ≡ layout_of d)
laid-accepted d l e = by (eqb (verdict d) 0) refl
  where
    by : (b : Bool) → eqb (verdict d) 0 ≡ b → (verdict d ≡ 0) × (l ≡ layout_of d)
    by true q = (eqb-true (verdict d) 0 q, let z : Ok l ≡ Ok (layout_of d) = sym e ∙ answered d true q in cc)
    by false q = absurd (let z : Ok l ≡ Err (refusal_for d (verdict d)) = sym e ∙ answered d false q in let f : ◌≡◌ {A = ℕ} 0 1 = cc in omega arith)

-- the verdict alone, by the answer
pub checked-laid : (d : List ℕ) (l : OldLayout) → layout_answer d ≡ Ok l → Ok (tt {0}) ≡ judgment (verdict d) (refusal_for d (verdict d))
checked-laid d l e = judgment-none _ _ (laid-accepted d l e).0

pub checked-refused : (d : List ℕ) (r : Refusal) → layout_answer d ≡ Err r → Err r ≡ judgment (verdict d) (refusal_for d (verdict d))
checked-refused d r e = by (eqb (verdict d) 0) refl
  where
    by : (b : Bool) → eqb (verdict d) 0 ≡ b → Err r ≡ judgment (verdict d) (refusal_for d (verdict d))
    by true q = absurd (let z : Err r ≡ Ok (layout_of d) = sym e ∙ answered d true q in let f : ◌≡◌ {A = ℕ} 0 1 = cc in omega arith)
    by false q = let z : Err r ≡ Err (refusal_for d (verdict d)) = sym e ∙ answered d false q in let y : r ≡ refusal_for d (verdict d) = cc in ap Err y ∙ judgment-some _ _ (eqb-false (verdict d) 0 q)
