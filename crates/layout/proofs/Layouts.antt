-- The layout as a whole: what is used and how many bytes the values have after any number of arguments. Assumes nothing.
use Rattle.std.specs.Prelude.{Err, Ok, Result}
use Rattle.std.specs.Result.{IsErrAnd}
use Rattle.std.proofs.lemmas.Result.{err_from_is_err_and}
use mathlib.Core.Path.{◌≡◌, refl, sym, ap, subst, ◌∙◌}
use mathlib.Core.Bool.{Bool, true, false, cond}
use mathlib.Core.List.{List}
use Prim.Native.Nat.{ℕ, zero, suc, ◌+◌, ◌*◌, ◌^◌, ◌≤◌, ◌<◌}
use native.Mathlib.Numerals.{add-one}
use native.Mathlib.Omega.{arith}
use borrow.Author.Tests.{eq-eqb, ne_eqb, eqb-true, lt-ltb, le-ltb}
use lib.Dec.{eqb}
use Rattle.units.specs.Raise.{raise}
use Rattle.description.specs.Description.{types_in, named_in, arguments_in}
use Rattle.form.specs.declared.Refusal.{Refusal}
use Rattle.form.specs.Reading.{refusal_of, judgment}
use Rattle.form.proofs.Judgment.{refused, judgment-none, judgment-some}
use Rattle.types.specs.Wrong.{refusal_for}
use Rattle.types.proofs.Wrong.{no_type}
use Rattle.types.specs.Table.{filled, sizes_after}
use Rattle.classify.specs.Table.{full_entry}
use Rattle.uses.specs.Uses.{uses_refusal}
use Rattle.places.specs.Places.{fresh, area_align, area}
use Rattle.layout.specs.Arguments.{is_named, return_place, returned_size, hidden, used_at, value_start, area_of}
use Rattle.layout.specs.Asks.{Before, AskRecord, Alike}
use Rattle.layout.specs.Placements.{laying_fresh, laying_at, step_at, placement_at}
use Rattle.layout.specs.Verdict.{verdict}
use Rattle.layout.specs.Layout.{values_of, layout_of, layout_answer, check_answer, table_after}
use Rattle.layout.specs.declared.Layout.{Layout}
use Rattle.layout.specs.declared.placements.Laying.{Laying}
use Rattle.layout.specs.declared.placements.Placement.{Placement}
use Rattle.layout.proofs.Arguments.{used-none, used-next, start_none, start-next}
use Rattle.layout.proofs.Verdict.{ten, no_ten, verdict-uses}
use Rattle.layout.proofs.Bounds.{arguments-few, argument-small, before-next}

-- what is laid out where n arguments are: no count past its file, and so few bytes that no sum overflows
pub record AskedAt (d : List ℕ) (n : ℕ) : Type 0 where
  pub before : Before n (used_at d n)
  pub sum : value_start d n ≤ 4096 * n

pub fresh-before : (b : Bool) → Before 0 (fresh b)
fresh-before true = omega arith
fresh-before false = omega arith

module _ (d : List ℕ) where
  module _ (right : uses_refusal d ≡ 0) where
    -- after n arguments
    pub asks_at : (n m : ℕ) → n ≤ m → m ≤ arguments_in d → AskedAt d n
    asks_at zero m h l = record {
      before = rw (used-none d) (fresh-before (hidden d));
      sum = omega (arith, start_none d);
    }
    asks_at (suc n) m h l =
        let r = asks_at n m (omega arith) l in
        rw (← add-one n)
        (record {
          before = rw (used-next d n) (before-next d right n (used_at d n) (omega arith) r.before);
          sum = omega (arith, start-next d n, (argument-small d right n (omega arith)).size, r.sum);
        })

    -- what the record of argument i asks
    pub record_asks : (i : ℕ) → i < arguments_in d → AskRecord d i (laying_at d i)
    unfolding laying_at
    record_asks i l =
        let a = asks_at i (arguments_in d) (omega arith) (omega arith) in
        record { argument = record { right = right; there = l; before = a.before }; sum = a.sum }

  -- what is laid out before the first argument, and after one more
  pub laying_none : laying_at d 0 ≡ laying_fresh (hidden d)
  unfolding laying_at laying_fresh
  laying_none = λ j. record { used = used-none d j; values = record { 0 = start_none d j } }

  pub laying_next : (i : ℕ) → (step_at d (laying_at d i) i).after ≡ laying_at d (i + 1)
  unfolding step_at laying_at
  laying_next i = λ j. record { used = sym (used-next d i) j; values = record { 0 = sym (start-next d i) j } }

  -- the named arguments stand before the others
  pub named-alike : (n : ℕ) → n ≤ named_in d → Alike d 0 n true
  unfolding is_named
  named-alike n h = record { each = λ j k l. lt-ltb j (named_in d) (omega arith) }

  pub unnamed-alike : (n m : ℕ) → (n < m → named_in d ≤ n) → Alike d n m false
  unfolding is_named
  unnamed-alike n m h = record { each = λ j k l. let after = h (omega arith) in le-ltb j (named_in d) (omega arith) }

  -- where the code begins
  pub laying_first : (b : Bool) → b ≡ hidden d → (l : Laying) → l ≡ laying_fresh b → l ≡ laying_at d 0
  laying_first b is l e = e ∙ ap laying_fresh is ∙ sym laying_none

  -- rounding the area up does not overflow
  pub laying-small : uses_refusal d ≡ 0 → (l : Laying) → l ≡ laying_at d (arguments_in d) → l.used.stack.0 ≤ 2 ^ 20
  unfolding laying_at
  laying-small right l e =
      omega (
        arith,
        ap (λ (x : Laying). x.used.stack.0) e,
        (asks_at right (arguments_in d) (arguments_in d) (omega arith) (omega arith)).before.stack,
        arguments-few d right,
      )

  pub layout_is : (l : Laying) → l ≡ laying_at d (arguments_in d) → (start : Laying) → start ≡ laying_at d (named_in d)
      → (r : Layout) → r.used ≡ l.used → r.align.0 ≡ area_align l.used → r.area.0 ≡ raise (area_align l.used) l.used.stack.0 → r.values ≡ l.values
      → r.returns ≡ return_place d → r.returned.0 ≡ returned_size d → r.hidden ≡ hidden d → r.named ≡ start.used → r ≡ layout_of d
  unfolding layout_of laying_at values_of value_start area_of area used_at
  layout_is l e start f r u w a v p s q n =
      let align : r.align.0 ≡ area_align (used_at d (arguments_in d)) = w ∙ ap (λ (x : Laying). area_align x.used) e in
      let area : r.area.0 ≡ area_of d = a ∙ ap (λ (x : Laying). raise (area_align x.used) x.used.stack.0) e in
      λ i. record {
        used = (u ∙ ap (λ (x : Laying). x.used) e) i;
        area = record { 0 = area i };
        align = record { 0 = align i };
        values = (v ∙ ap (λ (x : Laying). x.values) e) i;
        returns = p i;
        returned = record { 0 = s i };
        hidden = q i;
        named = (n ∙ ap (λ (x : Laying). x.used) f) i;
      }

-- what `?` passes on
pub passed-on : {T : Type 0} {e : Refusal} (r : Result T Refusal) → IsErrAnd r (λ x. x ≡ e) → r ≡ Err e
passed-on r h = let y = err_from_is_err_and r h in y.1 ∙ ap Err y.2

-- the answer
answered : (d : List ℕ) (b : Bool) → eqb (verdict d) 0 ≡ b → layout_answer d ≡ cond b (Ok (layout_of d)) (Err (refusal_for d (verdict d)))
unfolding layout_answer
answered d b e = rw e

pub answer-laid : (d : List ℕ) (l : Layout) → l ≡ layout_of d → verdict d ≡ 0 → Ok l ≡ layout_answer d
answer-laid d l e v = ap Ok e ∙ sym (answered d true (eq-eqb (verdict d) 0 v))

pub answer-refused : (d : List ℕ) (n : ℕ) (r : Refusal) → r ≡ refusal_for d n → verdict d ≡ n → (n ≡ 0 → ⊥) → Err r ≡ layout_answer d
answer-refused d n r e v z = ap Err (e ∙ ap (refusal_for d) (sym v)) ∙ sym (answered d false (ne_eqb (verdict d) 0 (λ q. z (sym v ∙ q))))

-- by the area that was found
module _ (d : List ℕ) (right : uses_refusal d ≡ 0) (l : Layout) (is : l ≡ layout_of d) where
  area-is : l.area.0 ≡ area_of d
  unfolding layout_of
  area-is = ap (λ (k : Layout). k.area.0) is

  pub answer-wide : (r : Refusal) → r ≡ refusal_of 10 → 16384 < l.area.0 → Err r ≡ layout_answer d
  answer-wide r e h = answer-refused d 10 r (e ∙ sym (no_type d 10 refl refl)) (ten d right (omega (arith, area-is))) (λ z. omega arith)

  pub answer-small : l.area.0 ≤ 16384 → Ok l ≡ layout_answer d
  answer-small h = answer-laid d l is (no_ten d right (omega (arith, area-is)))

-- by 1 to 9
pub answer-judged : (d : List ℕ) (r : Refusal) → Err r ≡ judgment (uses_refusal d) (refusal_for d (uses_refusal d)) → Err r ≡ layout_answer d
answer-judged d r e =
    let wrong = refused _ _ _ e in
    answer-refused d (uses_refusal d) r wrong.1 (verdict-uses d wrong.0) wrong.0

-- an answer that is known says which verdict there is
pub laid-accepted : (d : List ℕ) (l : Layout) → layout_answer d ≡ Ok l → (verdict d ≡ 0) × (l ≡ layout_of d)
laid-accepted d l e = by (eqb (verdict d) 0) refl
  where
    by : (b : Bool) → eqb (verdict d) 0 ≡ b → (verdict d ≡ 0) × (l ≡ layout_of d)
    by true q = (eqb-true (verdict d) 0 q, let z : Ok l ≡ Ok (layout_of d) = sym e ∙ answered d true q in cc)
    by false q = absurd (let z : Ok l ≡ Err (refusal_for d (verdict d)) = sym e ∙ answered d false q in let f : ◌≡◌ {A = ℕ} 0 1 = cc in omega arith)

pub refused-verdict : (d : List ℕ) (r : Refusal) → layout_answer d ≡ Err r → r ≡ refusal_for d (verdict d)
refused-verdict d r e = by (eqb (verdict d) 0) refl
  where
    by : (b : Bool) → eqb (verdict d) 0 ≡ b → r ≡ refusal_for d (verdict d)
    by true q = absurd (let z : Err r ≡ Ok (layout_of d) = sym e ∙ answered d true q in let f : ◌≡◌ {A = ℕ} 0 1 = cc in omega arith)
    by false q = let z : Err r ≡ Err (refusal_for d (verdict d)) = sym e ∙ answered d false q in cc

-- no answer is 0 and refused: a refusal that is passed on has a number
pub refused-nonzero : (d : List ℕ) (r : Refusal) → layout_answer d ≡ Err r → verdict d ≡ 0 → ⊥
refused-nonzero d r e v =
    let z : Err r ≡ Ok (layout_of d) = e' in
    let f : ◌≡◌ {A = ℕ} 0 1 = cc in
    omega arith
  where
    e' : Err r ≡ Ok (layout_of d)
    e' = sym e ∙ answered d true (eq-eqb (verdict d) 0 v)

-- the verdict alone
pub checked-laid : (d : List ℕ) (l : Layout) → layout_answer d ≡ Ok l → Ok tt ≡ check_answer d
unfolding check_answer
checked-laid d l e = judgment-none _ _ (laid-accepted d l e).0

pub checked-refused : (d : List ℕ) (r : Refusal) → layout_answer d ≡ Err r → Err r ≡ check_answer d
unfolding check_answer
checked-refused d r e = ap Err (refused-verdict d r e) ∙ judgment-some _ _ (refused-nonzero d r e)

-- the table once it is worked out
module _ (d t u : List ℕ) (e : u ≡ sizes_after d t) where
  pub table-refused : (uses_refusal d ≡ 0 → ⊥) → u ≡ table_after d t
  unfolding table_after
  table-refused h = e ∙ rw (ne_eqb (uses_refusal d) 0 h)

  pub table-worked : uses_refusal d ≡ 0 → (v : List ℕ) → v ≡ filled (full_entry d) (types_in d) u → v ≡ table_after d t
  unfolding table_after
  table-worked h v ev = ev ∙ ap (filled (full_entry d) (types_in d)) e ∙ rw (eq-eqb (uses_refusal d) 0 h)

-- ---- one argument after the other, as a loop goes that begins at `laying_first`

module _ (d : List ℕ) (i : ℕ) (l : Laying) (here : l ≡ laying_at d i) where
  -- what its record asks
  pub turn_asked : uses_refusal d ≡ 0 → i < arguments_in d → AskRecord d i l
  turn_asked right h = subst (λ (m : Laying). AskRecord d i m) (sym here) (record_asks d right i h)

  -- it is the record of argument i
  pub turn_placed : (p : Placement) → p ≡ (step_at d l i).placement → p ≡ placement_at d i
  unfolding step_at placement_at
  turn_placed p e = e ∙ ap (λ (m : Laying). (step_at d m i).placement) here

  -- and what is laid out after it
  pub turn_laid : (m : Laying) → m ≡ (step_at d l i).after → m ≡ laying_at d (i + 1)
  turn_laid m e = e ∙ ap (λ (x : Laying). (step_at d x i).after) here ∙ laying_next d i
