-- Which argument goes to the stack first, by what is used after each (request 2026-10), and that the area tells whether one does. Assumes nothing.
use Rattle.std.specs.Prelude.{Err, Ok, Some, None}
use mathlib.Core.Path.{◌≡◌, refl, sym, ap, ◌∙◌}
use mathlib.Core.Bool.{Bool, true, false, cond}
use mathlib.Core.List.{List}
use Prim.Native.Nat.{ℕ, ◌+◌, ◌-◌, ◌≤◌, ◌<◌}
use native.Mathlib.Omega.{arith}
use borrow.Author.Tests.{lt-ltb, le-ltb, ltb-true, eq-eqb, ne_eqb, not-true, not-false}
use lib.Dec.{ltb, eqb}
use Rattle.description.specs.Description.{arguments_in, argument_at, model_in}
use Rattle.form.specs.Search.{first_from}
use Rattle.form.proofs.Search.{search_stop, search_on, search_end}
use Rattle.form.specs.declared.Refusal.{Refusal}
use Rattle.form.specs.Reading.{judgment}
use Rattle.form.proofs.Judgment.{refused}
use Rattle.types.specs.Decode.{ty_at}
use Rattle.types.specs.Wrong.{refusal_for}
use Rattle.types.proofs.Large.{accepted-sized}
use Rattle.types.proofs.Laws.{size_low, type-filled}
use Rattle.uses.specs.Uses.{uses_refusal}
use Rattle.uses.proofs.Uses.{accepted-types}
use Rattle.places.specs.declared.Used.{Used}
use Rattle.places.specs.Shapes.{Shape, Shaped, shape_of}
use Rattle.places.specs.Places.{eights, fits, start, next}
use Rattle.places.proofs.Fits.{place-not, next_fits}
use Rattle.places.proofs.Offsets.{stack-lowest, stack-rounded}
use Rattle.layout.specs.Arguments.{shape_at, used_at, hidden}
use Rattle.layout.specs.Placements.{laying_fresh, laying_at, step_at}
use Rattle.layout.specs.StackNeeds.{stacked, first_stacked, first_found, stack_need, stack_answer}
use Rattle.layout.specs.declared.placements.Laying.{Laying}
use Rattle.layout.specs.declared.needing.StackNeed.{StackNeed}
use Rattle.layout.proofs.Arguments.{used-next}
use Rattle.layout.proofs.Bounds.{arguments-few, argument-known, argument-shaped}
use Rattle.layout.proofs.Layouts.{laying_first, turn_laid}

-- one argument: in registers the end of the stack arguments stays, on the stack it moves on, since no type is empty
kept : (u : Used) (s : Shape) → fits u s.kinds ≡ true → (next eights u s).stack.0 ≡ u.stack.0
kept u s e = ap (λ (w : Used). w.stack.0) (next_fits eights u s e)

grown : (u : Used) (s : Shape) → Shaped s → 1 ≤ s.size → fits u s.kinds ≡ false → u.stack.0 < (next eights u s).stack.0
grown u s h l e =
    let at = place-not eights u s e in
    omega (arith, (stack-lowest eights u s (start eights u s) h at).behind, (stack-rounded eights u s (start eights u s) at).behind)

module _ (d : List ℕ) (right : uses_refusal d ≡ 0) where
  filled : (i : ℕ) → i < arguments_in d → 1 ≤ (shape_at d i).size
  unfolding shape_at shape_of
  filled i h =
      let types = accepted-types d right in
      size_low (model_in d) (ty_at d (argument_at d i)) (type-filled d (argument_at d i) (accepted-sized d types (argument_at d i) (argument-known d right i h)))

  module _ (i : ℕ) (l : i < arguments_in d) where
    after-it : (used_at d (i + 1)).stack.0 ≡ (next eights (used_at d i) (shape_at d i)).stack.0
    after-it = ap (λ (w : Used). w.stack.0) (used-next d i)

    pub stack-stays : stacked d i ≡ false → (used_at d (i + 1)).stack.0 ≡ (used_at d i).stack.0
    unfolding stacked
    stack-stays e = after-it ∙ kept (used_at d i) (shape_at d i) (not-false (fits (used_at d i) (shape_at d i).kinds) e)

    pub stack-grows : stacked d i ≡ true → (used_at d i).stack.0 < (used_at d (i + 1)).stack.0
    unfolding stacked
    stack-grows e =
        omega (arith, after-it, grown (used_at d i) (shape_at d i) (argument-shaped d right i l) (filled i l) (not-true (fits (used_at d i) (shape_at d i).kinds) e))

    -- as long as no stack is used, the argument after which some is used is the first that goes there
    stack-tells : (used_at d i).stack.0 ≡ 0 → ltb 0 (used_at d (i + 1)).stack.0 ≡ stacked d i
    stack-tells z = by (stacked d i) refl
      where
        by : (b : Bool) → stacked d i ≡ b → ltb 0 (used_at d (i + 1)).stack.0 ≡ b
        by true e = lt-ltb 0 (used_at d (i + 1)).stack.0 (omega (arith, stack-grows e))
        by false e = le-ltb 0 (used_at d (i + 1)).stack.0 (omega (arith, stack-stays e))

-- ---- the loop that looks for it

-- before argument i: none before it goes to the stack
pub record Looking (d : List ℕ) (i : ℕ) (l : Laying) : Type 0 where
  pub laying : l ≡ laying_at d i
  pub none : l.used.stack.0 ≡ 0
  pub rest : first_from (stacked d) i (arguments_in d - i) ≡ first_stacked d

pub looking_first : (d : List ℕ) (b : Bool) → b ≡ hidden d → (l : Laying) → l ≡ laying_fresh b → Looking d 0 l
unfolding laying_fresh
looking_first d b is l e = record {
  laying = laying_first d b is l e;
  none = ap (λ (m : Laying). m.used.stack.0) e;
  rest = let q : arguments_in d - 0 ≡ arguments_in d = omega arith in rw q;
}

module _ (d : List ℕ) (right : uses_refusal d ≡ 0) (i : ℕ) (l : Laying) (g : Looking d i l) where
  module _ (h : i < arguments_in d) (m : Laying) (e : m ≡ (step_at d l i).after) where
    turned : m ≡ laying_at d (i + 1)
    turned = turn_laid d i l g.laying m e

    tells : ltb 0 m.used.stack.0 ≡ stacked d i
    unfolding laying_at
    tells =
        ap (λ (x : Laying). ltb 0 x.used.stack.0) turned
        ∙ stack-tells d right i h (sym (ap (λ (x : Laying). x.used.stack.0) g.laying) ∙ g.none)

    pub looking_found : 0 < m.used.stack.0 → Some i ≡ first_found d
    unfolding first_found
    looking_found p =
        let is = sym (search_stop (stacked d) i (arguments_in d) h (sym tells ∙ lt-ltb 0 m.used.stack.0 p)) ∙ g.rest in
        rw (← is, lt-ltb i (arguments_in d) h)

    pub looking_on : m.used.stack.0 ≤ 0 → Looking d (i + 1) m
    looking_on p = record {
      laying = turned;
      none = omega arith;
      rest = search_on (stacked d) i (arguments_in d) h (sym tells ∙ le-ltb 0 m.used.stack.0 p) ∙ g.rest;
    }

pub looking_end : (d : List ℕ) (l : Laying) → Looking d (arguments_in d) l → None ≡ first_found d
unfolding first_found
looking_end d l g =
    let is : arguments_in d ≡ first_stacked d = sym (search_end (stacked d) (arguments_in d) (arguments_in d) (omega arith)) ∙ g.rest in
    rw (← is, le-ltb (arguments_in d) (arguments_in d) (omega arith))

-- it is one of the arguments
pub found-low : (d : List ℕ) → uses_refusal d ≡ 0 → (k : ℕ) → Some k ≡ first_found d → k ≤ 64
unfolding first_found
found-low d right k e = by (ltb (first_stacked d) (arguments_in d)) refl e
  where
    by : (b : Bool) → ltb (first_stacked d) (arguments_in d) ≡ b → Some k ≡ cond b (Some (first_stacked d)) None → k ≤ 64
    by true t z = let is : k ≡ first_stacked d = cc in omega (arith, is, ltb-true (first_stacked d) (arguments_in d) t, arguments-few d right)
    by false t z = absurd (let f : ◌≡◌ {A = ℕ} 0 1 = cc in omega arith)

-- ---- the answer

answered : (d : List ℕ) (b : Bool) → eqb (uses_refusal d) 0 ≡ b → stack_answer d ≡ cond b (Ok (stack_need d)) (Err (refusal_for d (uses_refusal d)))
unfolding stack_answer
answered d b e = rw e

pub need_refused : (d : List ℕ) (r : Refusal) → Err r ≡ judgment (uses_refusal d) (refusal_for d (uses_refusal d)) → Err r ≡ stack_answer d
need_refused d r e =
    let wrong = refused _ _ _ e in
    ap Err wrong.1 ∙ sym (answered d false (ne_eqb (uses_refusal d) 0 wrong.0))

module _ (d : List ℕ) (right : uses_refusal d ≡ 0) where
  known : (n : StackNeed) → n ≡ stack_need d → Ok n ≡ stack_answer d
  known n e = ap Ok e ∙ sym (answered d true (eq-eqb (uses_refusal d) 0 right))

  pub need_some : (k : ℕ) → Some k ≡ first_found d → (n : StackNeed) → n.needed ≡ true → n.looked ≡ k + 1 → Ok n ≡ stack_answer d
  unfolding first_found stack_need
  need_some k e n p q = by (ltb (first_stacked d) (arguments_in d)) refl e
    where
      by : (b : Bool) → ltb (first_stacked d) (arguments_in d) ≡ b → Some k ≡ cond b (Some (first_stacked d)) None → Ok n ≡ stack_answer d
      by true t z = let is : k ≡ first_stacked d = cc in known n (rw t (λ j. record { needed = p j; looked = (q ∙ ap (λ (x : ℕ). x + 1) is) j }))
      by false t z = absurd (let f : ◌≡◌ {A = ℕ} 0 1 = cc in omega arith)

  pub need_none : None ≡ first_found d → (n : StackNeed) → n.needed ≡ false → n.looked ≡ arguments_in d → Ok n ≡ stack_answer d
  unfolding first_found stack_need
  need_none e n p q = by (ltb (first_stacked d) (arguments_in d)) refl e
    where
      by : (b : Bool) → ltb (first_stacked d) (arguments_in d) ≡ b → None ≡ cond b (Some (first_stacked d)) None → Ok n ≡ stack_answer d
      by true t z = absurd (let f : ◌≡◌ {A = ℕ} 0 1 = cc in omega arith)
      by false t z = known n (rw t (λ j. record { needed = p j; looked = q j }))
