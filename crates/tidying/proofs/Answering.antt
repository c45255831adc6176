-- Which answer tidying gives, from what the code looks at. Assumes nothing.
use Rattle.std.specs.Prelude.{Err, Ok, Result}
use mathlib.Core.Path.{◌≡◌, refl, sym, ap, ◌∙◌}
use mathlib.Core.Logic.{◌↔◌, ◌≢◌}
use mathlib.Core.Bool.{Bool, true, false, cond}
use mathlib.Core.List.{List, [], ◌∷◌}
use Prim.Native.Nat.{ℕ, ◌≤◌, ◌<◌}
use native.Mathlib.Omega.{arith}
use borrow.Author.Tests.{eq-eqb, ne_eqb, lt-ltb, le-ltb, ltb-false}
use lib.ListN.{length, get_or}
use Rattle.description.specs.Description.{return_in}
use Rattle.form.specs.Order.{rule, NoneHolds, Answers, Positive}
use Rattle.form.specs.declared.Refusal.{Refusal}
use Rattle.form.specs.Reading.{refusal_of}
use Rattle.form.proofs.Order.{refuses-exactly, accepts-exactly, first-before, first-behind, first-both, positive-append}
use Rattle.types.specs.Decode.{ty_at}
use Rattle.units.specs.declared.Bytes.{Bytes}
use Rattle.types.specs.Wrong.{refusal_for}
use Rattle.types.proofs.Wrong.{no_type}
use Rattle.layout.specs.Arguments.{is_void}
use Rattle.layout.specs.Verdict.{check_order, verdict}
use Rattle.layout.proofs.Verdict.{check-positive}
use Rattle.tidying.specs.Call.{void, returned, returned_by, call_of}
use Rattle.tidying.specs.Numbering.{table_of}
use Rattle.tidying.specs.Tidy.{separate, return_number}
use Rattle.tidying.specs.Answers.{tidied, too_many, other_length, length_order, tidy_order, length_refusal, tidy_refusal, length_answer, tidy_answer, tidy_after}
use Rattle.tidying.specs.Statements.{Tidiable}
use Rattle.tidying.specs.Asks.{AllNumbered}
use Rattle.tidying.proofs.All.{return_low}
use Rattle.tidying.proofs.Stores.{write_low, number_at}

-- ---- which number, exactly

length-positive : (d : List ℕ) → Positive (length_order d)
length-positive d = positive-append (check_order d) (rule 29 (too_many d) ∷ []) (check-positive d) (omega arith, tt)

tidy-positive : (d : List ℕ) (room : ℕ) → Positive (tidy_order d room)
tidy-positive d room = positive-append (length_order d) (rule 11 (other_length d room) ∷ []) (length-positive d) (omega arith, tt)

-- the answer is n exactly where condition n holds and none before it: 1 to 10, then 29
pub length-exactly : (d : List ℕ) (n : ℕ) → n ≢ 0 → (length_refusal d ≡ n) ↔ Answers (length_order d) n
unfolding length_refusal
length-exactly d n h = refuses-exactly (length_order d) n h

pub length-none_exactly : (d : List ℕ) → (length_refusal d ≡ 0) ↔ NoneHolds (length_order d)
unfolding length_refusal
length-none_exactly d = accepts-exactly (length_order d) (length-positive d)

-- then 11
pub tidy-exactly : (d : List ℕ) (room n : ℕ) → n ≢ 0 → (tidy_refusal d room ≡ n) ↔ Answers (tidy_order d room) n
unfolding tidy_refusal
tidy-exactly d room n h = refuses-exactly (tidy_order d room) n h

pub tidy-none_exactly : (d : List ℕ) (room : ℕ) → (tidy_refusal d room ≡ 0) ↔ NoneHolds (tidy_order d room)
unfolding tidy_refusal
tidy-none_exactly d room = accepts-exactly (tidy_order d room) (tidy-positive d room)

-- ---- what numbering answers

module _ (d : List ℕ) where
  length-verdict : (verdict d ≡ 0 → ⊥) → length_refusal d ≡ verdict d
  unfolding length_refusal verdict
  length-verdict h = first-before (check_order d) (rule 29 (too_many d) ∷ []) h

  length-behind : verdict d ≡ 0 → (b : Bool) → too_many d ≡ b → length_refusal d ≡ cond b 29 0
  unfolding length_refusal verdict
  length-behind v b e = first-behind (check_order d) (rule 29 (too_many d) ∷ []) (check-positive d) v ∙ rw e

  pub twenty_nine : verdict d ≡ 0 → 255 < separate (table_of (call_of d)) → length_refusal d ≡ 29
  unfolding too_many
  twenty_nine v l = length-behind v true (lt-ltb 255 (separate (table_of (call_of d))) l)

  pub no_twenty_nine : verdict d ≡ 0 → separate (table_of (call_of d)) ≤ 255 → length_refusal d ≡ 0
  unfolding too_many
  no_twenty_nine v l = length-behind v false (le-ltb 255 (separate (table_of (call_of d))) l)

  pub length-accepted : length_refusal d ≡ 0 → verdict d ≡ 0
  unfolding length_refusal verdict
  length-accepted h = (first-both (check_order d) (rule 29 (too_many d) ∷ []) (check-positive d) h).0

  pub length-few : length_refusal d ≡ 0 → separate (table_of (call_of d)) ≤ 255
  unfolding too_many
  length-few h = ltb-false 255 (separate (table_of (call_of d))) ((length-none_exactly d).0 h).1.1.1.1.1.1.1.1.1.1.0

  -- 1 to 10
  pub number-early : verdict d ≢ 0 → (r : Refusal) → r ≡ refusal_for d (verdict d) → (length_refusal d ≢ 0) × (r ≡ refusal_for d (length_refusal d))
  number-early h r e = let q = length-verdict h in (λ z. h (sym q ∙ z), e ∙ ap (refusal_for d) (sym q))

  -- 29
  pub number-many : verdict d ≡ 0 → 255 < separate (table_of (call_of d)) → (r : Refusal) → r ≡ refusal_of 29 → (length_refusal d ≢ 0) × (r ≡ refusal_for d (length_refusal d))
  number-many v l r e = let q = twenty_nine v l in (λ z. omega (arith, z, q), e ∙ sym (no_type d 29 refl refl) ∙ ap (refusal_for d) (sym q))

  -- the length
  pub length-refused : length_refusal d ≢ 0 → (r : Refusal) → r ≡ refusal_for d (length_refusal d) → ◌≡◌ {A = Result Bytes Refusal} (Err r) (length_answer d)
  unfolding length_answer
  length-refused h r e = rw (ne_eqb (length_refusal d) 0 h, e)

  pub length-known : length_refusal d ≡ 0 → (n : Bytes) → n.0 ≡ length (tidied d) → ◌≡◌ {A = Result Bytes Refusal} (Ok n) (length_answer d)
  unfolding length_answer
  length-known z n q = rw (z, ← q)

module _ (d out : List ℕ) where
  refused-by : (n : ℕ) → tidy_refusal d (length out) ≡ n → n ≢ 0 → (r : Refusal) → r ≡ refusal_for d n
      → (◌≡◌ {A = Result (Unit {0}) Refusal} (Err r) (tidy_answer d (length out))) × (out ≡ tidy_after d out)
  unfolding tidy_after tidy_answer
  refused-by n e h r q = (rw (e, ne_eqb n 0 h, q), rw (e, ne_eqb n 0 h))

  behind : length_refusal d ≡ 0 → (b : Bool) → other_length d (length out) ≡ b → tidy_refusal d (length out) ≡ cond b 11 0
  unfolding tidy_refusal length_refusal
  behind v b e = first-behind (length_order d) (rule 11 (other_length d (length out)) ∷ []) (length-positive d) v ∙ rw e

  -- 1 to 10, and 29
  pub tidy-early : length_refusal d ≢ 0 → (r : Refusal) → r ≡ refusal_for d (length_refusal d) → (◌≡◌ {A = Result (Unit {0}) Refusal} (Err r) (tidy_answer d (length out))) × (out ≡ tidy_after d out)
  unfolding tidy_refusal length_refusal
  tidy-early h r e = refused-by (length_refusal d) (first-before (length_order d) (rule 11 (other_length d (length out)) ∷ []) h) h r e

  -- 11
  pub tidy-room : length_refusal d ≡ 0 → length out ≢ length (tidied d) → (r : Refusal) → r ≡ refusal_of 11
      → (◌≡◌ {A = Result (Unit {0}) Refusal} (Err r) (tidy_answer d (length out))) × (out ≡ tidy_after d out)
  unfolding other_length
  tidy-room v h r e =
      refused-by 11 (behind v true (rw (ne_eqb (length out) (length (tidied d)) h))) (λ z. omega (arith, z)) r (e ∙ sym (no_type d 11 refl refl))

  pub tidy-done : length_refusal d ≡ 0 → length out ≡ length (tidied d) → (after : List ℕ) → after ≡ tidied d
      → (◌≡◌ {A = Result (Unit {0}) Refusal} (Ok tt) (tidy_answer d (length out))) × (after ≡ tidy_after d out)
  unfolding other_length tidy_after tidy_answer
  tidy-done v h after e =
      let z : tidy_refusal d (length out) ≡ 0 = behind v false (rw (eq-eqb (length out) (length (tidied d)) h)) in
      (rw z, rw z e)

-- ---- the number of the returned type

returns-void : (d : List ℕ) → return_in d ≡ 255 → (call_of d).returns ≡ void
unfolding call_of returned_by is_void
returns-void d e = rw (eq-eqb (return_in d) 255 e)

returns-type : (d : List ℕ) → (return_in d ≡ 255 → ⊥) → (call_of d).returns ≡ returned (ty_at d (return_in d))
unfolding call_of returned_by is_void
returns-type d h = rw (ne_eqb (return_in d) 255 h)

-- the number of the returned type
module _ (d new old : List ℕ) (n : ℕ) (all : AllNumbered d new old n) where
  pub return_void : (r : ℕ) → r ≡ return_in d → r ≡ 255 → 255 ≡ return_number (table_of (call_of d)) (call_of d).returns
  return_void r e z = sym (ap (return_number (table_of (call_of d))) (returns-void d (sym e ∙ z)))

  pub return_type : (r v : ℕ) → r ≡ return_in d → (r ≡ 255 → ⊥) → v ≡ get_or new r 0 → v ≡ return_number (table_of (call_of d)) (call_of d).returns
  return_type r v e z q =
      let h : return_in d ≡ 255 → ⊥ = λ w. z (e ∙ w) in
      q ∙ ap (λ (x : ℕ). get_or new x 0) e ∙ number_at d new old n all (return_in d) (return_low d all.numbers.right h) (all.returns h) ∙ sym (ap (return_number (table_of (call_of d))) (returns-type d h))

  pub return_small : (r : ℕ) → r ≡ return_in d → (r ≡ 255 → ⊥) → r < 64
  return_small r e z = omega (arith, e, return_low d all.numbers.right (λ w. z (e ∙ w)), write_low d new old n all)

-- ---- what can be tidied

pub tidiable-length : (d : List ℕ) → Tidiable d ↔ (length_refusal d ≡ 0)
tidiable-length d = (λ t. no_twenty_nine d t.accepted t.room, λ e. record { accepted = length-accepted d e; room = length-few d e })

pub tidy-accepts : (d out : List ℕ) → Tidiable d → length out ≡ length (tidied d) → tidy_refusal d (length out) ≡ 0
unfolding other_length
tidy-accepts d out t e = behind d out (no_twenty_nine d t.accepted t.room) false (rw (eq-eqb (length out) (length (tidied d)) e))

pub accepts-tidiable : (d : List ℕ) (room : ℕ) → tidy_refusal d room ≡ 0 → Tidiable d
unfolding tidy_refusal length_refusal
accepts-tidiable d room e =
    let z : length_refusal d ≡ 0 = (first-both (length_order d) (rule 11 (other_length d room) ∷ []) (length-positive d) e).0 in
    record { accepted = length-accepted d z; room = length-few d z }
