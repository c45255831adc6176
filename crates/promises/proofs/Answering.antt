-- An answer that is made by an order of refusals is as `Answered` says. Assumes nothing.
use mathlib.Core.Path.{◌≡◌, refl, sym, ap, ◌∙◌}
use mathlib.Core.Logic.{◌≢◌}
use mathlib.Core.Bool.{Bool, true, false, cond, ◌&&◌, true≢false}
use mathlib.Core.List.{List, [], ◌∷◌}
use Prim.Native.Nat.{ℕ, zero, suc}
use native.Mathlib.Omega.{arith}
use borrow.Author.Tests.{ne_eqb, ltb-true}
use lib.Dec.{eqb, ltb}
use Rattle.form.specs.Order.{Rule, rule, first, Positive}
use Rattle.promises.specs.Meaning.{Meaning, accepted, refused, number_of, outcome, Answered}
use Rattle.form.proofs.Order.{accepts-exactly, refuses-exactly}

number-outcome : {X : Type 0} (n : ℕ) (v : X) → number_of (outcome n v) ≡ n
number-outcome zero v = refl
number-outcome (suc n) v = refl

outcome-refused : {X : Type 0} (k n : ℕ) (v : X) → n ≢ 0 → k ≡ n → outcome k v ≡ refused n
outcome-refused zero n v h e = absurd (h (sym e))
outcome-refused (suc k) n v h e = ap refused e

outcome-accepted : {X : Type 0} (k : ℕ) (v : X) → k ≡ 0 → outcome k v ≡ accepted v
outcome-accepted zero v e = refl
outcome-accepted (suc k) v e = absurd (omega arith)

-- no number of an order is 0, by computation
abbrev no_zero : List Rule → Bool
no_zero [] = true
no_zero (rule n b ∷ rules) = ltb 0 n && no_zero rules

positive : (rules : List Rule) → no_zero rules ≡ true → Positive rules
positive [] e = tt
positive (rule n b ∷ rules) e = by (ltb 0 n) refl (λ f. positive rules f) e
  where
    by : (c : Bool) → ltb 0 n ≡ c → (no_zero rules ≡ true → Positive rules) → (c && no_zero rules) ≡ true → Positive (rule n b ∷ rules)
    by true l k f = (ltb-true 0 n l, k f)
    by false l k f = absurd (true≢false (sym f))

-- the order decides
pub answered : {X : Type 0} {m : Meaning X} {rules : List Rule} {v : X} → no_zero rules ≡ true → m ≡ outcome (first rules) v → Answered m rules v
answered {rules = rules} {v = v} some e = record {
  refusal = λ n h. (
    λ p. (refuses-exactly rules n h).0 (sym (number-outcome (first rules) v) ∙ ap number_of (sym e ∙ p)),
    λ a. e ∙ outcome-refused (first rules) n v h ((refuses-exactly rules n h).1 a),
  );
  acceptance = (
    λ p. (accepts-exactly rules (positive rules some)).0 (sym (number-outcome (first rules) v) ∙ ap number_of (sym e ∙ p)),
    λ a. e ∙ outcome-accepted (first rules) v ((accepts-exactly rules (positive rules some)).1 a),
  );
}

-- an answer that a number decides: `given` for 0, and else the refusal with that number
pub decided_by : {R X : Type 0} (mean : R → Meaning X) (given : R) (denied : ℕ → R) (v : X) (n : ℕ) → (n ≡ 0 → mean given ≡ accepted v) → ((k : ℕ) → mean (denied k) ≡ refused k)
    → mean (cond (eqb n 0) given (denied n)) ≡ outcome n v
decided_by mean given denied v zero e f = e refl
decided_by mean given denied v (suc n) e f = rw (ne_eqb (suc n) 0 (λ q. absurd (omega (arith, q)))) (f (suc n))

pub decided : {R X : Type 0} (mean : R → Meaning X) (given : R) (denied : ℕ → R) (v : X) → mean given ≡ accepted v → ((n : ℕ) → mean (denied n) ≡ refused n) → (n : ℕ)
    → mean (cond (eqb n 0) given (denied n)) ≡ outcome n v
decided mean given denied v e f n = decided_by mean given denied v n (λ z. e) f

-- the number of such an answer
pub decided_number : {X : Type 0} {m : Meaning X} (n : ℕ) (v : X) → m ≡ outcome n v → number_of m ≡ n
decided_number n v e = ap number_of e ∙ number-outcome n v
