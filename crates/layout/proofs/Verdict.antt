-- The verdict: which of 1 to 10, exactly, and what an accepted description is sure of (A1). Assumes nothing.
use mathlib.Core.Path.{◌≡◌, ◌∙◌}
use mathlib.Core.Bool.{Bool, true, false, cond}
use mathlib.Core.List.{List, [], ◌∷◌}
use mathlib.Core.Logic.{◌↔◌, ◌≢◌}
use Prim.Native.Nat.{ℕ, ◌≤◌, ◌<◌}
use native.Mathlib.Omega.{arith}
use borrow.Author.Tests.{ltb-false, lt-ltb, le-ltb}
use Rattle.form.specs.Order.{rule, NoneHolds, Answers, Positive}
use Rattle.form.proofs.Order.{refuses-exactly, accepts-exactly, first-before, first-behind, first-both, positive-append}
use Rattle.uses.specs.Uses.{uses_order, uses_refusal}
use Rattle.layout.specs.Arguments.{area_of}
use Rattle.layout.specs.Verdict.{wide_area, check_order, verdict}
use Rattle.uses.proofs.Uses.{uses-positive}

pub check-positive : (d : List ℕ) → Positive (check_order d)
check-positive d = positive-append (uses_order d) (rule 10 (wide_area d) ∷ []) (uses-positive d) (omega arith, tt)

-- the answer is n exactly where condition n holds and none before it
pub verdict-exactly : (d : List ℕ) (n : ℕ) → n ≢ 0 → (verdict d ≡ n) ↔ Answers (check_order d) n
unfolding verdict
verdict-exactly d n h = refuses-exactly (check_order d) n h

-- and it is accepted exactly where none holds
pub accepted-exactly : (d : List ℕ) → (verdict d ≡ 0) ↔ NoneHolds (check_order d)
unfolding verdict
accepted-exactly d = accepts-exactly (check_order d) (check-positive d)

-- which number, from what the code looks at
module _ (d : List ℕ) where
  pub verdict-uses : (uses_refusal d ≡ 0 → ⊥) → verdict d ≡ uses_refusal d
  unfolding verdict uses_refusal
  verdict-uses h = first-before (uses_order d) (rule 10 (wide_area d) ∷ []) h

  behind : uses_refusal d ≡ 0 → (b : Bool) → wide_area d ≡ b → verdict d ≡ cond b 10 0
  unfolding verdict uses_refusal
  behind right b e = first-behind (uses_order d) (rule 10 (wide_area d) ∷ []) (uses-positive d) right ∙ rw e

  pub ten : uses_refusal d ≡ 0 → 16384 < area_of d → verdict d ≡ 10
  unfolding wide_area
  ten right l = behind right true (lt-ltb 16384 (area_of d) l)

  pub no_ten : uses_refusal d ≡ 0 → area_of d ≤ 16384 → verdict d ≡ 0
  unfolding wide_area
  no_ten right l = behind right false (le-ltb 16384 (area_of d) l)

  pub accepted-uses : verdict d ≡ 0 → uses_refusal d ≡ 0
  unfolding verdict uses_refusal
  accepted-uses h = (first-both (uses_order d) (rule 10 (wide_area d) ∷ []) (uses-positive d) h).0

  pub accepted-area : verdict d ≡ 0 → area_of d ≤ 16384
  unfolding wide_area
  accepted-area h = ltb-false 16384 (area_of d) ((accepted-exactly d).0 h).1.1.1.1.1.1.1.1.1.0
