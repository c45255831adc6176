-- The verdict on a description of the 386 kind: which number, from what the code looks at, and what an accepted one is sure of. Assumes nothing.
use mathlib.Core.Path.{◌≡◌, ◌∙◌}
use mathlib.Core.Bool.{Bool, true, false, cond}
use mathlib.Core.List.{List, [], ◌∷◌}
use Prim.Native.Nat.{ℕ, ◌≤◌, ◌<◌}
use borrow.Author.Tests.{lt-ltb, le-ltb}
use Rattle.form.specs.Order.{rule}
use Rattle.form.proofs.Order.{first-before, first-behind, first-both}
use Rattle.intel386.specs.Arguments.{area_of}
use Rattle.intel386.specs.Verdict.{wide_area, uses_order, uses_refusal, verdict}
use Rattle.old_layout.proofs.Uses.{uses-positive}

module _ (d : List ℕ) where
  pub verdict-uses : (uses_refusal d ≡ 0 → ⊥) → verdict d ≡ uses_refusal d
  unfolding verdict uses_refusal
  verdict-uses h = first-before (uses_order d) (rule 10 (wide_area d) ∷ []) h

  behind : uses_refusal d ≡ 0 → (b : Bool) → wide_area d ≡ b → verdict d ≡ cond b 10 0
  unfolding verdict uses_refusal
  behind right b e = first-behind (uses_order d) (rule 10 (wide_area d) ∷ []) (uses-positive d) right ∙ rw e

  pub ten : uses_refusal d ≡ 0 → 16384 < area_of d → verdict d ≡ 10
  unfolding wide_area
  ten right l = behind right true (lt-ltb 16384 (area_of d) l)

  pub no_ten : uses_refusal d ≡ 0 → area_of d ≤ 16384 → verdict d ≡ 0
  unfolding wide_area
  no_ten right l = behind right false (le-ltb 16384 (area_of d) l)

  pub accepted-uses : verdict d ≡ 0 → uses_refusal d ≡ 0
  unfolding verdict uses_refusal
  accepted-uses h = (first-both (uses_order d) (rule 10 (wide_area d) ∷ []) (uses-positive d) h).0
