-- What planning answers and leaves, from what it calls. Assumes nothing.
use Rattle.std.specs.Prelude.{Err, Ok, Result}
use mathlib.Core.Path.{◌≡◌, refl, sym, ap, ◌∙◌}
use mathlib.Core.Bool.{Bool, true, false, cond}
use mathlib.Core.List.{List, [], ◌∷◌}
use Prim.Native.Nat.{ℕ, ◌≤◌, ◌<◌}
use native.Mathlib.Omega.{arith}
use borrow.Author.Tests.{eq-eqb, ne_eqb, lt-ltb, le-ltb}
use lib.Dec.{ltb}
use lib.ListN.{length}
use Rattle.form.specs.declared.Refusal.{Refusal}
use Rattle.form.specs.Order.{rule}
use Rattle.form.specs.Reading.{refusal_of}
use Rattle.form.proofs.Order.{first-before, first-behind}
use Rattle.types.specs.Wrong.{refusal_for}
use Rattle.types.proofs.Wrong.{no_type}
use Rattle.layout.specs.declared.Layout.{Layout}
use Rattle.layout.specs.Layout.{layout_of, layout_answer}
use Rattle.layout.specs.Verdict.{check_order, verdict}
use Rattle.layout.proofs.Layouts.{laid-accepted, refused-verdict, refused-nonzero}
use Rattle.layout.proofs.Verdict.{check-positive}
use Rattle.plans.specs.Cuts.{plan_of}
use Rattle.planning.specs.Planning.{overwritten, plan_refusal, plan_answer, plan_after}

module _ (d list : List ℕ) where
  abbrev pub PlanEnd : Result ℕ Refusal → List ℕ → Type 0
  PlanEnd x y = (x ≡ plan_answer d (length list)) × (y ≡ plan_after d list)

  plan_refused : (x : Refusal) (n : ℕ) → x ≡ refusal_for d n → plan_refusal d (length list) ≡ n → (n ≡ 0 → ⊥) → PlanEnd (Err x) list
  unfolding plan_answer plan_after
  plan_refused x n e f z =
      let q = ne_eqb (plan_refusal d (length list)) 0 (λ p. z (sym f ∙ p)) in
      (rw q (ap Err (e ∙ ap (refusal_for d) (sym f))), rw q)

  plan_behind : verdict d ≡ 0 → (b : Bool) → ltb (length list) 392 ≡ b → plan_refusal d (length list) ≡ cond b 11 0
  unfolding plan_refusal verdict
  plan_behind a b e = first-behind (check_order d) (rule 11 (ltb (length list) 392) ∷ []) (check-positive d) a ∙ rw e

  -- 1 to 10
  pub plan_laid_not : (x z : Refusal) → layout_answer d ≡ Err z → x ≡ z → PlanEnd (Err x) list
  unfolding plan_refusal verdict
  plan_laid_not x z a e =
      let nonzero = refused-nonzero d z a in
      plan_refused x (verdict d) (e ∙ refused-verdict d z a) (first-before (check_order d) (rule 11 (ltb (length list) 392) ∷ []) nonzero) nonzero

  module _ (l : Layout) (laid : layout_answer d ≡ Ok l) where
    pub laid-right : (verdict d ≡ 0) × (l ≡ layout_of d)
    laid-right = ((laid-accepted d l laid).0, (laid-accepted d l laid).1)

    pub plan_short : (x : Refusal) → x ≡ refusal_of 11 → length list < 392 → PlanEnd (Err x) list
    plan_short x e h = plan_refused x 11 (e ∙ sym (no_type d 11 refl refl)) (plan_behind laid-right.0 true (lt-ltb (length list) 392 h)) (λ z. omega arith)

    pub plan_done : 392 ≤ length list → (r : ℕ) (y : List ℕ) → (y ≡ overwritten list 0 (plan_of d)) × (r ≡ length (plan_of d)) → PlanEnd (Ok r) y
    unfolding plan_answer plan_after
    plan_done h r y e =
        let q = eq-eqb (plan_refusal d (length list)) 0 (plan_behind laid-right.0 false (le-ltb (length list) 392 h)) in
        (rw q (ap Ok e.1), rw q e.0)
