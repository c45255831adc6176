-- The lists of a plan, move by move. Assumes nothing.
use mathlib.Core.Path.{◌≡◌, sym, ap, ◌∙◌}
use mathlib.Core.Bool.{true, ◌&&◌, and-eq-true_iff}
use mathlib.Core.List.{List, [], ◌∷◌}
use Prim.Native.Nat.{ℕ, zero, suc, ◌+◌, ◌-◌, ◌≤◌, ◌<◌}
use native.Mathlib.Numerals.{sub-one}
use native.Mathlib.Omega.{arith}
use borrow.Author.Tests.{leb-true}
use lib.Dec.{leb}
use lib.ListN.{get_or}
use Rattle.plans.specs.Moves.{Move, all_fit}
use Rattle.plans.specs.Plans.{pairs, triples}

-- ---- one move of a list

abbrev pub pair : List ℕ → ℕ → ℕ → Move
pair plan w i = record { source = get_or plan i 0; target = get_or plan (i + 1) 0; count = w }

abbrev pub triple : List ℕ → ℕ → Move
triple plan i = record { source = get_or plan i 0; target = get_or plan (i + 1) 0; count = get_or plan (i + 2) 0 }

pub pairs-step : (plan : List ℕ) (w i left : ℕ) → 0 < left → pairs plan w i left ≡ pair plan w i ∷ pairs plan w (i + 2) (left - 1)
pairs-step plan w i zero h = absurd (omega arith)
pairs-step plan w i (suc n) h = rw sub-one

pub triples_step : (plan : List ℕ) (i left : ℕ) → 0 < left → triples plan i left ≡ triple plan i ∷ triples plan (i + 3) (left - 1)
triples_step plan i zero h = absurd (omega arith)
triples_step plan i (suc n) h = rw sub-one

pub pairs-none : (plan : List ℕ) (w i left : ℕ) → left ≤ 0 → pairs plan w i left ≡ []
pairs-none plan w i left h = let e : left ≡ 0 = omega arith in rw e

pub triples_none : (plan : List ℕ) (i left : ℕ) → left ≤ 0 → triples plan i left ≡ []
triples_none plan i left h = let e : left ≡ 0 = omega arith in rw e

module _ (v t : ℕ) (l : List Move) (m : Move) (ms : List Move) (step : l ≡ m ∷ ms) (fits : all_fit v t l ≡ true) where
  both : (leb (m.source + m.count) v && leb (m.target + m.count) t ≡ true) × (all_fit v t ms ≡ true)
  both = (and-eq-true_iff (leb (m.source + m.count) v && leb (m.target + m.count) t) (all_fit v t ms)).0 (sym (ap (all_fit v t) step) ∙ fits)

  pub move-room : (m.target + m.count ≤ t) × (m.source + m.count ≤ v)
  move-room =
      let p = (and-eq-true_iff (leb (m.source + m.count) v) (leb (m.target + m.count) t)).0 both.0 in
      (leb-true (m.target + m.count) t p.1, leb-true (m.source + m.count) v p.0)

  pub move-rest : (t' : ℕ) → t' ≡ t → all_fit v t' ms ≡ true
  move-rest t' e = rw e both.1
