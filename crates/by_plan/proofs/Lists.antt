-- The lists of a plan as numbers of their own: a move off the front of one, and the lists that numbers have. Assumes nothing.
use mathlib.Core.Path.{◌≡◌, refl, sym, ap, ap₂, ◌∙◌}
use mathlib.Core.Bool.{Bool, true, false, ◌&&◌, and-eq-true_iff}
use mathlib.Core.List.{List, [], ◌∷◌, ◌++◌}
use Prim.Native.Nat.{ℕ, zero, suc, ◌+◌, ◌*◌, ◌-◌, ◌≤◌, ◌<◌}
use native.Mathlib.Omega.{arith}
use lib.Dec.{leb}
use lib.ListN.{length, get_or, take, drop}
use lib.Seq.{drop-cons}
use Rattle.plans.specs.Moves.{Move, move_all, turned, turned_all, fits_in, all_fit}
use Rattle.plans.specs.Plans.{pairs, triples, fours_at, parts_at, bools_at, end_of, moves_in, bools_in}
use Rattle.addresses.proofs.Runs.{gather-run}
use Rattle.plans.proofs.Moves.{move_all-append}
use Rattle.by_plan.specs.Lists.{pairs_of, triples_of, turned_if}

-- ---- a move off the front

abbrev pub pair : ℕ → List ℕ → Move
pair w p = record { source = get_or p 0 0; target = get_or p 1 0; count = w }

abbrev pub triple : List ℕ → Move
triple p = record { source = get_or p 0 0; target = get_or p 1 0; count = get_or p 2 0 }

pub pairs_of-step : (w : ℕ) (ns p rest : List ℕ) → ns ≡ p ++ rest → length p ≡ 2 → pairs_of w ns ≡ pair w p ∷ pairs_of w rest
pairs_of-step w ns [] rest e l = absurd (omega arith)
pairs_of-step w ns (s ∷ []) rest e l = absurd (omega arith)
pairs_of-step w ns (s ∷ t ∷ []) rest e l = rw e
pairs_of-step w ns (s ∷ t ∷ u ∷ p) rest e l = absurd (omega arith)

pub triples_of-step : (ns p rest : List ℕ) → ns ≡ p ++ rest → length p ≡ 3 → triples_of ns ≡ triple p ∷ triples_of rest
triples_of-step ns [] rest e l = absurd (omega arith)
triples_of-step ns (s ∷ []) rest e l = absurd (omega arith)
triples_of-step ns (s ∷ t ∷ []) rest e l = absurd (omega arith)
triples_of-step ns (s ∷ t ∷ n ∷ []) rest e l = rw e
triples_of-step ns (s ∷ t ∷ n ∷ m ∷ p) rest e l = absurd (omega arith)

pub pairs_of-none : (w : ℕ) (ns : List ℕ) → length ns < 2 → pairs_of w ns ≡ []
pairs_of-none w [] l = refl
pairs_of-none w (s ∷ []) l = refl
pairs_of-none w (s ∷ t ∷ ns) l = absurd (omega arith)

pub triples_of-none : (ns : List ℕ) → length ns < 3 → triples_of ns ≡ []
triples_of-none [] l = refl
triples_of-none (s ∷ []) l = refl
triples_of-none (s ∷ t ∷ []) l = refl
triples_of-none (s ∷ t ∷ n ∷ ns) l = absurd (omega arith)

-- ---- the numbers from an index on

pub pairs_of-slice : (n w i m : ℕ) (plan : List ℕ) → m ≡ 2 * n → i + m ≤ length plan → pairs_of w (take m (drop i plan)) ≡ pairs plan w i n
pairs_of-slice zero w i m plan e l = rw e
pairs_of-slice (suc n) w i m plan e l =
    let f : m ≡ suc (suc (2 * n)) = omega arith in
    let k : i < length plan = omega arith in
    let j : suc i < length plan = omega arith in
    let one : i + 1 ≡ suc i = omega arith in
    let two : i + 2 ≡ suc (suc i) = omega arith in
    let d : take m (drop i plan) ≡ get_or plan i 0 ∷ get_or plan (i + 1) 0 ∷ take (2 * n) (drop (i + 2) plan) = rw (f, one, two, drop-cons plan i 0 k, drop-cons plan (suc i) 0 j) in
    ap (pairs_of w) d
    ∙ ap (λ (ms : List Move). record { source = get_or plan i 0; target = get_or plan (i + 1) 0; count = w } ∷ ms)
    (pairs_of-slice n w (i + 2) (2 * n) plan refl (omega arith))

pub triples_of-slice : (n i m : ℕ) (plan : List ℕ) → m ≡ 3 * n → i + m ≤ length plan → triples_of (take m (drop i plan)) ≡ triples plan i n
triples_of-slice zero i m plan e l = rw e
triples_of-slice (suc n) i m plan e l =
    let f : m ≡ suc (suc (suc (3 * n))) = omega arith in
    let k : i < length plan = omega arith in
    let j : suc i < length plan = omega arith in
    let h : suc (suc i) < length plan = omega arith in
    let one : i + 1 ≡ suc i = omega arith in
    let two : i + 2 ≡ suc (suc i) = omega arith in
    let three : i + 3 ≡ suc (suc (suc i)) = omega arith in
    let d : take m (drop i plan) ≡ get_or plan i 0 ∷ get_or plan (i + 1) 0 ∷ get_or plan (i + 2) 0 ∷ take (3 * n) (drop (i + 3) plan) =
    rw (f, one, two, three, drop-cons plan i 0 k, drop-cons plan (suc i) 0 j, drop-cons plan (suc (suc i)) 0 h) in
    ap triples_of d
    ∙ ap (λ (ms : List Move). record { source = get_or plan i 0; target = get_or plan (i + 1) 0; count = get_or plan (i + 2) 0 } ∷ ms)
    (triples_of-slice n (i + 3) (3 * n) plan refl (omega arith))

-- ---- the lists that numbers have

abbrev pub between : List ℕ → ℕ → ℕ → List ℕ
between plan i j = take (j - i) (drop i plan)

module _ (plan : List ℕ) (ends : end_of plan ≤ length plan) (f p b e : ℕ) (qf : f ≡ fours_at plan) (qp : p ≡ parts_at plan) (qb : b ≡ bools_at plan) (qe : e ≡ end_of plan) where
  pub are-moves : pairs_of 8 (between plan 16 f) ++ (pairs_of 4 (between plan f p) ++ triples_of (between plan p b)) ≡ moves_in plan
  unfolding moves_in
  are-moves =
      rw (qf, qp, qb)
      (ap₂ ◌++◌ (pairs_of-slice (get_or plan 4 0) 8 16 (fours_at plan - 16) plan (omega arith) (omega arith))
      (ap₂ ◌++◌ (pairs_of-slice (get_or plan 5 0) 4 (fours_at plan) (parts_at plan - fours_at plan) plan (omega arith) (omega arith))
      (triples_of-slice (get_or plan 6 0) (parts_at plan) (bools_at plan - parts_at plan) plan (omega arith) (omega arith))))

  pub are-bools : between plan b e ≡ bools_in plan
  unfolding bools_in
  are-bools =
      let n : end_of plan - bools_at plan ≡ get_or plan 7 0 = omega arith in
      rw (qb, qe, n) (sym (gather-run (get_or plan 7 0) (bools_at plan) plan (omega arith)))

-- ---- all moves judged and made, list by list

and_assoc : (a b c : Bool) → (a && b) && c ≡ a && (b && c)
and_assoc true b c = refl
and_assoc false b c = refl

pub all_fit-append : (v t : ℕ) (ms ns : List Move) → all_fit v t (ms ++ ns) ≡ all_fit v t ms && all_fit v t ns
all_fit-append v t [] ns = refl
all_fit-append v t (m ∷ ms) ns = ap (λ (b : Bool). fits_in v t m && b) (all_fit-append v t ms ns) ∙ sym (and_assoc (fits_in v t m) (all_fit v t ms) (all_fit v t ns))

pub three-fit : (v t : ℕ) (es fs ps : List Move) → all_fit v t (es ++ (fs ++ ps)) ≡ all_fit v t es && (all_fit v t fs && all_fit v t ps)
three-fit v t es fs ps = all_fit-append v t es (fs ++ ps) ∙ ap (λ (b : Bool). all_fit v t es && b) (all_fit-append v t fs ps)

-- ---- turned

turned-append : (ms ns : List Move) → turned_all (ms ++ ns) ≡ turned_all ms ++ turned_all ns
turned-append [] ns = refl
turned-append (m ∷ ms) ns = ap (λ (l : List Move). turned m ∷ l) (turned-append ms ns)

turned_if-append : (b : Bool) (ms ns : List Move) → turned_if b (ms ++ ns) ≡ turned_if b ms ++ turned_if b ns
turned_if-append true ms ns = turned-append ms ns
turned_if-append false ms ns = refl

pub all_fit-turned : (v t : ℕ) (ms : List Move) → all_fit t v (turned_all ms) ≡ all_fit v t ms
all_fit-turned v t [] = refl
all_fit-turned v t (m ∷ ms) = ap₂ ◌&&◌ (and_comm (leb (m.target + m.count) t) (leb (m.source + m.count) v)) (all_fit-turned v t ms)
  where
    and_comm : (a b : Bool) → (a && b) ≡ (b && a)
    and_comm true true = refl
    and_comm true false = refl
    and_comm false true = refl
    and_comm false false = refl

module _ (b : Bool) (es fs ps : List Move) where
  three : turned_if b (es ++ (fs ++ ps)) ≡ turned_if b es ++ (turned_if b fs ++ turned_if b ps)
  three = turned_if-append b es (fs ++ ps) ∙ ap (λ (l : List Move). turned_if b es ++ l) (turned_if-append b fs ps)

  pub three-fits : (v t : ℕ) → all_fit v t (turned_if b (es ++ (fs ++ ps))) ≡ true
      → (all_fit v t (turned_if b es) ≡ true) × ((all_fit v t (turned_if b fs) ≡ true) × (all_fit v t (turned_if b ps) ≡ true))
  three-fits v t h =
      let E = all_fit v t (turned_if b es) in
      let F = all_fit v t (turned_if b fs) in
      let P = all_fit v t (turned_if b ps) in
      let p = (and-eq-true_iff E (F && P)).0 (sym (three-fit v t (turned_if b es) (turned_if b fs) (turned_if b ps)) ∙ sym (ap (all_fit v t) three) ∙ h) in
      (p.0, (and-eq-true_iff F P).0 p.1)

  pub three-moved : (dst src x y z : List ℕ) → x ≡ move_all dst src (turned_if b es) → y ≡ move_all x src (turned_if b fs) → z ≡ move_all y src (turned_if b ps)
      → z ≡ move_all dst src (turned_if b (es ++ (fs ++ ps)))
  three-moved dst src x y z p q r =
      rw three
      (r ∙ ap (λ (l : List ℕ). move_all l src (turned_if b ps)) (q ∙ ap (λ (l : List ℕ). move_all l src (turned_if b fs)) p)
      ∙ sym (move_all-append (turned_if b es) (turned_if b fs ++ turned_if b ps) dst src
      ∙ move_all-append (turned_if b fs) (turned_if b ps) (move_all dst src (turned_if b es)) src))
