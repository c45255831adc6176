-- Moves joined one after another, as numbers in a row. Assumes nothing.
use mathlib.Core.Path.{◌≡◌, refl, sym, ap, ap₂, ◌∙◌}
use mathlib.Core.Logic.{◌≢◌}
use mathlib.Core.Bool.{Bool, true, false, cond, ◌&&◌}
use mathlib.Core.List.{List, [], ◌∷◌, ◌++◌, append_assoc}
use Prim.Native.Nat.{ℕ, zero, suc, ◌+◌, ◌*◌, ◌-◌, ◌≤◌, ◌<◌}
use native.Mathlib.Numerals.{add-one}
use native.Mathlib.Omega.{arith}
use borrow.Author.Tests.{eq-eqb, ne_eqb}
use lib.Dec.{eqb}
use lib.ListN.{length, get_or, set, length-set}
use lib.Seq.{get_or-set_same, get_or-set_other}
use Rattle.plans.specs.Moves.{Move}
use Rattle.plans.specs.Plans.{triples}
use Rattle.plans.specs.Cuts.{adjoin, longer, join_from, joined}
use Rattle.plans.proofs.Steps.{triple}
use Rattle.planning.specs.Joining.{move, join_last, added, added_all, last_goes, goes_on}

-- ---- joining one after another is joining all

added-behind : (pre : List Move) (l m : Move) → added (pre ++ (l ∷ [])) m ≡ pre ++ cond (adjoin l m) (longer l m ∷ []) (l ∷ m ∷ [])
added-behind [] l m = refl
added-behind (k ∷ pre) l m = from k pre
  where
    from : (k : Move) (pre : List Move) → join_last k (pre ++ (l ∷ [])) m ≡ k ∷ (pre ++ cond (adjoin l m) (longer l m ∷ []) (l ∷ m ∷ []))
    from k [] = refl
    from k (j ∷ pre) = ap (λ (r : List Move). k ∷ r) (from j pre)

added-from : (ms pre : List Move) (m : Move) → added_all (pre ++ (m ∷ [])) ms ≡ pre ++ join_from m ms
added-from [] pre m = refl
added-from (n ∷ ns) pre m = ap (λ (l : List Move). added_all l ns) (added-behind pre m n) ∙ by (adjoin m n) (added-from ns pre (longer m n)) (added-from ns (pre ++ (m ∷ [])) n)
  where
    by : (b : Bool) → added_all (pre ++ (longer m n ∷ [])) ns ≡ pre ++ join_from (longer m n) ns → added_all ((pre ++ (m ∷ [])) ++ (n ∷ [])) ns ≡ (pre ++ (m ∷ [])) ++ join_from n ns
        → added_all (pre ++ cond b (longer m n ∷ []) (m ∷ n ∷ [])) ns ≡ pre ++ cond b (join_from (longer m n) ns) (m ∷ join_from n ns)
    by true f g = f
    by false f g =
        ap (λ (l : List Move). added_all l ns) (sym (append_assoc pre (m ∷ []) (n ∷ []))) ∙ g ∙ append_assoc pre (m ∷ []) (join_from n ns)

pub added-joined : (ms : List Move) → added_all [] ms ≡ joined ms
added-joined [] = refl
added-joined (m ∷ ms) = added-from ms [] m

pub added-append : (ms ns ls : List Move) → added_all ls (ms ++ ns) ≡ added_all (added_all ls ms) ns
added-append [] ns ls = refl
added-append (m ∷ ms) ns ls = added-append ms ns (added ls m)

-- ---- numbers in a row

-- a number behind them does not matter
triples-set : (n i p x : ℕ) (l : List ℕ) → i + 3 * n ≤ p → triples (set l p x) i n ≡ triples l i n
triples-set zero i p x l h = refl
triples-set (suc n) i p x l h =
    rw (get_or-set_other l p i x 0 (λ e. omega arith), get_or-set_other l p (i + 1) x 0 (λ e. omega arith), get_or-set_other l p (i + 2) x 0 (λ e. omega arith))
    (ap (λ (r : List Move). triple l i ∷ r) (triples-set n (i + 3) p x l (omega arith)))

triples-last : (n i : ℕ) (l : List ℕ) → triples l i (suc n) ≡ triples l i n ++ (triple l (i + 3 * n) ∷ [])
triples-last zero i l = let e : i + 3 * 0 ≡ i = omega arith in rw e
triples-last (suc n) i l =
    let e : i + 3 + 3 * n ≡ i + 3 * suc n = omega arith in
    ap (λ (r : List Move). triple l i ∷ r) (triples-last n (i + 3) l ∙ ap (λ (k : ℕ). triples l (i + 3) n ++ (triple l k ∷ [])) e)

-- the moves of a count that is not 0: all but the last, and the last
some-moves : (l : List ℕ) (c : ℕ) → 0 < c → triples l 0 c ≡ triples l 0 (c - 1) ++ (triple l (3 * c - 3) ∷ [])
some-moves l zero h = absurd (omega arith)
some-moves l (suc n) h =
    let e : 0 + 3 * n ≡ 3 * suc n - 3 = omega arith in
    let f : n ≡ suc n - 1 = omega arith in
    triples-last n 0 l ∙ ap₂ (λ (a b : ℕ). triples l 0 a ++ (triple l b ∷ [])) f e

goes-behind : (pre : List Move) (l : Move) (s t : ℕ) → goes_on (pre ++ (l ∷ [])) s t ≡ (eqb (l.source + l.count) s && eqb (l.target + l.count) t)
goes-behind [] l s t = refl
goes-behind (k ∷ pre) l s t = from k pre
  where
    from : (k : Move) (pre : List Move) → last_goes k (pre ++ (l ∷ [])) s t ≡ (eqb (l.source + l.count) s && eqb (l.target + l.count) t)
    from k [] = refl
    from k (j ∷ pre) = from j pre

-- ---- whether a move goes on

module _ (l : List ℕ) (c s t : ℕ) where
  pub goes_none : c ≡ 0 → false ≡ goes_on (triples l 0 c) s t
  goes_none e = rw e

  module _ (some : 0 < c) where
    is_last : goes_on (triples l 0 c) s t ≡ (eqb (get_or l (3 * c - 3) 0 + get_or l (3 * c - 3 + 2) 0) s && eqb (get_or l (3 * c - 3 + 1) 0 + get_or l (3 * c - 3 + 2) 0) t)
    is_last = ap (λ (x : List Move). goes_on x s t) (some-moves l c some) ∙ goes-behind (triples l 0 (c - 1)) (triple l (3 * c - 3)) s t

    pub goes-not : get_or l (3 * c - 3) 0 + get_or l (3 * c - 3 + 2) 0 ≢ s → false ≡ goes_on (triples l 0 c) s t
    goes-not n = sym (is_last ∙ rw (ne_eqb (get_or l (3 * c - 3) 0 + get_or l (3 * c - 3 + 2) 0) s n))

    pub goes-if : get_or l (3 * c - 3) 0 + get_or l (3 * c - 3 + 2) 0 ≡ s → eqb (get_or l (3 * c - 3 + 1) 0 + get_or l (3 * c - 3 + 2) 0) t ≡ goes_on (triples l 0 c) s t
    goes-if e = sym (is_last ∙ rw (eq-eqb (get_or l (3 * c - 3) 0 + get_or l (3 * c - 3 + 2) 0) s e))

    pub goes-room : get_or l (3 * c - 3) 0 + get_or l (3 * c - 3 + 2) 0 ≡ s → (0 < c) × (get_or l (3 * c - 1) 0 ≤ s)
    goes-room e =
        let q : 3 * c - 1 ≡ 3 * c - 3 + 2 = omega arith in
        (some, rw q (omega (arith, e)))

-- ---- what joining leaves

module _ (l : List ℕ) (c s t b : ℕ) where
  -- the last one is longer
  pub join_on : 3 * c ≤ length l → 0 < c → goes_on (triples l 0 c) s t ≡ true → (x : ℕ) → x ≡ get_or l (3 * c - 1) 0 + b
      → triples (set l (3 * c - 1) x) 0 c ≡ added (triples l 0 c) (move s t b)
  join_on room some g x e =
      let q : 3 * c - 1 ≡ 3 * c - 3 + 2 = omega arith in
      let goes : adjoin (triple l (3 * c - 3)) (move s t b) ≡ true = sym (is_last l c s t some) ∙ g in
      some-moves (set l (3 * c - 1) x) c some
      ∙ ap₂ (λ (r : List Move) (m : Move). r ++ (m ∷ [])) (triples-set (c - 1) 0 (3 * c - 1) x l (omega arith)) last
      ∙ sym (ap (λ (r : List Move). added r (move s t b)) (some-moves l c some) ∙ added-behind (triples l 0 (c - 1)) (triple l (3 * c - 3)) (move s t b) ∙ rw goes)
    where
      last : triple (set l (3 * c - 1) x) (3 * c - 3) ≡ longer (triple l (3 * c - 3)) (move s t b)
      last =
          let q : 3 * c - 3 + 2 ≡ 3 * c - 1 = omega arith in
          rw (get_or-set_other l (3 * c - 1) (3 * c - 3) x 0 (λ z. omega arith), get_or-set_other l (3 * c - 1) (3 * c - 3 + 1) x 0 (λ z. omega arith), q, get_or-set_same l (3 * c - 1) x 0 (omega arith), e)

  -- a new one behind the last
  pub join_new : 3 * c + 3 ≤ length l → false ≡ goes_on (triples l 0 c) s t → triples (set (set (set l (3 * c) s) (3 * c + 1) t) (3 * c + 2) b) 0 (c + 1) ≡ added (triples l 0 c) (move s t b)
  join_new room g =
      let q : 0 + 3 * c ≡ 3 * c = omega arith in
      ap (triples three 0) (add-one c)
      ∙ triples-last c 0 three
      ∙ ap₂ (λ (r : List Move) (m : Move). r ++ (m ∷ [])) before (ap (triple three) q ∙ here)
      ∙ sym (behind c g)
    where
      three : List ℕ
      three = set (set (set l (3 * c) s) (3 * c + 1) t) (3 * c + 2) b

      before : triples three 0 c ≡ triples l 0 c
      before =
          triples-set c 0 (3 * c + 2) b (set (set l (3 * c) s) (3 * c + 1) t) (omega arith)
          ∙ triples-set c 0 (3 * c + 1) t (set l (3 * c) s) (omega arith)
          ∙ triples-set c 0 (3 * c) s l (omega arith)

      here : triple three (3 * c) ≡ move s t b
      here =
          let two = set (set l (3 * c) s) (3 * c + 1) t in
          rw (
            get_or-set_other two (3 * c + 2) (3 * c) b 0 (λ z. omega arith),
            get_or-set_other two (3 * c + 2) (3 * c + 1) b 0 (λ z. omega arith),
            get_or-set_same two (3 * c + 2) b 0 (rw (length-set, length-set) (omega arith)),
            get_or-set_other (set l (3 * c) s) (3 * c + 1) (3 * c) t 0 (λ z. omega arith),
            get_or-set_same (set l (3 * c) s) (3 * c + 1) t 0 (rw length-set (omega arith)),
            get_or-set_same l (3 * c) s 0 (omega arith),
          )

      behind : (n : ℕ) → false ≡ goes_on (triples l 0 n) s t → added (triples l 0 n) (move s t b) ≡ triples l 0 n ++ (move s t b ∷ [])
      behind zero h = refl
      behind (suc n) h =
          let goes : adjoin (triple l (0 + 3 * n)) (move s t b) ≡ false = sym (h ∙ ap (λ (x : List Move). goes_on x s t) (triples-last n 0 l) ∙ goes-behind (triples l 0 n) (triple l (0 + 3 * n)) s t) in
          ap (λ (r : List Move). added r (move s t b)) (triples-last n 0 l)
          ∙ added-behind (triples l 0 n) (triple l (0 + 3 * n)) (move s t b)
          ∙ ap (λ (z : Bool). triples l 0 n ++ cond z (longer (triple l (0 + 3 * n)) (move s t b) ∷ []) (triple l (0 + 3 * n) ∷ move s t b ∷ [])) goes
          ∙ sym (ap (λ (r : List Move). r ++ (move s t b ∷ [])) (triples-last n 0 l) ∙ append_assoc (triples l 0 n) (triple l (0 + 3 * n) ∷ []) (move s t b ∷ []))
