-- The lists of a plan, written one behind the other. Assumes nothing.
use mathlib.Core.Path.{◌≡◌, refl, sym, ap, ap₂, ◌∙◌}
use mathlib.Core.Logic.{◌≢◌}
use mathlib.Core.Bool.{Bool, true, false, cond, not}
use mathlib.Core.List.{List, [], ◌∷◌, ◌++◌}
use Prim.Native.Nat.{ℕ, suc, ◌+◌, ◌*◌, ◌-◌, ◌≤◌, ◌<◌}
use native.Mathlib.Numerals.{add-one}
use native.Mathlib.Omega.{arith}
use borrow.Author.Tests.{ne_eqb}
use lib.Dec.{eqb}
use lib.ListN.{length, get_or, set, length-append}
use Rattle.addresses.specs.Addresses.{run, scatter, Absent}
use Rattle.addresses.proofs.Scatter.{scatter-append, length-scatter}
use Rattle.addresses.proofs.Runs.{length_run, run-append, all-run}
use Rattle.plans.specs.Moves.{Move}
use Rattle.plans.specs.Plans.{triples}
use Rattle.plans.specs.Cuts.{select, is_long, low, high, halved, eights, others, fours, parts, twos, threes}
use Rattle.plans.proofs.Orders.{scatter-comm}
use Rattle.plans.proofs.Steps.{triple, triples_step, triples_none, move-room, move-rest}
use Rattle.planning.specs.Planning.{overwritten}
use Rattle.planning.specs.declared.lists.Kind.{Kind}
use Rattle.planning.specs.declared.lists.Kind.TheVariants.{Eights, Fours, Parts}
use Rattle.planning.specs.Joining.{move, numbers_of, all_of}
use Rattle.planning.specs.Asks.{AskMove, AskMoves}

-- ---- numbers written over others

pub length_over : (l : List ℕ) (i : ℕ) (xs : List ℕ) → length (overwritten l i xs) ≡ length l
length_over l i xs = length-scatter (run i (length xs)) l xs

pub over-append : (l : List ℕ) (i : ℕ) (xs ys : List ℕ) → overwritten (overwritten l i xs) (i + length xs) ys ≡ overwritten l i (xs ++ ys)
over-append l i xs ys =
    sym (ap (λ (n : ℕ). scatter l (run i n) (xs ++ ys)) (length-append xs ys)
    ∙ ap (λ (ps : List ℕ). scatter l ps (xs ++ ys)) (run-append i (length xs) (length ys))
    ∙ scatter-append (run i (length xs)) (run (i + length xs) (length ys)) l xs ys (length_run i (length xs)))

pub over-two : (l : List ℕ) (i a b : ℕ) → set (set l i a) (i + 1) b ≡ overwritten l i (a ∷ b ∷ [])
over-two l i a b = rw add-one

pub over-three : (l : List ℕ) (i a b c : ℕ) → set (set (set l i a) (i + 1) b) (i + 2) c ≡ overwritten l i (a ∷ b ∷ c ∷ [])
over-three l i a b c =
    let p : i + 1 ≡ suc i = omega arith in
    let q : i + 2 ≡ suc (suc i) = omega arith in
    rw (p, q)

-- what is written before and what behind may change their order
pub over-comm : (l : List ℕ) (i j : ℕ) (xs ys : List ℕ) → i + length xs ≤ j → overwritten (overwritten l j ys) i xs ≡ overwritten (overwritten l i xs) j ys
over-comm l i j xs ys h =
    scatter-comm (run j (length ys)) (run i (length xs)) l ys xs
    (all-run {P = λ p. Absent p (run i (length xs))} j (length ys) (λ k a b. all-run {P = λ q. k ≢ q} i (length xs) (λ m c e z. omega arith)))

-- ---- the numbers of one move

module _ (s t b : ℕ) where
  pub eights-eight : b ≡ 8 → twos (eights (halved (move s t b ∷ []))) ≡ s ∷ t ∷ []
  eights-eight e = rw e

  pub eights-sixteen : b ≡ 16 → twos (eights (halved (move s t b ∷ []))) ≡ s ∷ t ∷ (s + 8) ∷ (t + 8) ∷ []
  eights-sixteen e = rw e

  pub eights-none : b ≢ 8 → b ≢ 16 → twos (eights (halved (move s t b ∷ []))) ≡ []
  eights-none n m = rw (ne_eqb b 16 m, ne_eqb b 8 n)

  pub fours-four : b ≡ 4 → twos (fours (halved (move s t b ∷ []))) ≡ s ∷ t ∷ []
  fours-four e = rw e

  pub fours-none : b ≢ 4 → twos (fours (halved (move s t b ∷ []))) ≡ []
  fours-none n = by (eqb b 16) (eqb b 8) refl refl
    where
      by : (x y : Bool) → eqb b 16 ≡ x → eqb b 8 ≡ y → twos (fours (halved (move s t b ∷ []))) ≡ []
      by true y e f = rw e
      by false true e f = rw (e, f)
      by false false e f = rw (e, f, ne_eqb b 4 n)

  pub parts-eight : b ≡ 8 → threes (parts (halved (move s t b ∷ []))) ≡ []
  parts-eight e = rw e

  pub parts-sixteen : b ≡ 16 → threes (parts (halved (move s t b ∷ []))) ≡ []
  parts-sixteen e = rw e

  pub parts-four : b ≡ 4 → threes (parts (halved (move s t b ∷ []))) ≡ []
  parts-four e = rw e

  pub parts-one : b ≢ 8 → b ≢ 16 → b ≢ 4 → threes (parts (halved (move s t b ∷ []))) ≡ s ∷ t ∷ b ∷ []
  parts-one n m k = rw (ne_eqb b 16 m, ne_eqb b 8 n, ne_eqb b 4 k)

  pub kind-eights : (kind : Kind) → kind ≡ Eights → numbers_of kind (move s t b) ≡ twos (eights (halved (move s t b ∷ [])))
  kind-eights kind e = ap (λ (k : Kind). numbers_of k (move s t b)) e

  pub kind-fours : (kind : Kind) → kind ≡ Fours → numbers_of kind (move s t b) ≡ twos (fours (halved (move s t b ∷ [])))
  kind-fours kind e = ap (λ (k : Kind). numbers_of k (move s t b)) e

  pub kind-parts : (kind : Kind) → kind ≡ Parts → numbers_of kind (move s t b) ≡ threes (parts (halved (move s t b ∷ [])))
  kind-parts kind e = ap (λ (k : Kind). numbers_of k (move s t b)) e

-- what was written, and where the next number goes, by which numbers these are
pub wrote_as : (l x xs ys : List ℕ) (i r : ℕ) → ys ≡ xs → (x ≡ overwritten l i xs) × (r ≡ i + length xs) → (x ≡ overwritten l i ys) × (r ≡ i + length ys)
wrote_as l x xs ys i r e h = rw e h

pub wrote_none : (l ys : List ℕ) (i : ℕ) → ys ≡ [] → (l ≡ overwritten l i ys) × (i ≡ i + length ys)
wrote_none l ys i e = rw e (refl, omega arith)

pub wrote_both : (l x y xs ys zs : List ℕ) (i j r : ℕ) → zs ≡ xs ++ ys → x ≡ overwritten l i xs → j ≡ i + length xs → y ≡ overwritten x j ys → r ≡ j + length ys
    → (y ≡ overwritten l i zs) × (r ≡ i + length zs)
wrote_both l x y xs ys zs i j r e p q f g =
    rw e (f ∙ ap₂ (λ (m : List ℕ) (k : ℕ). overwritten m k ys) p q ∙ over-append l i xs ys, omega (arith, g, q, length-append xs ys))

pub room_as : (xs ys : List ℕ) (i n : ℕ) → ys ≡ xs → i + length ys ≤ n → i + length xs ≤ n
room_as xs ys i n e h = rw (← e) h

-- ---- all moves of a kind

select-append : (f : Move → Bool) (ms ns : List Move) → select f (ms ++ ns) ≡ select f ms ++ select f ns
select-append f [] ns = refl
select-append f (m ∷ ms) ns = by (f m) (select-append f ms ns)
  where
    by : (b : Bool) → select f (ms ++ ns) ≡ select f ms ++ select f ns → cond b (m ∷ select f (ms ++ ns)) (select f (ms ++ ns)) ≡ cond b (m ∷ select f ms) (select f ms) ++ select f ns
    by true e = ap (λ (l : List Move). m ∷ l) e
    by false e = e

halved-cons : (m : Move) (ms : List Move) → halved (m ∷ ms) ≡ halved (m ∷ []) ++ halved ms
halved-cons m ms = by (is_long 16 m)
  where
    by : (b : Bool) → cond b (low m ∷ high m ∷ halved ms) (m ∷ halved ms) ≡ cond b (low m ∷ high m ∷ []) (m ∷ []) ++ halved ms
    by true = refl
    by false = refl

twos-append : (ms ns : List Move) → twos (ms ++ ns) ≡ twos ms ++ twos ns
twos-append [] ns = refl
twos-append (m ∷ ms) ns = ap (λ (l : List ℕ). m.source ∷ m.target ∷ l) (twos-append ms ns)

threes-append : (ms ns : List Move) → threes (ms ++ ns) ≡ threes ms ++ threes ns
threes-append [] ns = refl
threes-append (m ∷ ms) ns = ap (λ (l : List ℕ). m.source ∷ m.target ∷ m.count ∷ l) (threes-append ms ns)

pub all-eights : (ms : List Move) → all_of Eights ms ≡ twos (eights (halved ms))
all-eights [] = refl
all-eights (m ∷ ms) =
    ap (λ (l : List ℕ). twos (eights (halved (m ∷ []))) ++ l) (all-eights ms)
    ∙ sym (ap (λ (l : List Move). twos (eights l)) (halved-cons m ms)
    ∙ ap twos (select-append (is_long 8) (halved (m ∷ [])) (halved ms)) ∙ twos-append (eights (halved (m ∷ []))) (eights (halved ms)))

others-append : (ms ns : List Move) → others (ms ++ ns) ≡ others ms ++ others ns
others-append ms ns = select-append (λ m. not (is_long 8 m)) ms ns

pub all-fours : (ms : List Move) → all_of Fours ms ≡ twos (fours (halved ms))
all-fours [] = refl
all-fours (m ∷ ms) =
    ap (λ (l : List ℕ). twos (fours (halved (m ∷ []))) ++ l) (all-fours ms)
    ∙ sym (ap (λ (l : List Move). twos (fours l)) (halved-cons m ms)
    ∙ ap (λ (l : List Move). twos (select (is_long 4) l)) (others-append (halved (m ∷ [])) (halved ms))
    ∙ ap twos (select-append (is_long 4) (others (halved (m ∷ []))) (others (halved ms))) ∙ twos-append (fours (halved (m ∷ []))) (fours (halved ms)))

pub all-parts : (ms : List Move) → all_of Parts ms ≡ threes (parts (halved ms))
all-parts [] = refl
all-parts (m ∷ ms) =
    ap (λ (l : List ℕ). threes (parts (halved (m ∷ []))) ++ l) (all-parts ms)
    ∙ sym (ap (λ (l : List Move). threes (parts l)) (halved-cons m ms)
    ∙ ap (λ (l : List Move). threes (select (λ n. not (is_long 4 n)) l)) (others-append (halved (m ∷ [])) (halved ms))
    ∙ ap threes (select-append (λ n. not (is_long 4 n)) (others (halved (m ∷ []))) (others (halved ms))) ∙ threes-append (parts (halved (m ∷ []))) (parts (halved ms)))

-- ---- the loop over them

module _ (M : List ℕ) (kind : Kind) (list : List ℕ) (begin count : ℕ) where
  abbrev pub the_list : List ℕ
  the_list = all_of kind (triples M 0 count)

  pub record Writing (plan : List ℕ) (at i left : ℕ) : Type 0 where
    pub same : overwritten plan at (all_of kind (triples M i left)) ≡ overwritten list begin the_list
    pub ends : at + length (all_of kind (triples M i left)) ≡ begin + length the_list
    pub there : i + 3 * left ≤ length M
    pub asks : AskMoves (triples M i left)
    pub long : length plan ≡ length list

  pub writing-first : 3 * count ≤ length M → AskMoves (triples M 0 count) → Writing list begin 0 count
  writing-first l a = record { same = refl; ends = refl; there = omega arith; asks = a; long = refl }

  module _ (room : begin + length the_list ≤ length list) (plan : List ℕ) (at i left : ℕ) (some : 0 < left) (t : Writing plan at i left) (s k b : ℕ)
      (p : s ≡ get_or M i 0) (q : k ≡ get_or M (i + 1) 0) (r : b ≡ get_or M (i + 2) 0) where
    is_move : triple M i ≡ move s k b
    is_move = rw (p, q, r)

    step : triples M i left ≡ move s k b ∷ triples M (i + 3) (left - 1)
    step = triples_step M i left some ∙ ap (λ (m : Move). m ∷ triples M (i + 3) (left - 1)) is_move

    parts_are : all_of kind (triples M i left) ≡ numbers_of kind (move s k b) ++ all_of kind (triples M (i + 3) (left - 1))
    parts_are = ap (all_of kind) step

    counts : length (all_of kind (triples M i left)) ≡ length (numbers_of kind (move s k b)) + length (all_of kind (triples M (i + 3) (left - 1)))
    counts = ap (λ (l : List ℕ). length l) parts_are ∙ length-append (numbers_of kind (move s k b)) (all_of kind (triples M (i + 3) (left - 1)))

    pub writing-room : at + length (numbers_of kind (move s k b)) ≤ length plan
    writing-room = omega (arith, t.ends, counts, t.long)

    pub writing-asks : AskMove (move s k b)
    writing-asks =
        let m = move-room 18432 16688 (triples M i left) (move s k b) (triples M (i + 3) (left - 1)) step t.asks in
        record { source = m.1; target = m.0 }

    pub writing-next : (x : List ℕ) (e : ℕ) → x ≡ overwritten plan at (numbers_of kind (move s k b)) → e ≡ at + length (numbers_of kind (move s k b)) → Writing x e (i + 3) (left - 1)
    writing-next x e f g = record {
      same =
          ap₂ (λ (l : List ℕ) (n : ℕ). overwritten l n (all_of kind (triples M (i + 3) (left - 1)))) f g
          ∙ over-append plan at (numbers_of kind (move s k b)) (all_of kind (triples M (i + 3) (left - 1)))
          ∙ sym (ap (overwritten plan at) parts_are)
          ∙ t.same;
      ends = omega (arith, g, t.ends, counts);
      there = omega (arith, t.there);
      asks = move-rest 18432 16688 (triples M i left) (move s k b) (triples M (i + 3) (left - 1)) step t.asks 16688 refl;
      long = ap (λ (l : List ℕ). length l) f ∙ length_over plan at (numbers_of kind (move s k b)) ∙ t.long;
    }

  pub writing-last : (plan : List ℕ) (at i left : ℕ) → left ≤ 0 → Writing plan at i left → (plan ≡ overwritten list begin the_list) × (at ≡ begin + length the_list)
  writing-last plan at i left l t =
      let e : all_of kind (triples M i left) ≡ [] = ap (all_of kind) (triples_none M i left l) in
      (sym (ap (overwritten plan at) e) ∙ t.same, omega (arith, ap (λ (x : List ℕ). length x) e, t.ends))

  pub writing-as : (plan : List ℕ) (at i left j rest : ℕ) → j ≡ i → rest ≡ left → Writing plan at i left → Writing plan at j rest
  writing-as plan at i left j rest e f t = rw (e, f) t
