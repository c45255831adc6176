-- The moves of one argument and of all of them, as the loop makes them. Assumes nothing.
use mathlib.Core.Path.{◌≡◌, refl, sym, ap, ap₂, ◌∙◌}
use mathlib.Core.List.{List, [], ◌∷◌, append-nil}
use Prim.Native.Nat.{ℕ, ◌+◌, ◌*◌, ◌-◌, ◌≤◌, ◌<◌, min}
use native.Mathlib.Nat.{sub-zero}
use native.Mathlib.Omega.{arith}
use lib.ListN.{length}
use Rattle.description.specs.Description.{arguments_in}
use Rattle.places.specs.declared.Register.{Register}
use Rattle.places.specs.declared.Register.TheVariants.{General, Vector, Upper, Wide}
use Rattle.places.specs.declared.Place.{Place as Record}
use Rattle.places.specs.declared.Place.TheVariants.{One, Two, Stack}
use Rattle.places.specs.declared.Used.{Used}
use Rattle.places.specs.Shapes.{Shape}
use Rattle.places.specs.Places.{eights as eightbytes, Place, place, next}
use Rattle.places.specs.Images.{address_of}
use Rattle.places.specs.Recorded.{place_of}
use Rattle.images.specs.Asks.{Known, Single, Alone, Inside}
use Rattle.layout.specs.Arguments.{hidden, shape_at, shapes_from, shapes, used_first, area_of}
use Rattle.layout.specs.Layout.{values_of}
use Rattle.layout.specs.Placements.{Step, laying_fresh, step_at}
use Rattle.layout.specs.Verdict.{verdict}
use Rattle.layout.specs.declared.placements.Laying.{Laying}
use Rattle.layout.proofs.Arguments.{shapes-cons, shapes-end}
use Rattle.layout.proofs.Bounds.{arguments-few}
use Rattle.layout.proofs.Verdict.{accepted-area}
use Rattle.moving.specs.Asks.{Lent}
use Rattle.moving.proofs.Turns.{right, Turn, turn_first, turn_next, turn_move, step-size, step-at, step-used, step-values, step-place}
use Rattle.plans.specs.Moves.{Move}
use Rattle.plans.specs.Plans.{triples}
use Rattle.plans.specs.Cuts.{spans_of, spans, pieces, cut_one, cut, joined}
use Rattle.plans.proofs.Theorems.{values-few}
use Rattle.planning.specs.Joining.{move, added, added_all}
use Rattle.planning.specs.Asks.{AskCut, AskAlone, AskMove}
use Rattle.planning.proofs.Joins.{added-joined, added-append}

-- ---- one register

alone-known : (a : Register) (n : ℕ) → Alone a n → Known a
alone-known (General m) n h = h.0
alone-known (Vector m) n h = h.0
alone-known (Upper m) n h = h.0
alone-known (Wide m) n h = h.0

pub ask-known : (a : Register) (n k : ℕ) → AskAlone a n k → Known a
ask-known a n k h = alone-known a n h.alone

single-known : (a : Register) → Single a → Known a
single-known (General m) h = h
single-known (Vector m) h = h
single-known (Upper m) h = h
single-known (Wide m) h = absurd h

known-low : (a : Register) → Known a → address_of a ≤ 168
known-low (General m) h = omega arith
known-low (Vector m) h = omega arith
known-low (Upper m) h = omega arith
known-low (Wide m) h = omega arith

short-piece : (k b n : ℕ) → n ≤ 8 → move k b (min n 8) ∷ [] ≡ move k b n ∷ []
short-piece k b n l = let e : min n 8 ≡ n = omega arith in rw e

pub alone-short : (a : Register) (k n : ℕ) → Alone a n → n ≤ 8 → pieces k (spans_of a) n ≡ move k (address_of a) n ∷ []
alone-short (General m) k n h l = short-piece k (8 * m.0) n l
alone-short (Vector m) k n h l = short-piece k (48 + 16 * m.0) n l
alone-short (Upper m) k n h l = short-piece k (56 + 16 * m.0) n l
alone-short (Wide m) k n h l = absurd (omega (arith, h.1.0))

pub alone-wide : (a : Register) (k n : ℕ) → Alone a n → 8 < n → pieces k (spans_of a) n ≡ move k (address_of a) 16 ∷ move (k + 16) (address_of a + 128) (n - 16) ∷ []
alone-wide (General m) k n h l = absurd (omega (arith, h.1))
alone-wide (Vector m) k n h l = absurd (omega (arith, h.1))
alone-wide (Upper m) k n h l = absurd (omega (arith, h.1))
alone-wide (Wide m) k n h l =
    let e : min n 16 ≡ 16 = omega (arith, h.1.0) in
    let f : min (n - 16) 16 ≡ n - 16 = omega (arith, h.1.1) in
    let g : 176 + 16 * m.0 ≡ 48 + 16 * m.0 + 128 = omega arith in
    rw (e, f, g)

pub ask-short : (a : Register) (k n b : ℕ) → AskAlone a n k → b ≡ address_of a → n ≤ 8 → AskMove (move k b n)
ask-short a k n b h e l = record { source = h.there; target = omega (arith, e, known-low a (alone-known a n h.alone)) }

wide-size : (a : Register) (n : ℕ) → Alone a n → 8 < n → (16 ≤ n) × (n ≤ 32)
wide-size (General m) n h l = absurd (omega (arith, h.1))
wide-size (Vector m) n h l = absurd (omega (arith, h.1))
wide-size (Upper m) n h l = absurd (omega (arith, h.1))
wide-size (Wide m) n h l = h.1

pub ask-wide : (a : Register) (k n b : ℕ) → AskAlone a n k → b ≡ address_of a → 8 < n → AskMove (move k b 16) × (AskMove (move (k + 16) (b + 128) (n - 16)) × (16 ≤ n))
ask-wide a k n b h e l =
    let w = wide-size a n h.alone l in
    let low = known-low a (alone-known a n h.alone) in
    let there = h.there in
    (record { source = omega (arith, w.0); target = omega (arith, e) }, (record { source = omega (arith, w.0); target = omega (arith, e, w.1) }, w.0))

pub short-done : (a : Register) (k n b : ℕ) → AskAlone a n k → b ≡ address_of a → n ≤ 8 → (ls x : List Move) → x ≡ added ls (move k b n) → x ≡ added_all ls (pieces k (spans_of a) n)
short-done a k n b h e l ls x q = q ∙ ap (λ (c : ℕ). added ls (move k c n)) e ∙ sym (ap (added_all ls) (alone-short a k n h.alone l))

pub wide-done : (a : Register) (k n b : ℕ) → AskAlone a n k → b ≡ address_of a → 8 < n → (ls x y : List Move) → x ≡ added ls (move k b 16) → y ≡ added x (move (k + 16) (b + 128) (n - 16))
    → y ≡ added_all ls (pieces k (spans_of a) n)
wide-done a k n b h e l ls x y p q =
    q ∙ ap (λ (z : List Move). added z (move (k + 16) (b + 128) (n - 16))) p
    ∙ ap (λ (c : ℕ). added (added ls (move k c 16)) (move (k + 16) (c + 128) (n - 16))) e
    ∙ sym (ap (added_all ls) (alone-wide a k n h.alone l))

-- ---- one argument

module _ (p : Record) (n k : ℕ) (h : AskCut p n k) where
  pub cut-one : (a : Register) → p ≡ One a → AskAlone a n k
  unfolding Inside
  cut-one a e = record { alone = rw e at h.inside; there = h.there }

  pub cut-two : (a b : Register) → p ≡ Two a b → Single a × (Single b × ((8 ≤ n) × (n ≤ 16)))
  unfolding Inside
  cut-two a b e = rw e at h.inside

  pub cut-stack : (o : ℕ) → p ≡ Stack (record { 0 = o }) → AskMove (move k (304 + o) n)
  unfolding Inside
  cut-stack o e = let i : o + n ≤ 16384 = (rw e at h.inside) in record { source = h.there; target = omega arith }

module _ (ls : List Move) (k n : ℕ) where
  pub one-done : (a : Register) (p : Record) → p ≡ One a → (x : List Move) → x ≡ added_all ls (pieces k (spans_of a) n) → x ≡ added_all ls (cut_one k (place_of p) n)
  one-done a p e x q = rw e (q ∙ ap (λ (l : List _). added_all ls (pieces k l n)) (sym (append-nil (spans_of a))))

two-pieces : (a b : Register) (k n : ℕ) → Single a → Single b → 8 ≤ n → n ≤ 16 → pieces k (spans (a ∷ b ∷ [])) n ≡ move k (address_of a) 8 ∷ move (k + 8) (address_of b) (n - 8) ∷ []
two-pieces a b k n g h l m = from a g
  where
    p : min n 8 ≡ 8
    p = omega arith

    q : min (n - 8) 8 ≡ n - 8
    q = omega arith

    behind : (b : Register) → Single b → pieces (k + 8) (spans (b ∷ [])) (n - 8) ≡ move (k + 8) (address_of b) (n - 8) ∷ []
    behind (General m) h = rw q
    behind (Vector m) h = rw q
    behind (Upper m) h = rw q
    behind (Wide m) h = absurd h

    from : (a : Register) → Single a → pieces k (spans (a ∷ b ∷ [])) n ≡ move k (address_of a) 8 ∷ move (k + 8) (address_of b) (n - 8) ∷ []
    from (General m) g = ap₂ (λ (c : ℕ) (r : List Move). move k (8 * m.0) c ∷ r) p (behind b h)
    from (Vector m) g = ap₂ (λ (c : ℕ) (r : List Move). move k (48 + 16 * m.0) c ∷ r) p (behind b h)
    from (Upper m) g = ap₂ (λ (c : ℕ) (r : List Move). move k (56 + 16 * m.0) c ∷ r) p (behind b h)
    from (Wide m) g = absurd g

module _ (p : Record) (n k : ℕ) (h : AskCut p n k) (a b : Register) (is : p ≡ Two a b) where
  there : k + n ≤ 18432
  there = h.there

  s : Single a × (Single b × ((8 ≤ n) × (n ≤ 16)))
  s = cut-two p n k h a b is

  pub two-known : Known a × Known b
  two-known = (single-known a s.0, single-known b s.1.0)

  pub two-low : (c : ℕ) → c ≡ address_of a → AskMove (move k c 8)
  two-low c q = let l = known-low a two-known.0 in record { source = omega (arith, there, s.1.1.0); target = omega (arith, q) }

  pub two-high : (e : ℕ) → e ≡ address_of b → AskMove (move (k + 8) e (n - 8))
  two-high e q = let m = known-low b two-known.1 in record { source = omega (arith, there, s.1.1.0); target = omega (arith, q, s.1.1.1) }

  pub two-done : (ls : List Move) (c e : ℕ) → c ≡ address_of a → e ≡ address_of b → (x y : List Move) → x ≡ added ls (move k c 8) → y ≡ added x (move (k + 8) e (n - 8))
      → y ≡ added_all ls (cut_one k (place_of p) n)
  two-done ls c e f g x y q r =
      rw is
      (r ∙ ap (λ (z : List Move). added z (move (k + 8) e (n - 8))) q
      ∙ ap₂ (λ (v w : ℕ). added (added ls (move k v 8)) (move (k + 8) w (n - 8))) f g
      ∙ sym (ap (added_all ls) (two-pieces a b k n s.0 s.1.0 s.1.1.0 s.1.1.1)))

pub stack-done : (ls : List Move) (p : Record) (o k n : ℕ) → p ≡ Stack (record { 0 = o }) → (x : List Move) → x ≡ added ls (move k (304 + o) n) → x ≡ added_all ls (cut_one k (place_of p) n)
stack-done ls p o k n e x q = rw e q

-- ---- all arguments

inside-more : (p : Record) (n a : ℕ) → a ≤ 16384 → Inside p n a → Inside p n 16384
unfolding Inside
inside-more (One x) n a l h = h
inside-more (Two x y) n a l h = h
inside-more (Stack o) n a l h = omega (arith, h)

module _ (d : List ℕ) where
  -- what is left to add comes to all
  pub record Joining (M : List ℕ) (count : ℕ) (b : Laying) (i : ℕ) : Type 0 where
    pub turn : Turn d b i
    pub same : added_all (triples M 0 count) (cut b.used b.values.0 (shapes_from d i (arguments_in d - i))) ≡ joined (cut (used_first d) 0 (shapes d))
    pub few : count ≤ 2 * i
    pub long : length M ≡ 384

  pub joining_first : (M : List ℕ) (b : Laying) → b ≡ laying_fresh (hidden d) → length M ≡ 384 → Joining M 0 b 0
  unfolding laying_fresh
  joining_first M b e l = record {
    turn = turn_first d b e;
    same = ap₂ (λ (x : Laying) (n : ℕ). added_all [] (cut x.used x.values.0 (shapes_from d 0 n))) e (sub-zero (arguments_in d)) ∙ added-joined (cut (used_first d) 0 (shapes d));
    few = omega arith;
    long = l;
  }

  module _ (accepted : verdict d ≡ 0) (M : List ℕ) (count : ℕ) (b : Laying) (i : ℕ) (l : i < arguments_in d) (t : Joining M count b i) where
    pub joining_few : (3 * count + 6 ≤ length M) × (count ≤ 126)
    joining_few = (omega (arith, t.few, t.long, arguments-few d (right d accepted)), omega (arith, t.few, arguments-few d (right d accepted)))

    module _ (z : Step) (e : z ≡ step_at d b i) where
      lent : Lent d (values_of d) 176 128 (area_of d)
      lent = record { accepted = accepted; values = refl; registers = refl; upper = refl; stack = refl }

      pub joining_asks : AskCut z.placement.place z.placement.size.0 z.placement.at.0
      joining_asks =
          let m = turn_move d b i l t.turn z e (values_of d) 176 128 (area_of d) lent in
          record { inside = inside-more z.placement.place z.placement.size.0 (area_of d) (accepted-area d accepted) m.inside; there = omega (arith, m.there, values-few d accepted) }

      pub joining_next : (N : List ℕ) (c : ℕ) → triples N 0 c ≡ added_all (triples M 0 count) (cut_one z.placement.at.0 (place_of z.placement.place) z.placement.size.0) → c ≤ count + 2
          → length N ≡ length M → Joining N c z.after (i + 1)
      joining_next N c q few m = record {
        turn = turn_next d b i l t.turn z e;
        same = rest ∙ t.same;
        few = omega (arith, t.few);
        long = m ∙ t.long;
      }
        where
          one : added_all (triples M 0 count) (cut_one z.placement.at.0 (place_of z.placement.place) z.placement.size.0)
              ≡ added_all (triples M 0 count) (cut_one b.values.0 (place eightbytes b.used (shape_at d i)) (shape_at d i).size)
          one =
              ap (λ (k : ℕ). added_all (triples M 0 count) (cut_one k (place_of z.placement.place) z.placement.size.0)) (step-at d b i l t.turn z e)
              ∙ ap₂ (λ (p : Place) (n : ℕ). added_all (triples M 0 count) (cut_one b.values.0 p n)) (step-place d b i l t.turn z e accepted) (step-size d b i l t.turn z e)

          rest : added_all (triples N 0 c) (cut z.after.used z.after.values.0 (shapes_from d (i + 1) (arguments_in d - (i + 1))))
              ≡ added_all (triples M 0 count) (cut b.used b.values.0 (shapes_from d i (arguments_in d - i)))
          rest =
              ap₂ (λ (ls ms : List Move). added_all ls ms) (q ∙ one)
              (ap₂ (λ (w : Used) (n : ℕ). cut w n (shapes_from d (i + 1) (arguments_in d - (i + 1)))) (step-used d b i l t.turn z e) (step-values d b i l t.turn z e))
              ∙ sym (ap (λ (ss : List Shape). added_all (triples M 0 count) (cut b.used b.values.0 ss)) (shapes-cons d i (arguments_in d) l)
              ∙ added-append (cut_one b.values.0 (place eightbytes b.used (shape_at d i)) (shape_at d i).size) (cut (next eightbytes b.used (shape_at d i)) (b.values.0 + (shape_at d i).size) (shapes_from d (i + 1) (arguments_in d - (i + 1)))) (triples M 0 count))

  pub joining_last : verdict d ≡ 0 → (M : List ℕ) (count : ℕ) (b : Laying) (i : ℕ) → arguments_in d ≤ i → Joining M count b i
      → (triples M 0 count ≡ joined (cut (used_first d) 0 (shapes d))) × (count ≤ 128)
  joining_last a M count b i l t = (
    sym (ap (λ (ss : List Shape). added_all (triples M 0 count) (cut b.used b.values.0 ss)) (shapes-end d i (arguments_in d) l)) ∙ t.same,
    omega (arith, t.few, t.turn.bound, arguments-few d (right d a)),
  )
