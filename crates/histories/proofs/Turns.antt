-- One walk among all other calls: what each call of a history does to it. Assumes nothing.
use mathlib.Core.Path.{◌≡◌, refl, sym, ap, subst, ◌∙◌}
use mathlib.Core.Logic.{◌≢◌}
use mathlib.Core.Bool.{Bool, true, false, not}
use mathlib.Core.List.{List, [], ◌∷◌}
use Prim.Native.Nat.{ℕ, zero, suc, ◌<◌}
use native.Mathlib.Omega.{arith}
use lib.Dec.{eqb}
use lib.ListN.{length, get_or}
use borrow.Author.Tests.{eqb-true, eqb-false, eq-eqb, ne_eqb, not-false}
use Rattle.form.specs.Order.{rule, first}
use Rattle.places.specs.Images.{total}
use Rattle.station.specs.declared.Station.{Station}
use Rattle.station.specs.Outcome.{leaves}
use Rattle.station.specs.Paper.{Paper, arguments, shape_at, type_at}
use Rattle.station.specs.Attachment.{described}
use Rattle.station.proofs.Orders.{first_rest}
use Rattle.walk.specs.declared.Walk.{Walk}
use Rattle.walk.specs.Orders.{Ask, standing, open_refusal, step_refusal}
use Rattle.walk.specs.Steps.{open_walk, bytes_at, moved_on, step_walk, step_out}
use Rattle.histories.specs.Calls.{Desk, Call, attaching, detaching, changing, opening, stepping, showing, numbering, writing, with_walk, call, handed_by, Lends, Spares, Serves, Served, Question, asks_by}
use Rattle.histories.specs.Lawful.{Lawful}
use Rattle.histories.specs.Values.{cut, images_for, question}
use Rattle.histories.specs.Outcomes.{Stands}
use Rattle.histories.proofs.Attachments.{described-held}
use Rattle.histories.proofs.Walks.{known, moves-on, reads, lends_right, step-standing}

pub put_same : (ws : ℕ → Walk) (i : ℕ) (w : Walk) → with_walk ws i w i ≡ w
unfolding with_walk
put_same ws i w = rw (eq-eqb i i refl)

pub put_other : (ws : ℕ → Walk) (i j : ℕ) (w : Walk) → i ≢ j → with_walk ws j w i ≡ ws i
unfolding with_walk
put_other ws i j w h = rw (ne_eqb j i (λ e. h (sym e)))

pub open_other : (P : Paper) (k : Desk) (i j : ℕ) → i ≢ j → (call P k (opening j)).walks i ≡ k.walks i
open_other P k i j h = by (open_refusal P k.station k.seat)
  where
    by : (n : ℕ) → leaves n (with_walk k.walks j (open_walk P k.station k.seat)) k.walks i ≡ k.walks i
    by zero = put_other k.walks i j (open_walk P k.station k.seat) h
    by (suc n) = refl

pub step-moved : (P : Paper) (s : Station) (seat : List ℕ) (w : Walk) (a : Ask) → step_refusal P s seat w a ≡ 0 → step_walk P s seat w a ≡ moved_on P (described s seat) w
unfolding step_walk
step-moved P s seat w a r = rw r

pub step-wrote : (P : Paper) (s : Station) (seat : List ℕ) (w : Walk) (a : Ask) → step_refusal P s seat w a ≡ 0 → step_out P s seat w a ≡ bytes_at P (described s seat) w a
unfolding step_out
step-wrote P s seat w a r = rw r

pub step_left : (P : Paper) (s : Station) (seat : List ℕ) (w : Walk) (a : Ask) (n : ℕ) → step_refusal P s seat w a ≡ suc n → step_walk P s seat w a ≡ w
unfolding step_walk
step_left P s seat w a n r = rw r

question-made : (P : Paper) (d : List ℕ) (p t n : ℕ) → t ≡ type_at P d p → n ≡ (shape_at P d p).size → record { asked = t; room = n } ≡ question P d p
unfolding question
question-made P d p t n x y = λ j. record { asked = x j; room = y j }

question-read : (P : Paper) (d : List ℕ) (p : ℕ) (q : Question) → q ≡ question P d p → (q.asked ≡ type_at P d p) × (q.room ≡ (shape_at P d p).size)
unfolding question
question-read P d p q x = (ap (λ (z : Question). z.asked) x, ap (λ (z : Question). z.room) x)

module _ (P : Paper) (d values : List ℕ) (i : ℕ) where
  -- a call is no step of the walk i; or a step of it that is refused, and then its question was not the right one; or one that is
  -- accepted, and then it was, and the argument's bytes are handed back
  pub data Turn (k : Desk) (c : Call) (p : ℕ) : Type 0 where
    other : asks_by i c ≡ [] → handed_by P i k c ≡ [] → (call P k c).walks i ≡ k.walks i → Turn k c p
    refused : (q : Question) → asks_by i c ≡ q ∷ [] → (p < arguments P d → q ≡ question P d p → ⊥) → handed_by P i k c ≡ []
        → (call P k c).walks i ≡ k.walks i → Turn k c p
    moved : asks_by i c ≡ question P d p ∷ [] → p < arguments P d → handed_by P i k c ≡ get_or (cut (P.shapes d) values) p [] ∷ []
        → (call P k c).walks i ≡ standing P d k.station.number (suc p) → Turn k c p

  -- what is left of it where the images are known of accepted steps alone
  pub data Move (k : Desk) (c : Call) (p : ℕ) : Type 0 where
    still : handed_by P i k c ≡ [] → (call P k c).walks i ≡ k.walks i → Move k c p
    onward : p < arguments P d → handed_by P i k c ≡ get_or (cut (P.shapes d) values) p [] ∷ [] → (call P k c).walks i ≡ standing P d k.station.number (suc p) → Move k c p

  forget : (k : Desk) (c : Call) (p : ℕ) → Turn k c p → Move k c p
  forget k c p (other qa hb w) = still hb w
  forget k c p (refused q qa n hb w) = still hb w
  forget k c p (moved qa l hb w) = onward l hb w

module _ (P : Paper) (L : Lawful P) (d address values : List ℕ) (f : length values ≡ total (P.shapes d)) (i : ℕ) where
  -- a step of the walk i
  own : (k : Desk) (a : Ask) (p : ℕ) → Stands P d i k p → Lends P (images_for P d address values) a → Turn P d values i k (stepping i a) p
  own k a p h g = by (step_refusal P k.station k.seat (k.walks i) a) refl
    where
      q : Question
      q = record { asked = a.asked; room = length a.out }

      answer : step_refusal P k.station k.seat (k.walks i) a
          ≡ first (rule 19 (eqb p (arguments P d)) ∷ rule 20 (not (eqb a.asked (type_at P d p))) ∷ rule 11 (not (eqb (length a.out) (shape_at P d p).size)) ∷ [])
      answer =
          let r = lends_right P L d address values a g in
          rw h.walk (step-standing P L k.station k.seat d p a h.held h.from h.to r.0 r.1)

      asks-this : asks_by i (stepping i a) ≡ q ∷ []
      asks-this = rw (eq-eqb i i refl)

      wrong : (n : ℕ) → step_refusal P k.station k.seat (k.walks i) a ≡ suc n → p < arguments P d
          → (a.asked ≡ type_at P d p) × (length a.out ≡ (shape_at P d p).size) → ⊥
      wrong n r l t =
          let z : suc n ≡ 0 = sym r ∙ answer ∙ rw (ne_eqb p (arguments P d) (λ x. omega arith), eq-eqb a.asked (type_at P d p) t.0, eq-eqb (length a.out) (shape_at P d p).size t.1) in
          omega arith

      by : (n : ℕ) → step_refusal P k.station k.seat (k.walks i) a ≡ n → Turn P d values i k (stepping i a) p
      by zero r =
          let x = first_rest 18 (eqb p (arguments P d)) _ (sym answer ∙ r) in
          let y = first_rest 19 (not (eqb a.asked (type_at P d p))) _ x.1 in
          let z = first_rest 10 (not (eqb (length a.out) (shape_at P d p).size)) _ y.1 in
          let t : a.asked ≡ type_at P d p = eqb-true a.asked (type_at P d p) (not-false _ y.0) in
          let u : length a.out ≡ (shape_at P d p).size = eqb-true (length a.out) (shape_at P d p).size (not-false _ z.0) in
          let l : p < arguments P d = omega (arith, h.to, eqb-false p (arguments P d) x.0) in
          let s = known P L d h.held.accepted p h.from l in
          moved (asks-this ∙ ap (λ (z : Question). z ∷ []) (question-made P d p a.asked (length a.out) t u)) l
          (rw (eq-eqb i i refl, r, step-wrote P k.station k.seat (k.walks i) a r, described-held P k.station k.seat d h.held, h.walk)
          (ap (λ (v : List ℕ). v ∷ []) (reads P L d address values k.station.number p a s f g)))
          (put_same k.walks i (step_walk P k.station k.seat (k.walks i) a)
          ∙ step-moved P k.station k.seat (k.walks i) a r
          ∙ rw (described-held P k.station k.seat d h.held, h.walk) (moves-on P d k.station.number p s))
      by (suc n) r =
          refused q asks-this (λ l x. wrong n r l (question-read P d p q x))
          (rw (eq-eqb i i refl, r))
          (put_same k.walks i (step_walk P k.station k.seat (k.walks i) a) ∙ step_left P k.station k.seat (k.walks i) a n r)

  pub turn : (k : Desk) (c : Call) (p : ℕ) → Stands P d i k p → Spares i c → Serves P i (images_for P d address values) c → Turn P d values i k c p
  turn k (attaching x b) p h m g = other refl refl refl
  turn k detaching p h m g = other refl refl refl
  turn k (changing x b) p h m g = other refl refl refl
  turn k (opening j) p h m g = other refl refl (open_other P k i j m)
  turn k (stepping j a) p h m g = by (eqb i j) refl
    where
      by : (b : Bool) → eqb i j ≡ b → Turn P d values i k (stepping j a) p
      by true b = let q = eqb-true i j b in subst (λ (x : ℕ). Turn P d values i k (stepping x a) p) q (own k a p h (g q))
      by false b = other (rw b) (rw b) (put_other k.walks i j (step_walk P k.station k.seat (k.walks j) a) (eqb-false i j b))
  turn k (showing j a) p h m g = other refl refl refl
  turn k (numbering j a) p h m g = other refl refl refl
  turn k (writing j w) p h m g = other refl refl (put_other k.walks i j w m)

  own-move : (k : Desk) (a : Ask) (p : ℕ) → Stands P d i k p → (step_refusal P k.station k.seat (k.walks i) a ≡ 0 → Lends P (images_for P d address values) a)
      → Move P d values i k (stepping i a) p
  own-move k a p h g = by (step_refusal P k.station k.seat (k.walks i) a) refl
    where
      by : (n : ℕ) → step_refusal P k.station k.seat (k.walks i) a ≡ n → Move P d values i k (stepping i a) p
      by zero r = forget P d values i k (stepping i a) p (own k a p h (g r))
      by (suc n) r =
          still (rw (eq-eqb i i refl, r))
          (put_same k.walks i (step_walk P k.station k.seat (k.walks i) a) ∙ step_left P k.station k.seat (k.walks i) a n r)

  pub move : (k : Desk) (c : Call) (p : ℕ) → Stands P d i k p → Spares i c → Served P i (images_for P d address values) k c → Move P d values i k c p
  move k (attaching x b) p h m g = still refl refl
  move k detaching p h m g = still refl refl
  move k (changing x b) p h m g = still refl refl
  move k (opening j) p h m g = still refl (open_other P k i j m)
  move k (stepping j a) p h m g = by (eqb i j) refl
    where
      by : (b : Bool) → eqb i j ≡ b → Move P d values i k (stepping j a) p
      by true b =
          let q = eqb-true i j b in
          subst (λ (x : ℕ). Move P d values i k (stepping x a) p) q (own-move k a p h (λ r. g q (rw q at r)))
      by false b = still (rw b) (put_other k.walks i j (step_walk P k.station k.seat (k.walks j) a) (eqb-false i j b))
  move k (showing j a) p h m g = still refl refl
  move k (numbering j a) p h m g = still refl refl
  move k (writing j w) p h m g = still refl (put_other k.walks i j w m)
