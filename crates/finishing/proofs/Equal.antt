-- "Where it accepts, its answer, end record and bytes equal stepping one by one". Assumes nothing.
use mathlib.Core.Path.{◌≡◌, refl, sym, ap, ap₂, subst, ◌∙◌}
use mathlib.Core.Bool.{true, false, not}
use mathlib.Core.List.{List, [], ◌∷◌, ◌++◌}
use Prim.Native.Nat.{ℕ, zero, suc, ◌%◌, ◌<◌}
use native.Mathlib.Omega.{arith}
use lib.Dec.{eqb}
use lib.ListN.{length, get_or, replicate}
use borrow.Author.Tests.{le-ltb, eq-eqb, ne_eqb, eqb-true, not-false}
use Rattle.addresses.specs.Addresses.{All, gather}
use Rattle.places.specs.Shapes.{Shape, Shaped}
use Rattle.places.specs.Places.{slot_size}
use Rattle.station.specs.declared.Station.{Station}
use Rattle.station.specs.Paper.{Paper, verdict_of, arguments, shape_at, type_at, area_of}
use Rattle.station.specs.Attachment.{wrong_seat, described}
use Rattle.station.proofs.Orders.{or-false}
use Rattle.walk.specs.declared.Walk.{Walk}
use Rattle.walk.specs.Offsets.{read_at, bytes_from}
use Rattle.walk.specs.Orders.{Ask, offsets_of, standing, other_number, astray, at_end, other_type, wrong_stack, wrong_out, step_refusal, show_refusal}
use Rattle.walk.specs.Steps.{bytes_at, moved_on, step_out}
use Rattle.walk.proofs.Checks.{Genuine, astray-not, rest-right, show-rest}
use Rattle.walk.proofs.Steps.{step-late, step-done}
use Rattle.finishing.specs.Rest.{AskRest, step_ask, remaining, differs, other_types, bytes_over, moved_over}
use Rattle.finishing.specs.Steps.{steps_answer, steps_walk, steps_out, OneByOne, RestIsSteps}
use Rattle.finishing.proofs.Orders.{Finishing, finish-passes, finish-done}
use Rattle.finishing.proofs.Moves.{moved-number, genuine_moves, remaining-next}

all-at : (Q : Shape → Type 0) (o : Shape) (ss : List Shape) (p : ℕ) → All Q ss → p < length ss → Q (get_or ss p o)
all-at Q o [] p h l = absurd (omega arith)
all-at Q o (s ∷ ss) zero h l = h.0
all-at Q o (s ∷ ss) (suc p) h l = all-at Q o ss p h.1 (omega arith)

module _ (P : Paper) where
  pub shaped-at : (d : List ℕ) (p : ℕ) → All Shaped (P.shapes d) → p < arguments P d → Shaped (shape_at P d p)
  unfolding shape_at arguments
  shaped-at d p h l = all-at Shaped _ (P.shapes d) p h l

  -- a record that stands where the description says is not astray
  pub genuine_right : (d : List ℕ) (w : Walk) → Genuine P d w → astray P d w ≡ false
  unfolding astray
  genuine_right d w g =
      let v = standing P d w.number w.position in
      rw (le-ltb w.position (P.named d) g.from, le-ltb (arguments P d) w.position g.to, eq-eqb w.general.0 v.general.0 (ap (λ (z : Walk). z.general.0) g.same), eq-eqb w.vector.0 v.vector.0 (ap (λ (z : Walk). z.vector.0) g.same), eq-eqb w.overflow.0 v.overflow.0 (ap (λ (z : Walk). z.overflow.0) g.same))

  -- what a step reads depends on the images alone
  reads-alike : (d : List ℕ) (w : Walk) (q r : Ask) → q.registers ≡ r.registers → q.stack ≡ r.stack → bytes_at P d w q ≡ bytes_at P d w r
  unfolding bytes_at
  reads-alike d w q r x y =
      ap₂ (λ (i j : List ℕ). gather (i ++ j) (bytes_from P.registers (read_at P.slot (offsets_of w) (shape_at P d w.position)) (shape_at P d w.position).size)) x y

  -- what is so before each step
  record Before (s : Station) (seat : List ℕ) (w : Walk) (a : AskRest) (ts : List ℕ) : Type 0 where
    right : wrong_seat s seat ≡ false
    registers : length a.registers ≡ P.registers
    busy : s.attached ≡ true
    accepted : verdict_of P (described s seat) ≡ 0
    shaped : All Shaped (P.shapes (described s seat))
    starts : (P.first (described s seat)).stack.0 % slot_size P.slot ≡ 0
    number : w.number ≡ s.number
    on : Genuine P (described s seat) w
    count : length ts ≡ remaining P (described s seat) w
    types : differs P (described s seat) w.position ts ≡ false
    stack : length a.stack ≡ area_of P (described s seat)

  remaining-some : (d : List ℕ) (w : Walk) (n : ℕ) → suc n ≡ remaining P d w → w.position < arguments P d
  unfolding remaining
  remaining-some d w n e = omega arith

  -- the step that is asked for the next type, into a buffer of its size, is accepted
  accepts : (s : Station) (seat : List ℕ) (w : Walk) (a : AskRest) (t : ℕ) (ts : List ℕ) (q : Ask) → Before s seat w a (t ∷ ts)
      → q ≡ step_ask a t q.out → length q.out ≡ (shape_at P (described s seat) w.position).size → step_refusal P s seat w q ≡ 0
  unfolding other_number at_end other_type wrong_stack wrong_out
  accepts s seat w a t ts q h e f =
      let d = described s seat in
      let l = remaining-some d w (length ts) h.count in
      let x : q.registers ≡ a.registers = ap (λ (z : Ask). z.registers) e in
      let y : q.stack ≡ a.stack = ap (λ (z : Ask). z.stack) e in
      let z : q.asked ≡ t = ap (λ (z : Ask). z.asked) e in
      let k : t ≡ type_at P d w.position = eqb-true t (type_at P d w.position) (not-false _ (or-false (not (eqb t (type_at P d w.position))) _ h.types).0) in
      let shown : show_refusal P s seat w q ≡ 0 =
      show-rest P s seat w q h.right (ap length x ∙ h.registers) h.busy
      ∙ rest-right P s d w q h.accepted (rw (eq-eqb w.number s.number h.number)) (genuine_right d w h.on)
      (ne_eqb w.position (arguments P d) (λ m. omega arith)) (rw (eq-eqb q.asked (type_at P d w.position) (z ∙ k))) (rw (eq-eqb (length q.stack) (area_of P d) (ap length y ∙ h.stack))) in
      step-late P s seat w q shown ∙ (rw (eq-eqb (length q.out) (shape_at P d w.position).size f))

  -- and leads to the next
  goes_on : (s : Station) (seat : List ℕ) (w : Walk) (a : AskRest) (t : ℕ) (ts : List ℕ) → Before s seat w a (t ∷ ts) → Before s seat (moved_on P (described s seat) w) a ts
  goes_on s seat w a t ts h =
      let d = described s seat in
      let l = remaining-some d w (length ts) h.count in
      let e = moved-number P d w in
      record {
        right = h.right;
        registers = h.registers;
        busy = h.busy;
        accepted = h.accepted;
        shaped = h.shaped;
        starts = h.starts;
        number = e.0 ∙ h.number;
        on = genuine_moves P d w h.on (shaped-at d w.position h.shaped l) h.starts l;
        count = let r = remaining-next P d w l in omega (arith, h.count, r);
        types = ap (λ (p : ℕ). differs P d p ts) e.1 ∙ (or-false (not (eqb t (type_at P d w.position))) (differs P d (suc w.position) ts) h.types).1;
        stack = h.stack;
      }

  record Stepped (s : Station) (seat : List ℕ) (w : Walk) (a : AskRest) (n : ℕ) (qs : List Ask) : Type 0 where
    answers : steps_answer P s seat w qs ≡ replicate (length qs) 0
    walk : moved_over P (described s seat) n w ≡ steps_walk P s seat w qs
    out : bytes_over P (described s seat) n w (step_ask a 0 []) ≡ steps_out P s seat w qs

  stepped : (s : Station) (seat : List ℕ) (a : AskRest) (ts : List ℕ) (w : Walk) (qs : List Ask) → Before s seat w a ts
      → OneByOne P (described s seat) a w.position ts qs → Stepped s seat w a (length ts) qs
  stepped s seat a [] w [] h o = record { answers = refl; walk = refl; out = refl }
  stepped s seat a [] w (q ∷ qs) h o = absurd o
  stepped s seat a (t ∷ ts) w [] h o = absurd o
  stepped s seat a (t ∷ ts) w (q ∷ qs) h o =
      let d = described s seat in
      let r = accepts s seat w a t ts q h o.0 o.1 in
      let m = step-done P s seat w q r in
      let z = stepped s seat a ts (moved_on P d w) qs (goes_on s seat w a t ts h) (subst (λ (p : ℕ). OneByOne P d a p ts qs) (sym (moved-number P d w).1) o.2) in
      let same : bytes_at P d w (step_ask a 0 []) ≡ step_out P s seat w q =
      reads-alike d w (step_ask a 0 []) q (sym (ap (λ (z : Ask). z.registers) o.0)) (sym (ap (λ (z : Ask). z.stack) o.0)) ∙ sym m.1 in
      record {
        answers = ap₂ ◌∷◌ r (ap (λ (v : Walk). steps_answer P s seat v qs) m.0 ∙ z.answers);
        walk = z.walk ∙ ap (λ (v : Walk). steps_walk P s seat v qs) (sym m.0);
        out = ap₂ ◌++◌ same (z.out ∙ ap (λ (v : Walk). steps_out P s seat v qs) (sym m.0));
      }

  finishing-before : (s : Station) (seat : List ℕ) (w : Walk) (a : AskRest) → All Shaped (P.shapes (described s seat)) → (P.first (described s seat)).stack.0 % slot_size P.slot ≡ 0
      → Finishing P s seat w a → Before s seat w a a.asked
  unfolding other_types
  finishing-before s seat w a h m f =
      record {
        right = f.right;
        registers = f.registers;
        busy = f.busy;
        accepted = f.accepted;
        shaped = h;
        starts = m;
        number = f.going.number;
        on = astray-not P (described s seat) w f.going.on;
        count = f.going.count;
        types = f.going.types;
        stack = f.going.image;
      }

  -- of any paper whose accepted descriptions have what classification guarantees, and slots from the first on
  pub rest-is_steps : ((d : List ℕ) → verdict_of P d ≡ 0 → All Shaped (P.shapes d)) → ((d : List ℕ) → verdict_of P d ≡ 0 → (P.first d).stack.0 % slot_size P.slot ≡ 0)
      → RestIsSteps P
  rest-is_steps shaped starts s seat w a qs e o =
      let d = described s seat in
      let f = finish-passes P s seat w a e in
      let m = finish-done P s seat w a e in
      let z = stepped s seat a a.asked w qs (finishing-before s seat w a (shaped d f.accepted) (starts d f.accepted) f) o in
      record {
        answers = z.answers;
        walk = m.0 ∙ ap (λ (n : ℕ). moved_over P d n w) (sym f.going.count) ∙ z.walk;
        out = m.1 ∙ ap (λ (n : ℕ). bytes_over P d n w (step_ask a 0 [])) (sym f.going.count) ∙ z.out;
      }
