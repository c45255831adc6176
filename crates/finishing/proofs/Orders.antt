-- The order of the call: which number, exactly; and what is known where it refuses nothing. Assumes nothing.
use Rattle.std.specs.Prelude.{Ok, Err, Result}
use mathlib.Core.Path.{◌≡◌, refl, sym, ◌∙◌}
use mathlib.Core.Logic.{◌↔◌, ◌≢◌}
use mathlib.Core.Bool.{true, false, not, ◌||◌}
use mathlib.Core.List.{List, []}
use Prim.Native.Nat.{ℕ, ◌<◌}
use native.Mathlib.Omega.{arith}
use lib.ListN.{length}
use borrow.Author.Tests.{eq-eqb, ne_eqb, eqb-true, not-false}
use Rattle.form.specs.Order.{NoneHolds, Answers, Positive}
use Rattle.form.specs.Reading.{refusal_of}
use Rattle.form.specs.declared.Refusal.{Refusal}
use Rattle.form.proofs.Order.{first-behind, first-before, first-both, positive-append, accepts-exactly, refuses-exactly}
use Rattle.station.specs.declared.Station.{Station}
use Rattle.station.specs.Paper.{Paper, verdict_of, answer_under, area_of}
use Rattle.station.specs.Attachment.{wrong_seat, described}
use Rattle.station.proofs.Orders.{first_rest, or-false, kept, left}
use Rattle.station.proofs.Attachments.{under-refused, under-done, under-err}
use Rattle.walk.specs.declared.Walk.{Walk}
use Rattle.walk.specs.Orders.{asking, wrong_registers, other_number, astray, wrong_stack}
use Rattle.finishing.specs.Rest.{AskRest, step_ask, remaining, wrong_count, other_types, sizes_from, wrong_room, later_order, later_refusal, seated_refusal, finish_order, finish_refusal, bytes_over, moved_over, walk_left, out_left, finish_walk, finish_out}

module _ (P : Paper) (s : Station) (d : List ℕ) (w : Walk) (stack asked : List ℕ) (n : ℕ) where
  -- ---- behind 1 to 10, test by test

  pub later-17 : other_number s w ≡ true → 17 ≡ later_refusal P s d w stack asked n
  unfolding later_refusal
  later-17 e = rw e

  pub later-18 : other_number s w ≡ false → astray P d w ≡ true → 18 ≡ later_refusal P s d w stack asked n
  unfolding later_refusal
  later-18 e f = rw (e, f)

  pub later-24 : other_number s w ≡ false → astray P d w ≡ false → wrong_count P d w asked ≡ true → 24 ≡ later_refusal P s d w stack asked n
  unfolding later_refusal
  later-24 e f g = rw (e, f, g)

  pub later-20 : other_number s w ≡ false → astray P d w ≡ false → wrong_count P d w asked ≡ false → other_types P d w asked ≡ true
      → 20 ≡ later_refusal P s d w stack asked n
  unfolding later_refusal
  later-20 e f g h = rw (e, f, g, h)

  pub later-stack : other_number s w ≡ false → astray P d w ≡ false → wrong_count P d w asked ≡ false → other_types P d w asked ≡ false
      → wrong_stack P d (asking [] stack 0 []) ≡ true → 11 ≡ later_refusal P s d w stack asked n
  unfolding later_refusal
  later-stack e f g h k = rw (e, f, g, h, k)

  pub later-room : other_number s w ≡ false → astray P d w ≡ false → wrong_count P d w asked ≡ false → other_types P d w asked ≡ false
      → wrong_stack P d (asking [] stack 0 []) ≡ false → wrong_room P d w n ≡ true → 11 ≡ later_refusal P s d w stack asked n
  unfolding later_refusal
  later-room e f g h k l = rw (e, f, g, h, k, l)

  pub later-none : other_number s w ≡ false → astray P d w ≡ false → wrong_count P d w asked ≡ false → other_types P d w asked ≡ false
      → wrong_stack P d (asking [] stack 0 []) ≡ false → wrong_room P d w n ≡ false → 0 ≡ later_refusal P s d w stack asked n
  unfolding later_refusal
  later-none e f g h k l = rw (e, f, g, h, k, l)

  -- ---- read back

  pub record Going : Type 0 where
    pub number : w.number ≡ s.number
    pub on : astray P d w ≡ false
    pub count : length asked ≡ remaining P d w
    pub types : other_types P d w asked ≡ false
    pub image : length stack ≡ area_of P d
    pub room : n ≡ sizes_from P d w.position (remaining P d w)

  pub later-passes : later_refusal P s d w stack asked n ≡ 0 → Going
  unfolding later_refusal other_number wrong_count wrong_stack wrong_room
  later-passes e =
      let x = first_rest 16 (other_number s w) _ e in
      let y = first_rest 17 (astray P d w) _ x.1 in
      let z = first_rest 23 (wrong_count P d w asked) _ y.1 in
      let t = first_rest 19 (other_types P d w asked) _ z.1 in
      let u = first_rest 10 (wrong_stack P d (asking [] stack 0 []) || wrong_room P d w n) 0 t.1 in
      let v = or-false (wrong_stack P d (asking [] stack 0 [])) (wrong_room P d w n) u.0 in
      record {
        number = eqb-true w.number s.number (not-false _ x.0);
        on = y.0;
        count = eqb-true (length asked) (remaining P d w) (not-false _ z.0);
        types = t.0;
        image = eqb-true (length stack) (area_of P d) (not-false _ v.0);
        room = eqb-true n (sizes_from P d w.position (remaining P d w)) (not-false _ v.1);
      }

-- ---- 1 to 10 before it

module _ (P : Paper) (s : Station) (d : List ℕ) (w : Walk) (a : AskRest) where
  pub seated-early : verdict_of P d ≢ 0 → seated_refusal P s d w a ≡ verdict_of P d
  unfolding verdict_of seated_refusal
  seated-early h = first-before (P.order d) _ h

  pub seated-late : verdict_of P d ≡ 0 → seated_refusal P s d w a ≡ later_refusal P s d w a.stack a.asked (length a.out)
  unfolding verdict_of seated_refusal later_refusal
  seated-late ok = first-behind (P.order d) _ (P.counted d) ok

  -- ---- what is left

  -- a refusal leaves the record and the buffer
  pub left-at : (n : ℕ) (r : Refusal) → Err r ≡ answer_under P d n (tt {0}) → (Err r ≡ answer_under P d n (tt {0})) × (w ≡ walk_left P n d w) × (a.out ≡ out_left P n d w a)
  unfolding walk_left out_left
  left-at n r e = let h = under-err P d n tt r (sym e) in (e, sym (left n _ _ h), sym (left n _ _ h))

  -- and without one the record goes to the end, and the bytes are there
  pub left-done : (n : ℕ) (v : Walk) (last : List ℕ) → n ≡ 0 → v ≡ moved_over P d (remaining P d w) w
      → last ≡ bytes_over P d (remaining P d w) w (step_ask a 0 []) → (Ok tt ≡ answer_under P d n (tt {0})) × (v ≡ walk_left P n d w) × (last ≡ out_left P n d w a)
  unfolding walk_left out_left
  left-done n v last e x y = (under-done P d n tt tt e refl, x ∙ sym (kept n _ _ e), y ∙ sym (kept n _ _ e))

-- ---- seat, station and register image before that

module _ (P : Paper) (s : Station) (seat : List ℕ) (w : Walk) (a : AskRest) where
  pub finish-wrong : wrong_seat s seat ≡ true → finish_refusal P s seat w a ≡ 11
  unfolding finish_refusal
  finish-wrong e = rw e

  pub finish-registers : wrong_seat s seat ≡ false → length a.registers ≢ P.registers → finish_refusal P s seat w a ≡ 11
  unfolding finish_refusal wrong_registers
  finish-registers e h = rw (e, ne_eqb (length a.registers) P.registers h)

  pub finish-idle : wrong_seat s seat ≡ false → length a.registers ≡ P.registers → s.attached ≡ false → finish_refusal P s seat w a ≡ 13
  unfolding finish_refusal wrong_registers
  finish-idle e h b = rw (e, eq-eqb (length a.registers) P.registers h, b)

  pub finish-seated : wrong_seat s seat ≡ false → length a.registers ≡ P.registers → s.attached ≡ true
      → finish_refusal P s seat w a ≡ seated_refusal P s (described s seat) w a
  unfolding finish_refusal wrong_registers seated_refusal
  finish-seated e h b = rw (e, eq-eqb (length a.registers) P.registers h, b)

  -- as the call leaves it
  pub finish-own : (m : ℕ) (r : Refusal) → finish_refusal P s seat w a ≡ m → 7 < m → r ≡ refusal_of m
      → (Err r ≡ answer_under P (described s seat) (finish_refusal P s seat w a) (tt {0})) × (w ≡ finish_walk P s seat w a) × (a.out ≡ finish_out P s seat w a)
  unfolding finish_walk finish_out
  finish-own m r e h q = left-at P s (described s seat) w a (finish_refusal P s seat w a) r (under-refused P (described s seat) (finish_refusal P s seat w a) m r tt q h e)

  pub finish-on : (r : Result (Unit {0}) Refusal) (v : Walk) (last : List ℕ) → finish_refusal P s seat w a ≡ seated_refusal P s (described s seat) w a
      → (r ≡ answer_under P (described s seat) (seated_refusal P s (described s seat) w a) tt) × (v ≡ walk_left P (seated_refusal P s (described s seat) w a) (described s seat) w)
      × (last ≡ out_left P (seated_refusal P s (described s seat) w a) (described s seat) w a)
      → (r ≡ answer_under P (described s seat) (finish_refusal P s seat w a) tt) × (v ≡ finish_walk P s seat w a) × (last ≡ finish_out P s seat w a)
  unfolding finish_walk finish_out
  finish-on r v last e h = rw e h

  -- ---- "as for a step, but .. 24, after 18, and 19 never occurs"

  finish-positive : Positive (finish_order P s seat w a)
  finish-positive =
      (omega arith, (omega arith, positive-append (P.order (described s seat)) _ (P.counted (described s seat)) (omega arith, (omega arith, (omega arith, (omega arith, (omega arith, tt)))))))

  pub finish-accepts : (finish_refusal P s seat w a ≡ 0) ↔ NoneHolds (finish_order P s seat w a)
  unfolding finish_refusal
  finish-accepts = accepts-exactly (finish_order P s seat w a) finish-positive

  pub finish-refuses : (n : ℕ) → n ≢ 0 → (finish_refusal P s seat w a ≡ n) ↔ Answers (finish_order P s seat w a) n
  unfolding finish_refusal
  finish-refuses n h = refuses-exactly (finish_order P s seat w a) n h

  -- ---- read back

  pub record Finishing : Type 0 where
    pub right : wrong_seat s seat ≡ false
    pub registers : length a.registers ≡ P.registers
    pub busy : s.attached ≡ true
    pub accepted : verdict_of P (described s seat) ≡ 0
    pub going : Going P s (described s seat) w a.stack a.asked (length a.out)

  pub finish-passes : finish_refusal P s seat w a ≡ 0 → Finishing
  unfolding finish_refusal wrong_registers verdict_of later_refusal
  finish-passes e =
      let d = described s seat in
      let x = first_rest 10 (wrong_seat s seat || wrong_registers P (step_ask a 0 [])) _ e in
      let xs = or-false (wrong_seat s seat) (wrong_registers P (step_ask a 0 [])) x.0 in
      let y = first_rest 12 (not s.attached) _ x.1 in
      let z = first-both (P.order d) (later_order P s d w a.stack a.asked (length a.out)) (P.counted d) y.1 in
      record {
        right = xs.0;
        registers = eqb-true (length a.registers) P.registers (not-false _ xs.1);
        busy = not-false s.attached y.0;
        accepted = z.0;
        going = later-passes P s d w a.stack a.asked (length a.out) z.1;
      }

  -- a refusal leaves walk and buffer unchanged
  pub finish-left : finish_refusal P s seat w a ≢ 0 → (finish_walk P s seat w a ≡ w) × (finish_out P s seat w a ≡ a.out)
  unfolding finish_walk finish_out walk_left out_left
  finish-left h = (left (finish_refusal P s seat w a) _ _ h, left (finish_refusal P s seat w a) _ _ h)

  pub finish-done : finish_refusal P s seat w a ≡ 0
      → (finish_walk P s seat w a ≡ moved_over P (described s seat) (remaining P (described s seat) w) w)
      × (finish_out P s seat w a ≡ bytes_over P (described s seat) (remaining P (described s seat) w) w (step_ask a 0 []))
  unfolding finish_walk finish_out walk_left out_left
  finish-done e = (kept (finish_refusal P s seat w a) _ _ e, kept (finish_refusal P s seat w a) _ _ e)
