-- Attach and detach: which number, exactly, and what is left. Assumes nothing.
use Rattle.std.specs.Prelude.{Ok, Err}
use mathlib.Core.Path.{◌≡◌, refl, sym, ap, ◌∙◌}
use mathlib.Core.Logic.{◌↔◌, ◌≢◌}
use mathlib.Core.Bool.{true, false, not}
use mathlib.Core.List.{List}
use Prim.Native.Nat.{ℕ, zero, suc, ◌≤◌, ◌<◌}
use native.Mathlib.Omega.{arith}
use lib.Dec.{leb, ltb, eqb}
use lib.ListN.{length, replicate}
use borrow.Author.Tests.{eq-eqb, ne_eqb, le-leb, lt-leb, eqb-true, ltb-false, leb-false, not-false}
use Rattle.form.specs.Reading.{refusal_of}
use Rattle.form.proofs.Named.{names-none}
use Rattle.form.specs.declared.Refusal.{Refusal}
use Rattle.station.specs.declared.Station.{Station}
use Rattle.station.specs.Outcome.{answer_of}
use Rattle.station.specs.Paper.{Paper, verdict_of, refusal_under, answer_under}
use Rattle.station.specs.Attachment.{wrong_seat, seat_of, freed, holding, detach_order, detach_refusal, detach_station, detach_seat, attach_order, attach_refusal, attach_station, attach_seat}
use Rattle.station.proofs.Orders.{kept, left, first_rest, or-false}
use Rattle.form.specs.Order.{NoneHolds, Answers, Positive}
use Rattle.form.proofs.Order.{accepts-exactly, refuses-exactly}

-- ---- lengths

pub record Seated (s : Station) (seat : List ℕ) : Type 0 where
  pub full : length seat ≡ 586
  pub within : s.length.0 ≤ 586

pub right-seat : (s : Station) (seat : List ℕ) → wrong_seat s seat ≡ false → Seated s seat
unfolding wrong_seat
right-seat s seat e =
    let z = or-false (not (eqb (length seat) 586)) (ltb 586 s.length.0) e in
    record { full = eqb-true (length seat) 586 (not-false _ z.0); within = ltb-false 586 s.length.0 z.1 }

-- ---- detach

pub detach-wrong : (s : Station) (seat : List ℕ) → wrong_seat s seat ≡ true → detach_refusal s seat ≡ 11
unfolding detach_refusal
detach-wrong s seat e = rw e

pub detach-idle : (s : Station) (seat : List ℕ) → wrong_seat s seat ≡ false → s.attached ≡ false → detach_refusal s seat ≡ 13
unfolding detach_refusal
detach-idle s seat e a = rw (e, a)

pub detach-right : (s : Station) (seat : List ℕ) → wrong_seat s seat ≡ false → s.attached ≡ true → detach_refusal s seat ≡ 0
unfolding detach_refusal
detach-right s seat e a = rw (e, a)

pub detach-seated : (s : Station) (seat : List ℕ) → detach_refusal s seat ≡ 0 → Seated s seat
unfolding detach_refusal
detach-seated s seat e = right-seat s seat (first_rest 10 (wrong_seat s seat) _ e).0

-- "Detach: 11, 13"
pub detach-accepts : (s : Station) (seat : List ℕ) → (detach_refusal s seat ≡ 0) ↔ NoneHolds (detach_order s seat)
unfolding detach_refusal
detach-accepts s seat = accepts-exactly (detach_order s seat) (omega arith, (omega arith, tt))

pub detach-refuses : (s : Station) (seat : List ℕ) (n : ℕ) → n ≢ 0 → (detach_refusal s seat ≡ n) ↔ Answers (detach_order s seat) n
unfolding detach_refusal
detach-refuses s seat n h = refuses-exactly (detach_order s seat) n h

-- a refusal leaves the station and the seat
pub detach-left : (s : Station) (seat : List ℕ) → detach_refusal s seat ≢ 0 → (s ≡ detach_station s seat) × (seat ≡ detach_seat s seat)
unfolding detach_station detach_seat
detach-left s seat h = (sym (left (detach_refusal s seat) _ _ h), sym (left (detach_refusal s seat) _ _ h))

pub detach-done : (s : Station) (seat : List ℕ) → detach_refusal s seat ≡ 0 → (detach_station s seat ≡ freed s) × (detach_seat s seat ≡ replicate 586 0)
unfolding detach_station detach_seat
detach-done s seat e = (kept (detach_refusal s seat) _ _ e, kept (detach_refusal s seat) _ _ e)

-- ---- attach

module _ (P : Paper) (s : Station) (seat d : List ℕ) where
  pub attach-wrong : wrong_seat s seat ≡ true → attach_refusal P s seat d ≡ 11
  unfolding attach_refusal
  attach-wrong e = rw e

  pub attach-busy : wrong_seat s seat ≡ false → s.attached ≡ true → attach_refusal P s seat d ≡ 14
  unfolding attach_refusal
  attach-busy e a = rw (e, a)

  pub attach-last : wrong_seat s seat ≡ false → s.attached ≡ false → 4294967295 ≤ s.number → attach_refusal P s seat d ≡ 15
  unfolding attach_refusal
  attach-last e a n = rw (e, a, le-leb 4294967295 s.number n)

  pub attach-judged : wrong_seat s seat ≡ false → s.attached ≡ false → s.number < 4294967295 → attach_refusal P s seat d ≡ verdict_of P d
  unfolding attach_refusal verdict_of
  attach-judged e a n = rw (e, a, lt-leb 4294967295 s.number n)

  pub record Passed : Type 0 where
    pub seated : Seated s seat
    pub idle : s.attached ≡ false
    pub more : s.number < 4294967295
    pub accepted : verdict_of P d ≡ 0

  pub attach-passes : attach_refusal P s seat d ≡ 0 → Passed
  unfolding attach_refusal verdict_of
  attach-passes e =
      let x = first_rest 10 (wrong_seat s seat) _ e in
      let y = first_rest 13 s.attached _ x.1 in
      let z = first_rest 14 (leb 4294967295 s.number) _ y.1 in
      record { seated = right-seat s seat x.0; idle = y.0; more = omega (arith, leb-false 4294967295 s.number z.0); accepted = z.1 }

  attach-positive : Positive (attach_order P s seat d)
  attach-positive = (omega arith, (omega arith, (omega arith, P.counted d)))

  -- "Attach: 11, 14, 15, 1..10"
  pub attach-accepts : (attach_refusal P s seat d ≡ 0) ↔ NoneHolds (attach_order P s seat d)
  unfolding attach_refusal
  attach-accepts = accepts-exactly (attach_order P s seat d) attach-positive

  pub attach-refuses : (n : ℕ) → n ≢ 0 → (attach_refusal P s seat d ≡ n) ↔ Answers (attach_order P s seat d) n
  unfolding attach_refusal
  attach-refuses n h = refuses-exactly (attach_order P s seat d) n h

  -- a refusal leaves the station and the seat
  pub attach-left : attach_refusal P s seat d ≢ 0 → (s ≡ attach_station P s seat d) × (seat ≡ attach_seat P s seat d)
  unfolding attach_station attach_seat
  attach-left h = (sym (left (attach_refusal P s seat d) _ _ h), sym (left (attach_refusal P s seat d) _ _ h))

  pub attach-done : attach_refusal P s seat d ≡ 0 → (attach_station P s seat d ≡ holding s d) × (attach_seat P s seat d ≡ seat_of d)
  unfolding attach_station attach_seat
  attach-done e = (kept (attach_refusal P s seat d) _ _ e, kept (attach_refusal P s seat d) _ _ e)

-- ---- as an answer

module _ (P : Paper) (d : List ℕ) (n : ℕ) where
  -- no type is named where nothing is refused, nor by a number above 7
  pub under_none : n ≡ 0 → refusal_under P d n ≡ refusal_of n
  unfolding refusal_under
  under_none e = names-none (P.broken d) (P.large d) n (ne_eqb n 6 (λ q. omega arith)) (ne_eqb n 7 (λ q. omega arith))

  pub under-high : 7 < n → refusal_under P d n ≡ refusal_of n
  unfolding refusal_under
  under-high l = names-none (P.broken d) (P.large d) n (ne_eqb n 6 (λ q. omega arith)) (ne_eqb n 7 (λ q. omega arith))

module _ {A : Type 0} (P : Paper) (d : List ℕ) where
  -- a refusal that is passed on
  pub under-not : (n m : ℕ) (r : Refusal) (x : A) → r ≡ refusal_under P d m → 0 < m → n ≡ m → Err r ≡ answer_under P d n x
  unfolding answer_under
  under-not n m r x e l p = rw (p, ne_eqb m 0 (λ q. omega arith)) (ap Err e)

  -- one of the call's own
  pub under-refused : (n m : ℕ) (r : Refusal) (x : A) → r ≡ refusal_of m → 7 < m → n ≡ m → Err r ≡ answer_under P d n x
  under-refused n m r x e l p = under-not n m r x (e ∙ sym (under-high P d m l)) (omega arith) p

  pub under-done : (n : ℕ) (x y : A) → n ≡ 0 → x ≡ y → Ok x ≡ answer_under P d n y
  unfolding answer_under
  under-done n x y p e = rw (eq-eqb n 0 p) (ap Ok e)

  -- what an answer says of its number
  pub under-ok : (n : ℕ) (x y : A) → answer_under P d n x ≡ Ok y → n ≡ 0
  unfolding answer_under
  under-ok zero x y e = refl
  under-ok (suc n) x y e = let z = rw (ne_eqb (suc n) 0 (λ q. omega arith)) at e in cc

  pub under-err : (n : ℕ) (x : A) (r : Refusal) → answer_under P d n x ≡ Err r → n ≢ 0
  unfolding answer_under
  under-err zero x r e q = cc
  under-err (suc n) x r e q = omega (arith, q)

module _ {A : Type 0} where
  pub of-refused : (n m : ℕ) (r : Refusal) (x : A) → r ≡ refusal_of m → 0 < m → n ≡ m → Err r ≡ answer_of n x
  unfolding answer_of
  of-refused n m r x e l p = rw (p, ne_eqb m 0 (λ q. omega arith)) (ap Err e)

  pub of-done : (n : ℕ) (x y : A) → n ≡ 0 → x ≡ y → Ok x ≡ answer_of n y
  unfolding answer_of
  of-done n x y p e = rw (eq-eqb n 0 p) (ap Ok e)

  pub of-ok : (n : ℕ) (x y : A) → answer_of n x ≡ Ok y → n ≡ 0
  unfolding answer_of
  of-ok zero x y e = refl
  of-ok (suc n) x y e = let z = rw (ne_eqb (suc n) 0 (λ q. omega arith)) at e in cc

  pub of-err : (n : ℕ) (x : A) (r : Refusal) → answer_of n x ≡ Err r → n ≢ 0
  unfolding answer_of
  of-err zero x r e q = cc
  of-err (suc n) x r e q = omega (arith, q)
