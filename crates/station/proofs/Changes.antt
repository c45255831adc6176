-- One call to change modules (request 2026-09): which number, exactly, and what is left. Assumes nothing.
use Rattle.std.specs.Prelude.{Result}
use mathlib.Core.Path.{◌≡◌, refl, sym, ap₂, ◌∙◌}
use mathlib.Core.Logic.{◌↔◌, ◌≢◌}
use mathlib.Core.Bool.{Bool, true, false}
use mathlib.Core.List.{List}
use Prim.Native.Nat.{ℕ, zero, suc}
use native.Mathlib.Omega.{arith}
use lib.Dec.{leb}
use lib.ListN.{replicate}
use Rattle.form.specs.Order.{first, NoneHolds, Answers, Positive}
use Rattle.form.specs.declared.Refusal.{Refusal}
use Rattle.form.proofs.Order.{accepts-exactly, refuses-exactly}
use Rattle.station.specs.declared.Station.{Station}
use Rattle.station.specs.Outcome.{leaves}
use Rattle.station.specs.Paper.{Paper, verdict_of, answer_under}
use Rattle.station.specs.Attachment.{wrong_seat, seat_of, freed, holding, detach_refusal, detach_station, detach_seat, attach_refusal, attach_station, attach_seat, change_refusal, change_station, change_seat, change_order}
use Rattle.station.proofs.Attachments.{detach-wrong, detach-idle, detach-right, detach-left, detach-done, attach-wrong, attach-left, attach-done}

-- ---- what the detach of a change leaves

-- a seat that a detach has zeroed is no wrong one
pub zeros-right : (n : ℕ) → wrong_seat (record { attached = false; length = record { 0 = 0 }; number = n }) (replicate 586 0) ≡ false
unfolding wrong_seat
zeros-right n = refl

pub detach-number : (s : Station) (seat : List ℕ) → (detach_station s seat).number ≡ s.number
unfolding detach_station
detach-number s seat = by (detach_refusal s seat)
  where
    by : (n : ℕ) → (leaves n (freed s) s).number ≡ s.number
    by zero = refl
    by (suc n) = refl

pub wrong_refuses : (s : Station) (seat : List ℕ) → wrong_seat s seat ≡ true → detach_refusal s seat ≢ 0
wrong_refuses s seat e z = omega (arith, detach-wrong s seat e, z)

pub idle-refuses : (s : Station) (seat : List ℕ) → s.attached ≡ false → detach_refusal s seat ≢ 0
idle-refuses s seat a z = by (wrong_seat s seat) refl
  where
    by : (b : Bool) → wrong_seat s seat ≡ b → ⊥
    by true e = wrong_refuses s seat e z
    by false e = omega (arith, detach-idle s seat e a, z)

module _ (P : Paper) (s : Station) (seat d : List ℕ) where
  -- ---- a refused detach: the change is the attach

  pub change-stays : detach_refusal s seat ≢ 0 → change_refusal P s seat d ≡ attach_refusal P s seat d
  unfolding change_refusal
  change-stays h =
      let t = detach-left s seat h in
      ap₂ (λ (x : Station) (z : List ℕ). attach_refusal P x z d) (sym t.0) (sym t.1)

  -- and leaves what the attach leaves
  pub change-left : detach_refusal s seat ≢ 0 → attach_refusal P s seat d ≢ 0 → (change_station P s seat d ≡ s) × (change_seat P s seat d ≡ seat)
  unfolding change_station change_seat
  change-left h n =
      let t = detach-left s seat h in
      let u = attach-left P s seat d n in (
        ap₂ (λ (x : Station) (z : List ℕ). attach_station P x z d) (sym t.0) (sym t.1) ∙ sym u.0,
        ap₂ (λ (x : Station) (z : List ℕ). attach_seat P x z d) (sym t.0) (sym t.1) ∙ sym u.1,
      )

  -- ---- the order: "11 first, then those of attach without 14"

  order-wrong : wrong_seat s seat ≡ true → 11 ≡ first (change_order P s seat d)
  order-wrong e = rw e

  order-idle : wrong_seat s seat ≡ false → s.attached ≡ false → attach_refusal P s seat d ≡ first (change_order P s seat d)
  unfolding attach_refusal
  order-idle e a = rw (e, a)

  order-busy : wrong_seat s seat ≡ false → attach_refusal P (freed s) (replicate 586 0) d ≡ first (change_order P s seat d)
  unfolding attach_refusal
  order-busy e = rw (e, zeros-right s.number)

  change-parted : detach_refusal s seat ≡ 0 → change_refusal P s seat d ≡ attach_refusal P (freed s) (replicate 586 0) d
  unfolding change_refusal
  change-parted z =
      let t = detach-done s seat z in
      ap₂ (λ (x : Station) (y : List ℕ). attach_refusal P x y d) t.0 t.1

  pub change-order : change_refusal P s seat d ≡ first (change_order P s seat d)
  change-order = by (wrong_seat s seat) refl s.attached refl
    where
      by : (b : Bool) → wrong_seat s seat ≡ b → (c : Bool) → s.attached ≡ c → change_refusal P s seat d ≡ first (change_order P s seat d)
      by true e c a = change-stays (wrong_refuses s seat e) ∙ attach-wrong P s seat d e ∙ order-wrong e
      by false e true a = change-parted (detach-right s seat e a) ∙ order-busy e
      by false e false a = change-stays (idle-refuses s seat a) ∙ order-idle e a

  change-positive : Positive (change_order P s seat d)
  change-positive = (omega arith, (omega arith, P.counted d))

  pub change-accepts : (change_refusal P s seat d ≡ 0) ↔ NoneHolds (change_order P s seat d)
  change-accepts = rw change-order (accepts-exactly (change_order P s seat d) change-positive)

  pub change-refuses : (n : ℕ) → n ≢ 0 → (change_refusal P s seat d ≡ n) ↔ Answers (change_order P s seat d) n
  change-refuses n h = rw change-order (refuses-exactly (change_order P s seat d) n h)

  pub wrong_eleven : wrong_seat s seat ≡ true → change_refusal P s seat d ≡ 11
  wrong_eleven e = change-order ∙ sym (order-wrong e)

  -- 11 is the wrong seat's alone, where no description is refused under it
  pub change_eleven : verdict_of P d ≢ 11 → change_refusal P s seat d ≡ 11 → wrong_seat s seat ≡ true
  unfolding verdict_of
  change_eleven v e = by (wrong_seat s seat) refl (leb 4294967295 s.number) refl
    where
      by : (b : Bool) → wrong_seat s seat ≡ b → (c : Bool) → leb 4294967295 s.number ≡ c → wrong_seat s seat ≡ true
      by true f c g = f
      by false f true g = absurd (omega (arith, e, change-order ∙ order-last f g))
        where
          order-last : wrong_seat s seat ≡ false → leb 4294967295 s.number ≡ true → first (change_order P s seat d) ≡ 15
          order-last p q = rw (p, q)
      by false f false g = absurd (v (sym (order-judged f g) ∙ sym change-order ∙ e))
        where
          order-judged : wrong_seat s seat ≡ false → leb 4294967295 s.number ≡ false → first (change_order P s seat d) ≡ first (P.order d)
          order-judged p q = rw (p, q)

  -- ---- what is left

  -- "Refused under 11 it changes nothing"
  pub change-wrong : wrong_seat s seat ≡ true → (change_station P s seat d ≡ s) × (change_seat P s seat d ≡ seat)
  change-wrong e = change-left (wrong_refuses s seat e) (λ z. omega (arith, attach-wrong P s seat d e, z))

  -- where none was attached, a refusal changes nothing
  pub change-idle : s.attached ≡ false → change_refusal P s seat d ≢ 0 → (change_station P s seat d ≡ s) × (change_seat P s seat d ≡ seat)
  change-idle a n = change-left (idle-refuses s seat a) (λ z. n (change-stays (idle-refuses s seat a) ∙ z))

  -- "the station ends detached, with a zero seat if one was attached"
  pub change-parts : detach_refusal s seat ≡ 0 → change_refusal P s seat d ≢ 0 → (change_station P s seat d ≡ freed s) × (change_seat P s seat d ≡ replicate 586 0)
  unfolding change_refusal change_station change_seat
  change-parts z n =
      let t = detach-done s seat z in
      let u = attach-left P (detach_station s seat) (detach_seat s seat) d n in
      (sym u.0 ∙ t.0, sym u.1 ∙ t.1)

  -- accepted, it leaves what an attach leaves
  pub change-done : change_refusal P s seat d ≡ 0 → (change_station P s seat d ≡ holding s d) × (change_seat P s seat d ≡ seat_of d)
  unfolding change_refusal change_station change_seat
  change-done e =
      let t = attach-done P (detach_station s seat) (detach_seat s seat) d e in
      (t.0 ∙ (λ j. record { attached = true; length = (holding s d).length; number = suc (detach-number s seat j) }), t.1)

  -- ---- as code has it: what a detach and an attach ensure, one after the other

  pub change-composed : (x y : Station) (r : Result (Unit {0}) Refusal) (mid after : List ℕ) → x ≡ detach_station s seat → mid ≡ detach_seat s seat
      → (r ≡ answer_under P d (attach_refusal P x mid d) tt) × (y ≡ attach_station P x mid d) × (after ≡ attach_seat P x mid d)
      → (r ≡ answer_under P d (change_refusal P s seat d) tt) × (y ≡ change_station P s seat d) × (after ≡ change_seat P s seat d)
  unfolding change_refusal change_station change_seat
  change-composed x y r mid after e f h = rw (← e, ← f) h
