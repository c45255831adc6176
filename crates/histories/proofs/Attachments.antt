-- What is attached through a history of calls. Assumes nothing.
use mathlib.Core.Path.{◌≡◌, refl, sym, ap, ◌∙◌}
use mathlib.Core.Bool.{true, false, false≢true}
use mathlib.Core.List.{List, [], ◌∷◌}
use Prim.Native.Nat.{ℕ, zero, suc, ◌-◌, ◌≤◌}
use native.Mathlib.Omega.{arith}
use lib.ListN.{length, replicate, length-append, length-replicate}
use lib.Seq.{take_at}
use borrow.Author.Tests.{le-ltb, eq-eqb}
use Rattle.description.specs.Description.{IsBytes}
use Rattle.station.specs.declared.Station.{Station}
use Rattle.station.specs.Paper.{Paper}
use Rattle.station.specs.Attachment.{new_station, wrong_seat, described, seat_of, holding, detach_refusal, detach_station, detach_seat, attach_refusal, attach_station, attach_seat, change_refusal, change_station, change_seat}
use Rattle.station.proofs.Changes.{change-left, change-done}
use Rattle.station.proofs.Attachments.{detach-left, detach-done, attach-passes, attach-left, attach-done}
use Rattle.histories.specs.Calls.{Desk, Call, attaching, detaching, changing, opening, stepping, showing, numbering, writing, Arrival, by_attach, by_change, arriving, call, calls, answer, Along, Stays}
use Rattle.histories.specs.Lawful.{Lawful, Holds, Consistent}

pub length-seat_of : (d : List ℕ) → length d ≤ 586 → length (seat_of d) ≡ 586
unfolding seat_of
length-seat_of d h = simp (length-append, length-replicate) (omega arith)

module _ (P : Paper) where
  pub attach-holds : (s : Station) (seat d : List ℕ) → IsBytes d → attach_refusal P s seat d ≡ 0 → Holds P (attach_station P s seat d) (attach_seat P s seat d) d
  attach-holds s seat d b e =
      let t = attach-done P s seat d e in
      record {
        attached = ap (λ (z : Station). z.attached) t.0;
        bytes = b;
        accepted = (attach-passes P s seat d e).accepted;
        long = ap (λ (z : Station). z.length.0) t.0;
        filled = t.1;
      }

  change-holds : (s : Station) (seat d : List ℕ) → IsBytes d → change_refusal P s seat d ≡ 0 → Holds P (change_station P s seat d) (change_seat P s seat d) d
  unfolding change_refusal change_station change_seat
  change-holds s seat d b e = attach-holds (detach_station s seat) (detach_seat s seat) d b e

  -- by an attach or by a change
  pub arrival_holds : (k : Desk) (v : Arrival) (d : List ℕ) (b : IsBytes d) → answer P k (arriving v d b) ≡ 0
      → Holds P (call P k (arriving v d b)).station (call P k (arriving v d b)).seat d
  arrival_holds k by_attach d b e = attach-holds k.station k.seat d b e
  arrival_holds k by_change d b e = change-holds k.station k.seat d b e

  pub arrival_done : (k : Desk) (v : Arrival) (d : List ℕ) (b : IsBytes d) → answer P k (arriving v d b) ≡ 0
      → ((call P k (arriving v d b)).station ≡ holding k.station d) × ((call P k (arriving v d b)).seat ≡ seat_of d)
  arrival_done k by_attach d b e = attach-done P k.station k.seat d e
  arrival_done k by_change d b e = change-done P k.station k.seat d e

  -- ---- what a held description says

  pub described-held : (s : Station) (seat d : List ℕ) → Holds P s seat d → described s seat ≡ d
  unfolding described seat_of
  described-held s seat d h = rw (h.long, h.filled) (take_at d (replicate (586 - length d) 0) (length d) refl)

  pub right-held : Lawful P → (s : Station) (seat d : List ℕ) → Holds P s seat d → wrong_seat s seat ≡ false
  unfolding wrong_seat
  right-held L s seat d h =
      let l = L.short d h.bytes h.accepted in
      rw (h.filled, h.long, eq-eqb (length (seat_of d)) 586 (length-seat_of d l), le-ltb 586 (length d) l)

  -- ---- no module leaves: nothing changes the station or the seat

  pub record Same (k k' : Desk) : Type 0 where
    pub station : k'.station ≡ k.station
    pub seat : k'.seat ≡ k.seat

  attach-same : (k : Desk) (d : List ℕ) (b : IsBytes d) → k.station.attached ≡ true → Same k (call P k (attaching d b))
  attach-same k d b busy =
      let t = attach-left P k.station k.seat d (λ e. false≢true (sym (attach-passes P k.station k.seat d e).idle ∙ busy)) in
      record { station = sym t.0; seat = sym t.1 }

  change-same : (k : Desk) (d : List ℕ) (b : IsBytes d) → k.station.attached ≡ true → Stays P k (changing d b) → Same k (call P k (changing d b))
  change-same k d b busy h =
      let t = change-left P k.station k.seat d h (λ e. false≢true (sym (attach-passes P k.station k.seat d e).idle ∙ busy)) in
      record { station = t.0; seat = t.1 }

  pub call_same : (k : Desk) (c : Call) → k.station.attached ≡ true → Stays P k c → Same k (call P k c)
  call_same k (attaching d b) busy h = attach-same k d b busy
  call_same k detaching busy h = let t = detach-left k.station k.seat h in record { station = sym t.0; seat = sym t.1 }
  call_same k (changing d b) busy h = change-same k d b busy h
  call_same k (opening i) busy h = record { station = refl; seat = refl }
  call_same k (stepping i a) busy h = record { station = refl; seat = refl }
  call_same k (showing i a) busy h = record { station = refl; seat = refl }
  call_same k (numbering i a) busy h = record { station = refl; seat = refl }
  call_same k (writing i w) busy h = record { station = refl; seat = refl }

  pub calls_same : (k : Desk) (cs : List Call) → k.station.attached ≡ true → Along P (Stays P) k cs → Same k (calls P k cs)
  calls_same k [] busy h = record { station = refl; seat = refl }
  calls_same k (c ∷ cs) busy h =
      let s = call_same k c busy h.0 in
      let t = calls_same (call P k c) cs (ap (λ (z : Station). z.attached) s.station ∙ busy) h.1 in
      record { station = t.station ∙ s.station; seat = t.seat ∙ s.seat }

  pub same-holds : (k k' : Desk) (d : List ℕ) → Same k k' → Holds P k.station k.seat d → Holds P k'.station k'.seat d
  same-holds k k' d s h = rw (s.station, s.seat) h

  -- ---- what calls can lead to (C6)

  pub idle-sound : (n : ℕ) (seat : List ℕ) → Consistent P (record { attached = false; length = record { 0 = 0 }; number = n }) seat
  idle-sound n seat = record { idle = λ f. refl; busy = λ b. absurd (false≢true b) }

  attach-sound : (k : Desk) (d : List ℕ) → IsBytes d → Consistent P k.station k.seat → Consistent P (attach_station P k.station k.seat d) (attach_seat P k.station k.seat d)
  attach-sound k d b h = by (attach_refusal P k.station k.seat d) refl
    where
      by : (n : ℕ) → attach_refusal P k.station k.seat d ≡ n → Consistent P (attach_station P k.station k.seat d) (attach_seat P k.station k.seat d)
      by zero e =
          let held = attach-holds k.station k.seat d b e in
          record { idle = λ f. absurd (false≢true (sym f ∙ held.attached)); busy = λ t. (d, held) }
      by (suc n) e = unfold attach_station attach_seat in rw e h

  detach-sound : (k : Desk) → Consistent P k.station k.seat → Consistent P (detach_station k.station k.seat) (detach_seat k.station k.seat)
  detach-sound k h = by (detach_refusal k.station k.seat) refl
    where
      by : (n : ℕ) → detach_refusal k.station k.seat ≡ n → Consistent P (detach_station k.station k.seat) (detach_seat k.station k.seat)
      by zero e =
          let t = detach-done k.station k.seat e in
          rw (t.0, t.1) (idle-sound k.station.number (replicate 586 0))
      by (suc n) e = unfold detach_station detach_seat in rw e h

  change-sound : (k : Desk) (d : List ℕ) → IsBytes d → Consistent P k.station k.seat → Consistent P (change_station P k.station k.seat d) (change_seat P k.station k.seat d)
  unfolding change_station change_seat
  change-sound k d b h = attach-sound (call P k detaching) d b (detach-sound k h)

  pub call-sound : (k : Desk) (c : Call) → Consistent P k.station k.seat → Consistent P (call P k c).station (call P k c).seat
  call-sound k (attaching d b) h = attach-sound k d b h
  call-sound k detaching h = detach-sound k h
  call-sound k (changing d b) h = change-sound k d b h
  call-sound k (opening i) h = h
  call-sound k (stepping i a) h = h
  call-sound k (showing i a) h = h
  call-sound k (numbering i a) h = h
  call-sound k (writing i w) h = h

  pub calls-sound : (k : Desk) (cs : List Call) → Consistent P k.station k.seat → Consistent P (calls P k cs).station (calls P k cs).seat
  calls-sound k [] h = h
  calls-sound k (c ∷ cs) h = calls-sound (call P k c) cs (call-sound k c h)

  pub new_sound : (seat : List ℕ) → Consistent P new_station seat
  unfolding new_station
  new_sound seat = idle-sound 0 seat
