-- The attachment number counts accepted attaches, and a walk of an earlier attachment is never accepted again. Assumes nothing.
use mathlib.Core.Path.{◌≡◌, refl, ap, ◌∙◌}
use mathlib.Core.Bool.{Bool, true, false, cond, not, false≢true}
use mathlib.Core.List.{List, [], ◌∷◌}
use Prim.Native.Nat.{ℕ, zero, suc, ◌+◌, ◌≤◌, ◌<◌}
use native.Mathlib.Omega.{arith}
use lib.Dec.{eqb}
use lib.ListN.{length, replicate, length-replicate}
use borrow.Author.Tests.{eqb-true, eqb-false, eq-eqb, ne_eqb}
use Rattle.addresses.specs.Addresses.{All}
use Rattle.description.specs.Description.{IsBytes}
use Rattle.form.specs.Order.{rule, first}
use Rattle.station.specs.declared.Station.{Station}
use Rattle.station.specs.Paper.{Paper}
use Rattle.station.specs.Attachment.{wrong_seat, detach_refusal, detach_station, detach_seat, attach_refusal, attach_station, attach_seat, change_refusal, change_station, change_seat}
use Rattle.station.proofs.Changes.{detach-number}
use Rattle.station.proofs.Attachments.{detach-done, attach-passes, attach-done}
use Rattle.walk.specs.declared.Walk.{Walk}
use Rattle.walk.specs.Orders.{Ask, wrong_registers, other_number, standing, open_refusal, step_refusal, show_refusal}
use Rattle.walk.specs.Steps.{open_walk, moved_on, step_walk}
use Rattle.histories.specs.Calls.{Desk, Call, attaching, detaching, changing, opening, stepping, showing, numbering, writing, Parts, with_walk, call, calls, attaches_by, attaches, handed_by, handed, Spares}
use Rattle.histories.specs.Lawful.{Lawful, Consistent}
use Rattle.histories.specs.Outcomes.{stale_number}
use Rattle.histories.proofs.Attachments.{length-seat_of, idle-sound, call-sound}
use Rattle.histories.proofs.Walks.{step-held, show-held}
use Rattle.histories.proofs.Turns.{put_same, put_other, open_other, step-moved, step_left}

module _ (P : Paper) where
  -- ---- the number

  attach-number : (k : Desk) (d : List ℕ) (b : IsBytes d) → (attach_station P k.station k.seat d).number ≡ attaches_by P k (attaching d b) + k.station.number
  attach-number k d b = by (attach_refusal P k.station k.seat d) refl
    where
      by : (n : ℕ) → attach_refusal P k.station k.seat d ≡ n → (attach_station P k.station k.seat d).number ≡ attaches_by P k (attaching d b) + k.station.number
      by zero e = rw ((attach-done P k.station k.seat d e).0, e) (omega arith)
      by (suc n) e = unfold attach_station in rw e (omega arith)

  change-number : (k : Desk) (d : List ℕ) (b : IsBytes d) → (change_station P k.station k.seat d).number ≡ attaches_by P k (changing d b) + k.station.number
  unfolding change_refusal change_station
  change-number k d b = omega (arith, attach-number (call P k detaching) d b, detach-number k.station k.seat)

  call-number : (k : Desk) (c : Call) → (call P k c).station.number ≡ attaches_by P k c + k.station.number
  call-number k (attaching d b) = attach-number k d b
  call-number k detaching = detach-number k.station k.seat ∙ omega arith
  call-number k (changing d b) = change-number k d b
  call-number k (opening i) = omega arith
  call-number k (stepping i a) = omega arith
  call-number k (showing i a) = omega arith
  call-number k (numbering i a) = omega arith
  call-number k (writing i w) = omega arith

  -- it counts the accepted attaches, so it never falls
  pub number_counts : (cs : List Call) (k : Desk) → (calls P k cs).station.number ≡ attaches P k cs + k.station.number
  number_counts [] k = omega arith
  number_counts (c ∷ cs) k = number_counts cs (call P k c) ∙ omega (arith, call-number k c)

  -- it never passes the last
  change-bounded : (k : Desk) (d : List ℕ) (b : IsBytes d) → k.station.number ≤ 4294967295 → attaches_by P k (changing d b) + k.station.number ≤ 4294967295
  unfolding change_refusal
  change-bounded k d b l = by (attach_refusal P (detach_station k.station k.seat) (detach_seat k.station k.seat) d) refl
    where
      by : (n : ℕ) → attach_refusal P (detach_station k.station k.seat) (detach_seat k.station k.seat) d ≡ n → attaches_by P k (changing d b) + k.station.number ≤ 4294967295
      by zero e = rw e (omega (arith, (attach-passes P (detach_station k.station k.seat) (detach_seat k.station k.seat) d e).more, detach-number k.station k.seat))
      by (suc n) e = rw e (omega arith)

  call-bounded : (k : Desk) (c : Call) → k.station.number ≤ 4294967295 → attaches_by P k c + k.station.number ≤ 4294967295
  call-bounded k (attaching d b) l = by (attach_refusal P k.station k.seat d) refl
    where
      by : (n : ℕ) → attach_refusal P k.station k.seat d ≡ n → attaches_by P k (attaching d b) + k.station.number ≤ 4294967295
      by zero e = rw e (omega (arith, (attach-passes P k.station k.seat d e).more))
      by (suc n) e = rw e (omega arith)
  call-bounded k detaching l = omega arith
  call-bounded k (changing d b) l = change-bounded k d b l
  call-bounded k (opening i) l = omega arith
  call-bounded k (stepping i a) l = omega arith
  call-bounded k (showing i a) l = omega arith
  call-bounded k (numbering i a) l = omega arith
  call-bounded k (writing i w) l = omega arith

  pub calls-bounded : (cs : List Call) (k : Desk) → k.station.number ≤ 4294967295 → (calls P k cs).station.number ≤ 4294967295
  calls-bounded [] k l = l
  calls-bounded (c ∷ cs) k l = calls-bounded cs (call P k c) (rw (call-number k c) (call-bounded k c l))

  -- a record keeps its number, whatever steps are made from it
  step-number : (s : Station) (seat : List ℕ) (w : Walk) (a : Ask) → (step_walk P s seat w a).number ≡ w.number
  step-number s seat w a = by (step_refusal P s seat w a) refl
    where
      by : (n : ℕ) → step_refusal P s seat w a ≡ n → (step_walk P s seat w a).number ≡ w.number
      by zero e = rw (step-moved P s seat w a e) (unfold moved_on in refl)
      by (suc n) e = rw (step_left P s seat w a n e)

  call-keeps : (k : Desk) (c : Call) (i : ℕ) → Spares i c → ((call P k c).walks i).number ≡ (k.walks i).number
  call-keeps k (attaching d b) i h = refl
  call-keeps k detaching i h = refl
  call-keeps k (changing d b) i h = refl
  call-keeps k (opening j) i h = ap (λ (w : Walk). w.number) (open_other P k i j h)
  call-keeps k (stepping j a) i h = by (eqb i j) refl
    where
      by : (b : Bool) → eqb i j ≡ b → (with_walk k.walks j (step_walk P k.station k.seat (k.walks j) a) i).number ≡ (k.walks i).number
      by true e =
          let q = eqb-true i j e in
          rw (← q) (ap (λ (w : Walk). w.number) (put_same k.walks i (step_walk P k.station k.seat (k.walks i) a)) ∙ step-number k.station k.seat (k.walks i) a)
      by false e = ap (λ (w : Walk). w.number) (put_other k.walks i j (step_walk P k.station k.seat (k.walks j) a) (eqb-false i j e))
  call-keeps k (showing j a) i h = refl
  call-keeps k (numbering j a) i h = refl
  call-keeps k (writing j w) i h = ap (λ (v : Walk). v.number) (put_other k.walks i j w h)

  pub calls-keep : (cs : List Call) (k : Desk) (i : ℕ) → All (Spares i) cs → ((calls P k cs).walks i).number ≡ (k.walks i).number
  calls-keep [] k i h = refl
  calls-keep (c ∷ cs) k i h = calls-keep cs (call P k c) i h.1 ∙ call-keeps k c i h.0

  -- ---- after a module has left at number n

  pub record Gone (n : ℕ) (s : Station) (seat : List ℕ) : Type 0 where
    pub low : n ≤ s.number
    pub past : s.attached ≡ true → n < s.number
    pub full : length seat ≡ 586
    pub sound : Consistent P s seat

  attach-gone : Lawful P → (n : ℕ) (k : Desk) (d : List ℕ) (b : IsBytes d) → Gone n k.station k.seat
      → Gone n (attach_station P k.station k.seat d) (attach_seat P k.station k.seat d)
  attach-gone L n k d b h = by (attach_refusal P k.station k.seat d) refl
    where
      by : (m : ℕ) → attach_refusal P k.station k.seat d ≡ m → Gone n (attach_station P k.station k.seat d) (attach_seat P k.station k.seat d)
      by zero e =
          let t = attach-done P k.station k.seat d e in
          let l = h.low in
          record {
            low = rw t.0 (omega arith);
            past = rw t.0 (λ busy. omega arith);
            full = ap length t.1 ∙ length-seat_of d (L.short d b (attach-passes P k.station k.seat d e).accepted);
            sound = call-sound P k (attaching d b) h.sound;
          }
      by (suc m) e = unfold attach_station attach_seat in rw e h

  pub detach-gone : (n : ℕ) (k : Desk) → n ≤ k.station.number → detach_refusal k.station k.seat ≡ 0 → Gone n (detach_station k.station k.seat) (detach_seat k.station k.seat)
  detach-gone n k l e =
      let t = detach-done k.station k.seat e in
      rw (t.0, t.1) (record { low = l; past = λ b. absurd (false≢true b); full = length-replicate {A = ℕ} 586 0; sound = idle-sound P k.station.number (replicate 586 0) })

  change-gone : Lawful P → (n : ℕ) (k : Desk) (d : List ℕ) (b : IsBytes d) → Gone n (detach_station k.station k.seat) (detach_seat k.station k.seat)
      → Gone n (change_station P k.station k.seat d) (change_seat P k.station k.seat d)
  unfolding change_station change_seat
  change-gone L n k d b h = attach-gone L n (call P k detaching) d b h

  -- by the call c
  pub parts-gone : Lawful P → (n : ℕ) (k : Desk) (c : Call) → n ≤ k.station.number → Parts k c → Gone n (call P k c).station (call P k c).seat
  parts-gone L n k (attaching d b) l e = absurd e
  parts-gone L n k detaching l e = detach-gone n k l e
  parts-gone L n k (changing d b) l e = change-gone L n k d b (detach-gone n k l e)
  parts-gone L n k (opening i) l e = absurd e
  parts-gone L n k (stepping i a) l e = absurd e
  parts-gone L n k (showing i a) l e = absurd e
  parts-gone L n k (numbering i a) l e = absurd e
  parts-gone L n k (writing i w) l e = absurd e

  detached-gone : (n : ℕ) (k : Desk) → Gone n k.station k.seat → Gone n (detach_station k.station k.seat) (detach_seat k.station k.seat)
  detached-gone n k h = by (detach_refusal k.station k.seat) refl
    where
      by : (m : ℕ) → detach_refusal k.station k.seat ≡ m → Gone n (detach_station k.station k.seat) (detach_seat k.station k.seat)
      by zero e = detach-gone n k h.low e
      by (suc m) e = unfold detach_station detach_seat in rw e h

  pub call-gone : Lawful P → (n : ℕ) (k : Desk) (c : Call) → Gone n k.station k.seat → Gone n (call P k c).station (call P k c).seat
  call-gone L n k (attaching d b) h = attach-gone L n k d b h
  call-gone L n k detaching h = detached-gone n k h
  call-gone L n k (changing d b) h = change-gone L n k d b (detached-gone n k h)
  call-gone L n k (opening i) h = h
  call-gone L n k (stepping i a) h = h
  call-gone L n k (showing i a) h = h
  call-gone L n k (numbering i a) h = h
  call-gone L n k (writing i w) h = h

  pub calls-gone : Lawful P → (n : ℕ) (cs : List Call) (k : Desk) → Gone n k.station k.seat → Gone n (calls P k cs).station (calls P k cs).seat
  calls-gone L n [] k h = h
  calls-gone L n (c ∷ cs) k h = calls-gone L n cs (call P k c) (call-gone L n k c h)

  right-idle : (s : Station) (seat : List ℕ) → s.length.0 ≡ 0 → length seat ≡ 586 → wrong_seat s seat ≡ false
  unfolding wrong_seat
  right-idle s seat e f = rw (e, eq-eqb (length seat) 586 f)

  step-idle : (s : Station) (seat : List ℕ) (w : Walk) (a : Ask) → wrong_seat s seat ≡ false → s.attached ≡ false
      → step_refusal P s seat w a ≡ cond (wrong_registers P a) 11 13
  unfolding step_refusal
  step-idle s seat w a r e = rw (r, e)

  show-idle : (s : Station) (seat : List ℕ) (w : Walk) (a : Ask) → wrong_seat s seat ≡ false → s.attached ≡ false
      → show_refusal P s seat w a ≡ cond (wrong_registers P a) 11 13
  unfolding show_refusal
  show-idle s seat w a r e = rw (r, e)

  -- any record whose number is at most n is refused
  pub gone_refused : Lawful P → (n : ℕ) (s : Station) (seat : List ℕ) (w : Walk) (a : Ask) → Gone n s seat → w.number ≤ n
      → (step_refusal P s seat w a ≡ stale_number P s a) × (show_refusal P s seat w a ≡ stale_number P s a)
  unfolding stale_number other_number
  gone_refused L n s seat w a g l = by s.attached refl
    where
      by : (b : Bool) → s.attached ≡ b → (step_refusal P s seat w a ≡ stale_number P s a) × (show_refusal P s seat w a ≡ stale_number P s a)
      by true e =
          let h = g.sound.busy e in
          let m = g.past e in (
            step-held P L s seat h.0 w a h.1 ∙ rw (e, ne_eqb w.number s.number (λ q. omega arith)),
            show-held P L s seat h.0 w a h.1 ∙ rw (e, ne_eqb w.number s.number (λ q. omega arith)),
          )
      by false e =
          let r = right-idle s seat (g.sound.idle e) g.full in
          (rw (step-idle s seat w a r e, e), rw (show-idle s seat w a r e, e))

  -- ---- and hands nothing back

  pub stale-some : (s : Station) (a : Ask) → (m : ℕ) × (stale_number P s a ≡ suc m)
  unfolding stale_number
  stale-some s a = by (wrong_registers P a) (not s.attached)
    where
      by : (b c : Bool) → (m : ℕ) × (first (rule 11 b ∷ rule 13 c ∷ rule 17 true ∷ []) ≡ suc m)
      by true c = (10, refl)
      by false true = (12, refl)
      by false false = (16, refl)

  step-silent : Lawful P → (n i j : ℕ) (k : Desk) (a : Ask) → Gone n k.station k.seat → (k.walks i).number ≤ n → handed_by P i k (stepping j a) ≡ []
  step-silent L n i j k a g l = by (eqb i j) refl
    where
      by : (b : Bool) → eqb i j ≡ b → handed_by P i k (stepping j a) ≡ []
      by true e =
          let q = eqb-true i j e in
          let w = stale-some k.station a in
          rw (e, (gone_refused L n k.station k.seat (k.walks j) a g (rw (← q) l)).0, w.1)
      by false e = rw e

  call-silent : Lawful P → (n i : ℕ) (k : Desk) (c : Call) → Gone n k.station k.seat → (k.walks i).number ≤ n → handed_by P i k c ≡ []
  call-silent L n i k (attaching d b) g l = refl
  call-silent L n i k detaching g l = refl
  call-silent L n i k (changing d b) g l = refl
  call-silent L n i k (opening j) g l = refl
  call-silent L n i k (stepping j a) g l = step-silent L n i j k a g l
  call-silent L n i k (showing j a) g l = refl
  call-silent L n i k (numbering j a) g l = refl
  call-silent L n i k (writing j w) g l = refl

  pub calls-silent : Lawful P → (n i : ℕ) (cs : List Call) (k : Desk) → Gone n k.station k.seat → (k.walks i).number ≤ n → All (Spares i) cs → handed P i k cs ≡ []
  calls-silent L n i [] k g l h = refl
  calls-silent L n i (c ∷ cs) k g l h =
      rw (call-silent L n i k c g l) (calls-silent L n i cs (call P k c) (call-gone L n k c g) (rw (call-keeps k c i h.0) l) h.1)

  -- the call at which a module leaves hands nothing back either
  pub parts-silent : (i : ℕ) (k : Desk) (c : Call) → Parts k c → handed_by P i k c ≡ []
  parts-silent i k (attaching d b) e = refl
  parts-silent i k detaching e = refl
  parts-silent i k (changing d b) e = refl
  parts-silent i k (opening j) e = refl
  parts-silent i k (stepping j a) e = absurd e
  parts-silent i k (showing j a) e = refl
  parts-silent i k (numbering j a) e = refl
  parts-silent i k (writing j w) e = refl

  -- nor touches a walk's record
  pub parts-keep : (i : ℕ) (k : Desk) (c : Call) → Parts k c → (call P k c).walks i ≡ k.walks i
  parts-keep i k (attaching d b) e = refl
  parts-keep i k detaching e = refl
  parts-keep i k (changing d b) e = refl
  parts-keep i k (opening j) e = absurd e
  parts-keep i k (stepping j a) e = absurd e
  parts-keep i k (showing j a) e = refl
  parts-keep i k (numbering j a) e = refl
  parts-keep i k (writing j w) e = absurd e

  -- a walk that was opened keeps its station's number
  pub open_number : (k : Desk) (i : ℕ) → open_refusal P k.station k.seat ≡ 0 → ((call P k (opening i)).walks i).number ≡ k.station.number
  unfolding open_walk standing
  open_number k i e = rw (e, put_same k.walks i (open_walk P k.station k.seat))
