-- Request 2026-09: one call to change modules, by itself and in a history. Assumes nothing but what `Lawful` says of accepted descriptions.
use mathlib.Core.Path.{◌≡◌, refl, sym, ap, subst, ◌∙◌}
use mathlib.Core.Logic.{◌≢◌, ⊎_elim}
use mathlib.Core.Bool.{Bool, true, false, cond, not}
use mathlib.Core.List.{List, ◌∷◌}
use Prim.Native.Nat.{ℕ, zero, suc, ◌≤◌}
use native.Mathlib.Omega.{arith}
use lib.Dec.{eqb}
use lib.ListN.{replicate}
use borrow.Author.Tests.{ne_eqb, not-false}
use Rattle.addresses.specs.Addresses.{All}
use Rattle.description.specs.Description.{IsBytes}
use Rattle.station.specs.declared.Station.{Station}
use Rattle.station.specs.Paper.{Paper}
use Rattle.station.specs.Attachment.{wrong_seat, freed, change_refusal, change_station, change_seat}
use Rattle.station.proofs.Orders.{first_rest}
use Rattle.station.proofs.Attachments.{detach-right}
use Rattle.station.proofs.Changes.{wrong_eleven, change_eleven as eleven-wrong, change-wrong, change-idle, change-parts, change-done}
use Rattle.walk.specs.Orders.{open_refusal}
use Rattle.histories.specs.Calls.{Desk, Call, changing, opening, call, calls, answer, Along, Stays, Spares}
use Rattle.histories.specs.Lawful.{Lawful}
use Rattle.histories.specs.Outcomes.{Parted}
use Rattle.histories.specs.ConditionC.{ChangeEquals, ChangeEleven, ChangeLeaves, ChangeEnds}
use Rattle.histories.proofs.Attachments.{calls_same}
use Rattle.histories.proofs.Frames.{either, calls-append}
use Rattle.histories.proofs.Stale.{number_counts, calls-keep, Gone, parts-gone, call-gone, calls-gone, open_number}
use Rattle.histories.proofs.Promises.{gone_expired}

-- a walk is opened where something is attached
open_busy : (P : Paper) (s : Station) (seat : List ℕ) → open_refusal P s seat ≡ 0 → s.attached ≡ true
unfolding open_refusal
open_busy P s seat e =
    let x = first_rest 10 (wrong_seat s seat) _ e in
    not-false s.attached (first_rest 12 (not s.attached) _ x.1).0

module _ (P : Paper) (L : Lawful P) where
  pub change_equals : ChangeEquals P
  unfolding change_refusal change_station change_seat
  change_equals k d b = (refl, refl)

  pub change_eleven : ChangeEleven P
  change_eleven s seat d e = change-wrong P s seat d (eleven-wrong P s seat d (L.lent d) e)

  -- not refused under 11, so the seat is a right one
  right-seat : (s : Station) (seat d : List ℕ) → change_refusal P s seat d ≢ 11 → wrong_seat s seat ≡ false
  right-seat s seat d n = by (wrong_seat s seat) refl
    where
      by : (b : Bool) → wrong_seat s seat ≡ b → wrong_seat s seat ≡ false
      by true e = absurd (n (wrong_eleven P s seat d e))
      by false e = e

  pub change_leaves : ChangeLeaves P
  change_leaves s seat d n m = by s.attached refl
    where
      by : (b : Bool) → s.attached ≡ b
          → (change_station P s seat d ≡ cond s.attached (freed s) s) × (change_seat P s seat d ≡ cond s.attached (replicate 586 0) seat)
      by true e =
          let t = change-parts P s seat d (detach-right s seat (right-seat s seat d m) e) n in
          (t.0 ∙ ap (λ (b : Bool). cond b (freed s) s) (sym e), t.1 ∙ ap (λ (b : Bool). cond b (replicate 586 0) seat) (sym e))
      by false e =
          let t = change-idle P s seat d e n in
          (t.0 ∙ ap (λ (b : Bool). cond b (freed s) s) (sym e), t.1 ∙ ap (λ (b : Bool). cond b (replicate 586 0) seat) (sym e))

  -- a new attachment exists exactly where the change is accepted
  attached-by : (s : Station) (seat d : List ℕ) → change_refusal P s seat d ≢ 11 → (change_station P s seat d).attached ≡ eqb (change_refusal P s seat d) 0
  attached-by s seat d m = by (change_refusal P s seat d) refl
    where
      idle : (b : Bool) → s.attached ≡ b → (cond b (freed s) s).attached ≡ false
      idle true e = refl
      idle false e = e

      by : (n : ℕ) → change_refusal P s seat d ≡ n → (change_station P s seat d).attached ≡ eqb n 0
      by zero e = ap (λ (z : Station). z.attached) (change-done P s seat d e).0
      by (suc n) e =
          ap (λ (z : Station). z.attached) (change_leaves s seat d (λ q. omega arith) m).0 ∙ idle s.attached refl
          ∙ sym (ne_eqb (suc n) 0 (λ q. omega (arith, q)))

  -- whether the module of a walk is still there or left before: after the change no record up to the walk's number is accepted
  module _ (k : Desk) (i : ℕ) (before : List Call) (d : List ℕ) (b : IsBytes d) (o : open_refusal P k.station k.seat ≡ 0)
      (m : answer P (calls P (call P k (opening i)) before) (changing d b) ≢ 11) (h : All (Spares i) before) where
    -- the number of a walk, and that it is gone
    record Left : Type 0 where
      number : ℕ
      own : ((calls P (call P k (opening i)) before).walks i).number ≤ number
      gone : Gone P number (call P (calls P (call P k (opening i)) before) (changing d b)).station (call P (calls P (call P k (opening i)) before) (changing d b)).seat

    leaves-now : Along P (Stays P) (call P k (opening i)) before → Left
    leaves-now st =
        let k₁ = calls P (call P k (opening i)) before in
        let c = number_counts P before (call P k (opening i)) in
        let same = calls_same P (call P k (opening i)) before (open_busy P k.station k.seat o) st in
        let busy : k₁.station.attached ≡ true = ap (λ (z : Station). z.attached) same.station ∙ open_busy P k.station k.seat o in
        record {
          number = k₁.station.number;
          own = omega (arith, calls-keep P before (call P k (opening i)) i h, open_number P k i o);
          gone = parts-gone P L k₁.station.number k₁ (changing d b) (omega arith) (detach-right k₁.station k₁.seat (right-seat k₁.station k₁.seat d m) busy);
        }

    left-before : Parted P (call P k (opening i)) before → Left
    left-before z =
        let k₀ = calls P (call P k (opening i)) z.before in
        let n = k₀.station.number in
        let c = number_counts P z.before (call P k (opening i)) in
        let there : calls P (call P k₀ z.parting) z.later ≡ calls P (call P k (opening i)) before =
        sym (calls-append P z.before (z.parting ∷ z.later) (call P k (opening i))) ∙ ap (λ (cs : List Call). calls P (call P k (opening i)) cs) (sym z.split) in
        let g = calls-gone P L n z.later (call P k₀ z.parting) (parts-gone P L n k₀ z.parting (omega arith) z.parts) in
        let g' : Gone P n (calls P (call P k (opening i)) before).station (calls P (call P k (opening i)) before).seat = subst (λ (x : Desk). Gone P n x.station x.seat) there g in
        record {
          number = n;
          own = omega (arith, calls-keep P before (call P k (opening i)) i h, open_number P k i o);
          gone = call-gone P L n (calls P (call P k (opening i)) before) (changing d b) g';
        }

    left-by_then : Left
    left-by_then = ⊎_elim leaves-now left-before (either P before (call P k (opening i)))

  pub change_ends : ChangeEnds P
  change_ends k i before d b later o m h g =
      let k₁ = calls P (call P k (opening i)) before in
      let z = left-by_then k i before d b o m h in
      record {
        attached = attached-by k₁.station k₁.seat d m;
        expired = gone_expired P L z.number i (call P k₁ (changing d b)) later z.gone z.own g;
      }
