-- Demand 3, second half: reconnection. Assumes nothing but what `Lawful` says of accepted descriptions.
use Rattle.std.specs.Prelude.{Err, Ok}
use mathlib.Core.Path.{◌≡◌, refl, sym, ap, subst, ◌∙◌}
use mathlib.Core.Logic.{⊎_elim}
use mathlib.Core.Bool.{Bool, true, false, cond, not, ◌||◌}
use mathlib.Core.List.{List, [], ◌∷◌, ◌++◌, append-nil}
use Prim.Native.Nat.{ℕ, suc, ◌+◌, ◌≤◌}
use native.Mathlib.Omega.{arith}
use lib.ListN.{length, take, replicate, length-drop}
use lib.Seq.{take_all, get_or-drop}
use borrow.Author.Tests.{eq-eqb}
use Rattle.addresses.specs.Addresses.{All}
use Rattle.description.specs.Description.{IsBytes}
use Rattle.form.specs.Order.{rule, first}
use Rattle.form.specs.Reading.{refusal_of}
use Rattle.station.specs.declared.Station.{Station}
use Rattle.station.specs.Paper.{Paper, arguments}
use Rattle.station.specs.Attachment.{wrong_seat, described, detach_refusal, detach_station, detach_seat, attach_refusal, change_refusal}
use Rattle.station.proofs.Attachments.{under-high, detach-right, detach-done, attach-last, attach-judged}
use Rattle.station.proofs.Changes.{zeros-right}
use Rattle.walk.specs.declared.Walk.{Walk}
use Rattle.walk.specs.Orders.{Ask, standing, open_refusal, wrong_stack, wrong_out, step_refusal, show_refusal}
use Rattle.walk.specs.Steps.{opened_if, open_walk, open_answer}
use Rattle.histories.specs.Calls.{Desk, Call, opening, Arrival, arriving, new_desk, call, calls, Until, handed, Spares, Served}
use Rattle.histories.specs.Lawful.{Lawful}
use Rattle.histories.specs.Values.{cut, images_for, unnamed, unnamed_questions}
use Rattle.histories.specs.Outcomes.{Stands, opened, Refused, Expired, Parted}
use Rattle.histories.specs.ConditionC.{Connects, Cares, Starts, HandsBack, HandsBackSoFar, GoesOn, NeverAnother, Stale, StaleRecord, NumberCounts, NumberBounded, NumberPasses, NumberLast, Reached, OpenReached, StepReached, ShowReached, reached_order, Detaches}
use Rattle.histories.proofs.Attachments.{arrival_holds, arrival_done, right-held, described-held, calls_same, same-holds, calls-sound, new_sound}
use Rattle.histories.proofs.Walks.{open_held, opens, step-held, show-held, step-standing, show-standing, lends_right}
use Rattle.histories.proofs.Turns.{put_same}
use Rattle.histories.proofs.Shown.{shows-next, shows_none}
use Rattle.histories.proofs.Histories.{since, answers, length-values, length-questions}
use Rattle.histories.proofs.Frames.{either, handed-append, all_left, all_right, until_stays, until_left, serves_served}
use Rattle.histories.proofs.Stale.{number_counts, calls-bounded, calls-keep, Gone, parts-gone, calls-gone, gone_refused, calls-silent, parts-silent, parts-keep, stale-some, open_number}

module _ (P : Paper) where
  open_idle : (s : Station) (seat : List ℕ) → s.attached ≡ false
      → open_refusal P s seat ≡ first (rule 11 (wrong_seat s seat) ∷ rule 13 (not s.attached) ∷ rule 16 (not (P.variadic (described s seat))) ∷ [])
  unfolding open_refusal
  open_idle s seat e = rw e

  step-idle : (s : Station) (seat : List ℕ) (w : Walk) (a : Ask) → s.attached ≡ false
      → step_refusal P s seat w a ≡ first (reached_order P s seat w a (rule 11 (wrong_stack P (described s seat) a || wrong_out P (described s seat) w a) ∷ []))
  unfolding step_refusal
  step-idle s seat w a e = rw e

  show-idle : (s : Station) (seat : List ℕ) (w : Walk) (a : Ask) → s.attached ≡ false
      → show_refusal P s seat w a ≡ first (reached_order P s seat w a (rule 11 (wrong_stack P (described s seat) a) ∷ []))
  unfolding show_refusal
  show-idle s seat w a e = rw e

change-answers : (P : Paper) (s : Station) (seat d : List ℕ) → change_refusal P s seat d ≡ attach_refusal P (detach_station s seat) (detach_seat s seat) d
unfolding change_refusal
change-answers P s seat d = refl

standing-number : (P : Paper) (d : List ℕ) (n p : ℕ) → (standing P d n p).number ≤ n
unfolding standing
standing-number P d n p = omega arith

open_answered : (P : Paper) (s : Station) (seat : List ℕ) (b : Bool) (w : Walk) → open_refusal P s seat ≡ cond b 0 16 → open_walk P s seat ≡ w
    → open_answer P s seat ≡ cond b (Ok w) (Err (refusal_of 16))
unfolding open_answer opened_if
open_answered P s seat true w e f = rw (e, f)
open_answered P s seat false w e f = rw e (ap Err (under-high P _ 16 (omega arith)))

flip : (b : Bool) → cond b 0 16 ≡ first (rule 16 (not b) ∷ [])
flip true = refl
flip false = refl

module _ (P : Paper) (L : Lawful P) where
  -- ---- C5: a walk starts as the new description alone says

  -- whatever the station, the seat and the records were before it came, and whatever is called after it as long as it does not leave
  pub starts-anew : Starts P
  starts-anew k v d b between c =
      let t = arrival_done P k v d b c.accepted in
      let held = arrival_holds P k v d b c.accepted in
      let s = calls_same P (call P k (arriving v d b)) between held.attached c.quiet in
      let held' = same-holds P (call P k (arriving v d b)) (calls P (call P k (arriving v d b)) between) d s held in
      let k' = calls P (call P k (arriving v d b)) between in
      let n : k'.station.number ≡ suc k.station.number = ap (λ (z : Station). z.number) (s.station ∙ t.0) in
      let o = open_held P L k'.station k'.seat d held' in
      let w = opens P k'.station k'.seat d held' ∙ ap (λ (m : ℕ). standing P d m (P.named d)) n in
      record {
        station = s.station ∙ t.0;
        seat = s.seat ∙ t.1;
        opens = o;
        walk = w;
        answer = open_answered P k'.station k'.seat (P.variadic d) (standing P d (suc k.station.number) (P.named d)) o w;
      }

  -- the walk that is opened there stands before the first unnamed argument
  first-stands : (k : Desk) (v : Arrival) (d : List ℕ) (b : IsBytes d) (between : List Call) (i : ℕ) → Connects P k v d b between → P.variadic d ≡ true
      → Stands P d i (opened P k v d b between i) (P.named d)
  first-stands k v d b between i c o =
      let held = arrival_holds P k v d b c.accepted in
      let s = calls_same P (call P k (arriving v d b)) between held.attached c.quiet in
      let held' = same-holds P (call P k (arriving v d b)) (calls P (call P k (arriving v d b)) between) d s held in
      let k' = calls P (call P k (arriving v d b)) between in
      record {
        held = held';
        walk = rw (open_held P L k'.station k'.seat d held', o) (put_same k'.walks i (open_walk P k'.station k'.seat) ∙ opens P k'.station k'.seat d held');
        from = omega arith;
        to = L.within d held.accepted;
      }

  -- ---- C8: it hands back each unnamed argument's bytes in order

  -- the same for the first m of them
  pub hands_back_so_far : HandsBackSoFar P
  hands_back_so_far k v d b address values i m between cs c o g se st q =
      answers P L d address values g.fit i cs (opened P k v d b between i) (P.named d) m (first-stands k v d b between i c o) st g.spares se q

  -- whatever it is asked, rightly or not: it has handed back the first so many, and the next answer is known
  pub goes_on : GoesOn P
  goes_on k v d b address values i between cs c o m se st =
      let z = since P L d address values m.fit i cs (opened P k v d b between i) (P.named d) (first-stands k v d b between i c o) st m.spares se in
      let k' = calls P (opened P k v d b between i) cs in
      let p = P.named d + length (handed P i (opened P k v d b between i) cs) in
      record {
        bytes = z.bytes;
        walk = z.stands.walk;
        within = z.stands.to;
        answer = λ a x.
            let r = lends_right P L d address values a x in
            rw z.stands.walk (step-standing P L k'.station k'.seat d p a z.stands.held z.stands.from z.stands.to r.0 r.1);
        show = λ a x.
            let r = lends_right P L d address values a x in
            rw z.stands.walk (show-standing P L k'.station k'.seat d p a z.stands.held z.stands.from z.stands.to r.0 r.1);
        part = λ a x r.
            rw (z.stands.walk, get_or-drop (P.named d) (cut (P.shapes d) values) (length (handed P i (opened P k v d b between i) cs)) [])
            (shows-next P L k'.station k'.seat d address values p a z.stands.held z.stands.from z.stands.to m.fit x (rw z.stands.walk at r));
      }

  -- asked by the right types, among any other calls but an accepted detach; and then the walk is at its end
  pub hands_back : HandsBack P
  hands_back k v d b address values i between cs c o m se st q =
      let s = first-stands k v d b between i c o in
      let a = s.held.accepted in
      let l = length-questions P d (L.typed d a) in
      let c' = length-values P d values in
      let x : length (unnamed_questions P d) ≤ arguments P d = rw length-drop (omega arith) in
      let y : length (unnamed P d values) ≤ arguments P d = rw length-drop (omega arith) in
      let z : handed P i (opened P k v d b between i) cs ≡ unnamed P d values =
      answers P L d address values m.fit i cs (opened P k v d b between i) (P.named d) (arguments P d) s st m.spares se
      (q ∙ sym (take_all (arguments P d) (unnamed_questions P d) x))
      ∙ take_all (arguments P d) (unnamed P d values) y in
      let n = goes_on k v d b address values i between cs c o m (serves_served P i (images_for P d address values) cs (opened P k v d b between i) se) st in
      let u : P.named d + length (handed P i (opened P k v d b between i) cs) ≡ arguments P d =
      omega (arith, ap length z, length-drop (P.named d) (cut (P.shapes d) values), L.within d a) in
      (z, λ t g. n.answer t g ∙ rw (eq-eqb (P.named d + length (handed P i (opened P k v d b between i) cs)) (arguments P d) u))

  -- ---- C7: a walk of an earlier attachment

  -- no record with that number or a lower one is ever accepted again, of whose making it may be
  gone_record : (n : ℕ) (k : Desk) (later : List Call) → Gone P n k.station k.seat → (w : Walk) → w.number ≤ n → (a : Ask) → Refused P (calls P k later) w a
  gone_record n k later h w l a =
      let k' = calls P k later in
      let r = gone_refused P L n k'.station k'.seat w a (calls-gone P L n later k h) l in
      let z = stale-some P k'.station a in
      record { step = r.0; show = r.1; part = shows_none P k'.station k'.seat w a (λ e'. omega (arith, r.1, z.1)) }

  pub stale_record : StaleRecord P
  stale_record k c later e w l a = gone_record k.station.number (call P k c) later (parts-gone P L k.station.number k c (omega arith) e) w l a

  -- nor a walk with such a number
  pub gone_expired : (n i : ℕ) (k : Desk) (later : List Call) → Gone P n k.station k.seat → (k.walks i).number ≤ n → All (Spares i) later → Expired P i k later
  gone_expired n i k later h l g = record {
    refused = λ a. gone_record n k later h ((calls P k later).walks i) (omega (arith, calls-keep P later k i g)) a;
    silent = calls-silent P L n i later k h l g;
  }

  -- a walk that was opened before its module left, with any calls before that and after it
  pub stale-walk : Stale P
  stale-walk k i before c later o e h g =
      let k₁ = calls P (call P k (opening i)) before in
      let n = k₁.station.number in
      let m = number_counts P before (call P k (opening i)) in
      let w : (k₁.walks i).number ≤ n = omega (arith, calls-keep P before (call P k (opening i)) i h, open_number P k i o) in
      gone_expired n i (call P k₁ c) later (parts-gone P L n k₁ c (omega arith) e) (rw (parts-keep P i k₁ c e) w) g

  -- the number counts the accepted attaches: it never falls, and nothing else raises it
  pub number-never_falls : NumberCounts P
  number-never_falls k cs = number_counts P cs k

  -- ---- C6: what calls lead to, from a new station with any seat and any records

  pub reached : Reached P
  reached seat walks cs = calls-sound P (new_desk seat walks) cs (new_sound P seat)

  -- there 1 to 10 never come up
  pub open_reached : OpenReached P
  open_reached s seat h = by s.attached refl
    where
      by : (b : Bool) → s.attached ≡ b
          → open_refusal P s seat ≡ first (rule 11 (wrong_seat s seat) ∷ rule 13 (not s.attached) ∷ rule 16 (not (P.variadic (described s seat))) ∷ [])
      by true e =
          let z = h.busy e in
          open_held P L s seat z.0 z.1 ∙ rw (right-held P L s seat z.0 z.1, described-held P s seat z.0 z.1, e) (flip (P.variadic z.0))
      by false e = open_idle P s seat e

  pub step_reached : StepReached P
  step_reached s seat w a h = by s.attached refl
    where
      by : (b : Bool) → s.attached ≡ b
          → step_refusal P s seat w a ≡ first (reached_order P s seat w a (rule 11 (wrong_stack P (described s seat) a || wrong_out P (described s seat) w a) ∷ []))
      by true e =
          let z = h.busy e in
          step-held P L s seat z.0 w a z.1 ∙ rw (right-held P L s seat z.0 z.1, described-held P s seat z.0 z.1, e)
      by false e = step-idle P s seat w a e

  pub show_reached : ShowReached P
  show_reached s seat w a h = by s.attached refl
    where
      by : (b : Bool) → s.attached ≡ b → show_refusal P s seat w a ≡ first (reached_order P s seat w a (rule 11 (wrong_stack P (described s seat) a) ∷ []))
      by true e =
          let z = h.busy e in
          show-held P L s seat z.0 w a z.1 ∙ rw (right-held P L s seat z.0 z.1, described-held P s seat z.0 z.1, e)
      by false e = show-idle P s seat w a e

  -- ---- C10, C11: the last number, and detach

  pub number_passes : NumberPasses P
  number_passes s seat d r e l = attach-judged P s seat d r e l

  -- the number never passes the last
  pub number_bounded : NumberBounded P
  number_bounded k cs l = calls-bounded P cs k l

  pub detach-leaves : Detaches P
  detach-leaves s seat e = detach-done s seat e

  -- ---- C8 and C7 in one: in any history whatever, a walk hands back its own arguments' bytes in order, and nothing else

  handed-before : (k : Desk) (d address values : List ℕ) (i : ℕ) (cs : List Call) → Stands P d i k (P.named d) → Cares P d values i cs
      → Until P (Served P i (images_for P d address values)) k cs → Parted P k cs → handed P i k cs ≡ take (length (handed P i k cs)) (unnamed P d values)
  handed-before k d address values i cs s m se z =
      let k₁ = calls P k z.before in
      let sp' : All (Spares i) (z.before ++ (z.parting ∷ z.later)) = rw z.split at m.spares in
      let se' : Until P (Served P i (images_for P d address values)) k (z.before ++ (z.parting ∷ z.later)) = subst (λ (l : List Call). Until P (Served P i (images_for P d address values)) k l) z.split se in
      let t = since P L d address values m.fit i z.before k (P.named d) s z.quiet
      (all_left (Spares i) z.before (z.parting ∷ z.later) sp') (until_left P (Served P i (images_for P d address values)) z.before (z.parting ∷ z.later) k se' z.quiet) in
      let n = k₁.station.number in
      let w : (k₁.walks i).number ≤ n = rw t.stands.walk (standing-number P d n (P.named d + length (handed P i k z.before))) in
      let silent : handed P i k₁ (z.parting ∷ z.later) ≡ [] =
      rw (parts-silent P i k₁ z.parting z.parts)
      (calls-silent P L n i z.later (call P k₁ z.parting) (parts-gone P L n k₁ z.parting (omega arith) z.parts) (rw (parts-keep P i k₁ z.parting z.parts) w)
      (all_right (Spares i) z.before (z.parting ∷ z.later) sp').1) in
      let all : handed P i k cs ≡ handed P i k z.before =
      ap (λ (l : List Call). handed P i k l) z.split ∙ handed-append P i z.before (z.parting ∷ z.later) k
      ∙ ap (λ (l : List (List ℕ)). handed P i k z.before ++ l) silent ∙ append-nil (handed P i k z.before) in
      rw all t.bytes

  pub never_another : NeverAnother P
  never_another k v d b address values i between cs c o m se =
      ⊎_elim (λ st. (goes_on k v d b address values i between cs c o m (until_stays P (Served P i (images_for P d address values)) cs (opened P k v d b between i) se st) st).bytes)
      (λ z. handed-before (opened P k v d b between i) d address values i cs (first-stands k v d b between i c o) m se z)
      (either P cs (opened P k v d b between i))

  -- ---- C10 once more: the last number passes once

  pub last-number : NumberLast P
  last-number k v d b d' n e =
      let t = arrival_done P k v d b e in
      let k₁ = call P k (arriving v d b) in
      let held = arrival_holds P k v d b e in
      let r = right-held P L k₁.station k₁.seat d held in
      let a : detach_refusal k₁.station k₁.seat ≡ 0 = detach-right k₁.station k₁.seat r held.attached in
      let u = detach-done k₁.station k₁.seat a in
      let m : k₁.station.number ≡ 4294967295 = rw t.0 (omega arith) in
      let z : attach_refusal P (detach_station k₁.station k₁.seat) (detach_seat k₁.station k₁.seat) d' ≡ 15 =
      rw (u.0, u.1) (attach-last P (record { attached = false; length = record { 0 = 0 }; number = k₁.station.number }) (replicate 586 0) d' (zeros-right k₁.station.number) refl (omega arith)) in
      record { number = m; detach = a; attach = z; change = change-answers P k₁.station k₁.seat d' ∙ z }
