-- A refused call changes nothing, a change under another number than 11 apart, and in every history the module leaves or does not. Assumes nothing.
use mathlib.Core.Path.{◌≡◌, refl, sym, ap, ◌∙◌}
use mathlib.Core.Logic.{◌≢◌, ◌⊎◌, inl, inr, ⊎_elim}
use mathlib.Core.Bool.{Bool, true, false, cond}
use mathlib.Core.List.{List, [], ◌∷◌, ◌++◌, append_assoc}
use Prim.Native.Nat.{ℕ, zero, suc}
use native.Mathlib.Omega.{arith}
use lib.Dec.{eqb}
use borrow.Author.Tests.{eqb-true}
use Rattle.addresses.specs.Addresses.{All}
use Rattle.station.specs.declared.Station.{Station}
use Rattle.station.specs.Paper.{Paper}
use Rattle.station.specs.Attachment.{detach_refusal, detach_station, detach_seat, attach_refusal, attach_station, attach_seat}
use Rattle.station.proofs.Orders.{left}
use Rattle.station.proofs.Changes.{change_eleven, change-wrong}
use Rattle.walk.specs.declared.Walk.{Walk}
use Rattle.walk.specs.Orders.{Ask, open_refusal, step_refusal}
use Rattle.walk.specs.Steps.{open_walk, step_walk, step_out}
use Rattle.histories.specs.Calls.{Desk, Call, attaching, detaching, changing, opening, stepping, showing, numbering, writing, Parts, with_walk, call, calls, answer, Along, Stays, Until, handed_by, handed, Serves, Served}
use Rattle.histories.specs.Lawful.{Lawful}
use Rattle.histories.specs.Outcomes.{Parted, Unchanged, Keeps}

put-own : (ws : ℕ → Walk) (i : ℕ) (w : Walk) → w ≡ ws i → (j : ℕ) → with_walk ws i w j ≡ ws j
unfolding with_walk
put-own ws i w e j = by (eqb i j) refl
  where
    by : (b : Bool) → eqb i j ≡ b → cond b w (ws j) ≡ ws j
    by true q = e ∙ ap ws (eqb-true i j q)
    by false q = refl

step_kept : (P : Paper) (s : Station) (seat : List ℕ) (w : Walk) (a : Ask) → step_refusal P s seat w a ≢ 0 → step_walk P s seat w a ≡ w
unfolding step_walk
step_kept P s seat w a h = left (step_refusal P s seat w a) _ _ h

-- demand 1: a refusal changes no station, walk or lent buffer; request 2026-09: a change refused under another number than 11 does
pub refused-unchanged : (P : Paper) → Lawful P → (k : Desk) (c : Call) → answer P k c ≢ 0 → Keeps c (answer P k c) → Unchanged k (call P k c)
unfolding attach_station attach_seat detach_station detach_seat
refused-unchanged P L k (attaching d b) h g =
    record { station = left (attach_refusal P k.station k.seat d) _ _ h; seat = left (attach_refusal P k.station k.seat d) _ _ h; walks = λ i. refl }
refused-unchanged P L k detaching h g =
    record { station = left (detach_refusal k.station k.seat) _ _ h; seat = left (detach_refusal k.station k.seat) _ _ h; walks = λ i. refl }
refused-unchanged P L k (changing d b) h g =
    let t = change-wrong P k.station k.seat d (change_eleven P k.station k.seat d (L.lent d) g) in
    record { station = t.0; seat = t.1; walks = λ i. refl }
refused-unchanged P L k (opening j) h g =
    record { station = refl; seat = refl; walks = λ i. ap (λ (f : ℕ → Walk). f i) (left (open_refusal P k.station k.seat) (with_walk k.walks j (open_walk P k.station k.seat)) k.walks h) }
refused-unchanged P L k (stepping j a) h g =
    record { station = refl; seat = refl; walks = put-own k.walks j (step_walk P k.station k.seat (k.walks j) a) (step_kept P k.station k.seat (k.walks j) a h) }
refused-unchanged P L k (showing j a) h g = record { station = refl; seat = refl; walks = λ i. refl }
refused-unchanged P L k (numbering j a) h g = record { station = refl; seat = refl; walks = λ i. refl }
refused-unchanged P L k (writing j w) h g = absurd (h refl)

pub refused_out : (P : Paper) (s : Station) (seat : List ℕ) (w : Walk) (a : Ask) → step_refusal P s seat w a ≢ 0 → step_out P s seat w a ≡ a.out
unfolding step_out
refused_out P s seat w a h = left (step_refusal P s seat w a) _ _ h

-- every history falls under the walk's law or under the law of stale walks
module _ (P : Paper) where
  more : (k : Desk) (c : Call) (cs : List Call) → Stays P k c → Along P (Stays P) (call P k c) cs ⊎ Parted P (call P k c) cs → Along P (Stays P) k (c ∷ cs) ⊎ Parted P k (c ∷ cs)
  more k c cs h t =
      ⊎_elim (λ (x : Along P (Stays P) (call P k c) cs). inl (h, x))
      (λ (x : Parted P (call P k c) cs). inr (record { before = c ∷ x.before; parting = x.parting; later = x.later; split = ap (λ (l : List Call). c ∷ l) x.split; quiet = (h, x.quiet); parts = x.parts })) t

  free-or_not : (k : Desk) → (detach_refusal k.station k.seat ≡ 0) ⊎ (detach_refusal k.station k.seat ≢ 0)
  free-or_not k = by (detach_refusal k.station k.seat) refl
    where
      by : (n : ℕ) → detach_refusal k.station k.seat ≡ n → (detach_refusal k.station k.seat ≡ 0) ⊎ (detach_refusal k.station k.seat ≢ 0)
      by zero e = inl e
      by (suc n) e = inr (λ q. omega arith)

  parts-or_stays : (k : Desk) (c : Call) → Parts k c ⊎ Stays P k c
  parts-or_stays k (attaching d b) = inr (λ x. x)
  parts-or_stays k detaching = free-or_not k
  parts-or_stays k (changing d b) = free-or_not k
  parts-or_stays k (opening i) = inr (λ x. x)
  parts-or_stays k (stepping i a) = inr (λ x. x)
  parts-or_stays k (showing i a) = inr (λ x. x)
  parts-or_stays k (numbering i a) = inr (λ x. x)
  parts-or_stays k (writing i w) = inr (λ x. x)

  pub either : (cs : List Call) (k : Desk) → Along P (Stays P) k cs ⊎ Parted P k cs
  either [] k = inl tt
  either (c ∷ cs) k = by (either cs (call P k c)) (parts-or_stays k c)
    where
      by : Along P (Stays P) (call P k c) cs ⊎ Parted P (call P k c) cs → Parts k c ⊎ Stays P k c → Along P (Stays P) k (c ∷ cs) ⊎ Parted P k (c ∷ cs)
      by t (inl x) = inr (record { before = []; parting = c; later = cs; split = refl; quiet = tt; parts = x })
      by t (inr x) = more k c cs x t

  pub calls-append : (xs ys : List Call) (k : Desk) → calls P k (xs ++ ys) ≡ calls P (calls P k xs) ys
  calls-append [] ys k = refl
  calls-append (x ∷ xs) ys k = calls-append xs ys (call P k x)

  pub handed-append : (i : ℕ) (xs ys : List Call) (k : Desk) → handed P i k (xs ++ ys) ≡ handed P i k xs ++ handed P i (calls P k xs) ys
  handed-append i [] ys k = refl
  handed-append i (x ∷ xs) ys k =
      ap (λ (l : List (List ℕ)). handed_by P i k x ++ l) (handed-append i xs ys (call P k x)) ∙ sym (append_assoc (handed_by P i k x) (handed P i (call P k x) xs) (handed P i (calls P (call P k x) xs) ys))

pub all_left : (Q : Call → Type 0) (xs ys : List Call) → All Q (xs ++ ys) → All Q xs
all_left Q [] ys h = tt
all_left Q (x ∷ xs) ys h = (h.0, all_left Q xs ys h.1)

pub all_right : (Q : Call → Type 0) (xs ys : List Call) → All Q (xs ++ ys) → All Q ys
all_right Q [] ys h = h
all_right Q (x ∷ xs) ys h = all_right Q xs ys h.1

module _ (P : Paper) where
  -- up to the call at which the module leaves
  pub until_stays : (Q : Desk → Call → Type 0) (cs : List Call) (k : Desk) → Until P Q k cs → Along P (Stays P) k cs → Along P Q k cs
  until_stays Q [] k h s = tt
  until_stays Q (c ∷ cs) k h s = (h.0, until_stays Q cs (call P k c) (h.1 s.0) s.1)

  pub until_left : (Q : Desk → Call → Type 0) (xs ys : List Call) (k : Desk) → Until P Q k (xs ++ ys) → Along P (Stays P) k xs → Along P Q k xs
  until_left Q [] ys k h s = tt
  until_left Q (x ∷ xs) ys k h s = (h.0, until_left Q xs ys (call P k x) (h.1 s.0) s.1)

  serve_served : (i : ℕ) (images : List ℕ) (k : Desk) (c : Call) → Serves P i images c → Served P i images k c
  serve_served i images k (attaching d b) h = tt
  serve_served i images k detaching h = tt
  serve_served i images k (changing d b) h = tt
  serve_served i images k (opening j) h = tt
  serve_served i images k (stepping j a) h = λ e r. h e
  serve_served i images k (showing j a) h = tt
  serve_served i images k (numbering j a) h = tt
  serve_served i images k (writing j w) h = tt

  pub serves_served : (i : ℕ) (images : List ℕ) (cs : List Call) (k : Desk) → All (Serves P i images) cs → Along P (Served P i images) k cs
  serves_served i images [] k h = tt
  serves_served i images (c ∷ cs) k h = (serve_served i images k c h.0, serves_served i images cs (call P k c) h.1)
