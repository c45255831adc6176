-- Histories: lists of calls on one station with its seat, and the walk records that the host keeps. Assumes nothing: these are
-- definitions.
use Rattle.std.specs.Prelude.{◌≡◌, ◌≢◌, cond, List, [], ◌∷◌, ◌++◌, ℕ, ◌+◌, eqb, length, take, drop}
use Rattle.description.specs.Description.{IsBytes}
use Rattle.station.specs.declared.Station.{Station}
use Rattle.station.specs.Outcome.{leaves}
use Rattle.station.specs.Paper.{Paper}
use Rattle.station.specs.Attachment.{new_station, detach_refusal, detach_station, detach_seat, attach_refusal, attach_station, attach_seat, change_refusal, change_station, change_seat}
use Rattle.walk.specs.declared.Walk.{Walk}
use Rattle.walk.specs.Orders.{Ask, open_refusal, step_refusal, show_refusal}
use Rattle.walk.specs.Steps.{open_walk, step_walk, step_out}

-- the station, its seat, and the host's walk records, each under a name of its own
pub record Desk : Type 0 where
  pub station : Station
  pub seat : List ℕ
  pub walks : ℕ → Walk

-- all that can happen to them. A description that is lent is a list of bytes, as every slice is. `writing` is no call of the bridge:
-- the host writes a record of its own making over one of its records, which document 01 asks it not to do with a walk that it means
-- to go on with
pub data Call : Type 0 where
  attaching : (d : List ℕ) → IsBytes d → Call
  detaching : Call
  changing : (d : List ℕ) → IsBytes d → Call
  opening : ℕ → Call
  stepping : ℕ → Ask → Call
  showing : ℕ → Ask → Call
  numbering : ℕ → Ask → Call
  writing : ℕ → Walk → Call

-- "one module left and another came": it comes by an attach, or by a change
pub data Arrival : Type 0 where
  by_attach : Arrival
  by_change : Arrival

abbrev pub arriving : Arrival → (d : List ℕ) → IsBytes d → Call
arriving by_attach d b = attaching d b
arriving by_change d b = changing d b

-- and it leaves by an accepted detach: one that is called, or the one that a change begins with
abbrev pub Parts : Desk → Call → Type 0
Parts k (attaching d b) = ⊥
Parts k detaching = detach_refusal k.station k.seat ≡ 0
Parts k (changing d b) = detach_refusal k.station k.seat ≡ 0
Parts k (opening i) = ⊥
Parts k (stepping i a) = ⊥
Parts k (showing i a) = ⊥
Parts k (numbering i a) = ⊥
Parts k (writing i w) = ⊥

-- the records with w under the name i
unfoldable pub with_walk : (ℕ → Walk) → ℕ → Walk → ℕ → Walk
with_walk ws i w j = cond (eqb i j) w (ws j)

-- a station that is new, whatever is in the seat and in the host's records
abbrev pub new_desk : List ℕ → (ℕ → Walk) → Desk
new_desk seat walks = record { station = new_station; seat = seat; walks = walks }

module _ (P : Paper) where
  -- the desk after a call: a refused one leaves it, but for a change
  abbrev pub call : Desk → Call → Desk
  call k (attaching d b) =
      record { station = attach_station P k.station k.seat d; seat = attach_seat P k.station k.seat d; walks = k.walks }
  call k detaching =
      record { station = detach_station k.station k.seat; seat = detach_seat k.station k.seat; walks = k.walks }
  call k (changing d b) =
      record { station = change_station P k.station k.seat d; seat = change_seat P k.station k.seat d; walks = k.walks }
  call k (opening i) =
      record {
        station = k.station;
        seat = k.seat;
        walks = leaves (open_refusal P k.station k.seat) (with_walk k.walks i (open_walk P k.station k.seat)) k.walks;
      }
  call k (stepping i a) =
      record { station = k.station; seat = k.seat; walks = with_walk k.walks i (step_walk P k.station k.seat (k.walks i) a) }
  -- a show "moves no walk"
  call k (showing i a) = k
  call k (numbering i a) = k
  call k (writing i w) = record { station = k.station; seat = k.seat; walks = with_walk k.walks i w }

  -- what a call answers: a refusal number, or 0
  abbrev pub answer : Desk → Call → ℕ
  answer k (attaching d b) = attach_refusal P k.station k.seat d
  answer k detaching = detach_refusal k.station k.seat
  answer k (changing d b) = change_refusal P k.station k.seat d
  answer k (opening i) = open_refusal P k.station k.seat
  answer k (stepping i a) = step_refusal P k.station k.seat (k.walks i) a
  answer k (showing i a) = show_refusal P k.station k.seat (k.walks i) a
  answer k (numbering i a) = show_refusal P k.station k.seat (k.walks i) a
  answer k (writing i w) = 0

  -- the desk after a history, and what each of its calls answers
  abbrev pub calls : Desk → List Call → Desk
  calls k [] = k
  calls k (c ∷ cs) = calls (call k c) cs

  abbrev pub answers : Desk → List Call → List ℕ
  answers k [] = []
  answers k (c ∷ cs) = answer k c ∷ answers (call k c) cs

  -- something holds of each call of a history, at the desk where it is made
  abbrev pub Along : (Desk → Call → Type 0) → Desk → List Call → Type 0
  Along Q k [] = Unit {0}
  Along Q k (c ∷ cs) = Q k c × Along Q (call k c) cs

  -- no module leaves by this call
  abbrev pub Stays : Desk → Call → Type 0
  Stays k c = Parts k c → ⊥

  -- something holds of each call as long as no module leaves; of what comes after that, nothing is said
  abbrev pub Until : (Desk → Call → Type 0) → Desk → List Call → Type 0
  Until Q k [] = Unit {0}
  Until Q k (c ∷ cs) = Q k c × (Stays k c → Until Q (call k c) cs)

  -- the accepted attaches of a history, a change's among them
  abbrev pub attaches_by : Desk → Call → ℕ
  attaches_by k (attaching d b) = leaves (attach_refusal P k.station k.seat d) 1 0
  attaches_by k detaching = 0
  attaches_by k (changing d b) = leaves (change_refusal P k.station k.seat d) 1 0
  attaches_by k (opening i) = 0
  attaches_by k (stepping i a) = 0
  attaches_by k (showing i a) = 0
  attaches_by k (numbering i a) = 0
  attaches_by k (writing i w) = 0

  abbrev pub attaches : Desk → List Call → ℕ
  attaches k [] = 0
  attaches k (c ∷ cs) = attaches_by k c + attaches (call k c) cs

  -- what the accepted steps of the walk i leave in their out buffers, step after step
  abbrev pub handed_by : ℕ → Desk → Call → List (List ℕ)
  handed_by i k (attaching d b) = []
  handed_by i k detaching = []
  handed_by i k (changing d b) = []
  handed_by i k (opening j) = []
  handed_by i k (stepping j a) =
      cond (eqb i j) (leaves (step_refusal P k.station k.seat (k.walks j) a) (step_out P k.station k.seat (k.walks j) a ∷ []) []) []
  handed_by i k (showing j a) = []
  handed_by i k (numbering j a) = []
  handed_by i k (writing j w) = []

  abbrev pub handed : ℕ → Desk → List Call → List (List ℕ)
  handed i k [] = []
  handed i k (c ∷ cs) = handed_by i k c ++ handed i (call k c) cs

-- ---- the host's part

-- the two images that are lent are those of the one list: the bytes of the registers at its beginning, and the stack area at its end. What lies
-- between, the upper image, no step is lent (request 2026-06: an unnamed argument has nothing there)
pub record Lends (P : Paper) (images : List ℕ) (a : Ask) : Type 0 where
  pub registers : a.registers ≡ take P.registers images
  pub stack : a.stack ≡ drop P.stack_at images

-- "changes .. each walk record by these calls only, steps a walk on from the record its last call left": the host lets no open and no
-- writing of its own fall on the walk i
abbrev pub Spares : ℕ → Call → Type 0
Spares i (attaching d b) = Unit {0}
Spares i detaching = Unit {0}
Spares i (changing d b) = Unit {0}
Spares i (opening j) = i ≢ j
Spares i (stepping j a) = Unit {0}
Spares i (showing j a) = Unit {0}
Spares i (numbering j a) = Unit {0}
Spares i (writing j w) = i ≢ j

-- it lends each step of the walk i, accepted or not, the images images
abbrev pub Serves : Paper → ℕ → List ℕ → Call → Type 0
Serves P i images (attaching d b) = Unit {0}
Serves P i images detaching = Unit {0}
Serves P i images (changing d b) = Unit {0}
Serves P i images (opening j) = Unit {0}
Serves P i images (stepping j a) = i ≡ j → Lends P images a
Serves P i images (showing j a) = Unit {0}
Serves P i images (numbering j a) = Unit {0}
Serves P i images (writing j w) = Unit {0}

-- each accepted step of the walk i is lent these images; a refused one may be lent anything
abbrev pub Served : Paper → ℕ → List ℕ → Desk → Call → Type 0
Served P i images k (attaching d b) = Unit {0}
Served P i images k detaching = Unit {0}
Served P i images k (changing d b) = Unit {0}
Served P i images k (opening j) = Unit {0}
Served P i images k (stepping j a) = i ≡ j → step_refusal P k.station k.seat (k.walks j) a ≡ 0 → Lends P images a
Served P i images k (showing j a) = Unit {0}
Served P i images k (numbering j a) = Unit {0}
Served P i images k (writing j w) = Unit {0}

-- the type number and the room of each step of the walk i
pub record Question : Type 0 where
  pub asked : ℕ
  pub room : ℕ

abbrev pub asks_by : ℕ → Call → List Question
asks_by i (attaching d b) = []
asks_by i detaching = []
asks_by i (changing d b) = []
asks_by i (opening j) = []
asks_by i (stepping j a) = cond (eqb i j) (record { asked = a.asked; room = length a.out } ∷ []) []
asks_by i (showing j a) = []
asks_by i (numbering j a) = []
asks_by i (writing j w) = []

abbrev pub asks : ℕ → List Call → List Question
asks i [] = []
asks i (c ∷ cs) = asks_by i c ++ asks i cs
