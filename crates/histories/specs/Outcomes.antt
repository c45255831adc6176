-- What is so at a desk: the conclusions of the statements of condition C. Assumes nothing: these are definitions.
use Rattle.std.specs.Prelude.{◌≡◌, true, cond, not, List, [], ◌∷◌, ◌++◌, ℕ, ◌+◌, ◌≤◌, eqb, length, get_or, take, Err, Ok}
use Rattle.description.specs.Description.{IsBytes}
use Rattle.form.specs.Order.{rule, first}
use Rattle.form.specs.Reading.{refusal_of}
use Rattle.places.specs.Places.{place}
use Rattle.station.specs.declared.Station.{Station}
use Rattle.station.specs.Paper.{Paper, arguments, shape_at, type_at, used_at}
use Rattle.station.specs.Attachment.{seat_of, detach_refusal, detach_station, detach_seat, attach_refusal, change_refusal}
use Rattle.walk.specs.declared.Walk.{Walk}
use Rattle.walk.specs.Offsets.{source_in}
use Rattle.walk.specs.Orders.{Ask, wrong_registers, standing, open_refusal, step_refusal, show_refusal}
use Rattle.walk.specs.Steps.{open_walk, open_answer}
use Rattle.walk.specs.Show.{whole, show_part}
use Rattle.histories.specs.Calls.{Desk, Call, attaching, detaching, changing, opening, stepping, showing, numbering, writing, Arrival, arriving, Parts, call, calls, answer, Along, Stays, Lends, handed}
use Rattle.histories.specs.Lawful.{Holds}
use Rattle.histories.specs.Values.{images_for, unnamed}

-- the desk where d comes at k, `between` is called, and then the walk i is opened
abbrev pub opened : Paper → Desk → Arrival → (d : List ℕ) → IsBytes d → List Call → ℕ → Desk
opened P k v d b between i = call P (calls P (call P k (arriving v d b)) between) (opening i)

-- d is attached under the number n, and an open starts as d alone says
pub record Started (P : Paper) (n : ℕ) (d : List ℕ) (k : Desk) : Type 0 where
  pub station : k.station ≡ record { attached = true; length = record { 0 = length d }; number = n }
  pub seat : k.seat ≡ seat_of d
  pub opens : open_refusal P k.station k.seat ≡ cond (P.variadic d) 0 16
  pub walk : open_walk P k.station k.seat ≡ standing P d n (P.named d)
  pub answer : open_answer P k.station k.seat ≡ cond (P.variadic d) (Ok (standing P d n (P.named d))) (Err (refusal_of 16))

-- d is attached, and the walk i stands before its argument p
pub record Stands (P : Paper) (d : List ℕ) (i : ℕ) (k : Desk) (p : ℕ) : Type 0 where
  pub held : Holds P k.station k.seat d
  pub walk : k.walks i ≡ standing P d k.station.number p
  pub from : P.named d ≤ p
  pub to : p ≤ arguments P d

-- what is so once the walk i has handed back hs: these are the first of the unnamed arguments, the walk stands before the next,
-- a step answers 19 behind the last, 20 for a wrong type, 11 for a wrong room, and else accepts; a show answers the same but for
-- the room, and shows the next argument's bytes where they lie in one part
pub record Next (P : Paper) (d address values : List ℕ) (i : ℕ) (k : Desk) (hs : List (List ℕ)) : Type 0 where
  pub bytes : hs ≡ take (length hs) (unnamed P d values)
  pub walk : k.walks i ≡ standing P d k.station.number (P.named d + length hs)
  pub within : P.named d + length hs ≤ arguments P d
  pub answer : (a : Ask) → Lends P (images_for P d address values) a
      → step_refusal P k.station k.seat (k.walks i) a ≡ first
      (rule 19 (eqb (P.named d + length hs) (arguments P d)) ∷ rule 20 (not (eqb a.asked (type_at P d (P.named d + length hs))))
      ∷ rule 11 (not (eqb (length a.out) (shape_at P d (P.named d + length hs)).size)) ∷ [])
  pub show : (a : Ask) → Lends P (images_for P d address values) a
      → show_refusal P k.station k.seat (k.walks i) a ≡ first
      (rule 19 (eqb (P.named d + length hs) (arguments P d)) ∷ rule 20 (not (eqb a.asked (type_at P d (P.named d + length hs)))) ∷ [])
  pub part : (a : Ask) → Lends P (images_for P d address values) a → show_refusal P k.station k.seat (k.walks i) a ≡ 0
      → show_part P k.station k.seat (k.walks i) a
      ≡ cond (whole (source_in (place P.slot (used_at P d (P.named d + length hs)) (shape_at P d (P.named d + length hs)))) (shape_at P d (P.named d + length hs)))
      (get_or (unnamed P d values) (length hs) []) []

-- the walk i is at its end: 19
abbrev pub Ended : Paper → ℕ → Desk → List ℕ → Type 0
Ended P i k images = (a : Ask) → Lends P images a → step_refusal P k.station k.seat (k.walks i) a ≡ 19

-- ---- a walk of an earlier attachment

-- 11 for a register image of wrong length, 13 where nothing is attached, and else 17
unfoldable pub stale_number : Paper → Station → Ask → ℕ
stale_number P s a = first (rule 11 (wrong_registers P a) ∷ rule 13 (not s.attached) ∷ rule 17 true ∷ [])

-- a step of this record, a show of it and the show's number are refused as those of an earlier attachment
pub record Refused (P : Paper) (k : Desk) (w : Walk) (a : Ask) : Type 0 where
  pub step : step_refusal P k.station k.seat w a ≡ stale_number P k.station a
  pub show : show_refusal P k.station k.seat w a ≡ stale_number P k.station a
  pub part : show_part P k.station k.seat w a ≡ []

-- the walk i is a thing of the past: from k on, whatever is called, no step of it is accepted, and it hands nothing back
pub record Expired (P : Paper) (i : ℕ) (k : Desk) (cs : List Call) : Type 0 where
  pub refused : (a : Ask) → Refused P (calls P k cs) ((calls P k cs).walks i) a
  pub silent : handed P i k cs ≡ []

-- the call of a history at which its module leaves
pub record Parted (P : Paper) (k : Desk) (cs : List Call) : Type 0 where
  pub before : List Call
  pub parting : Call
  pub later : List Call
  pub split : cs ≡ before ++ (parting ∷ later)
  pub quiet : Along P (Stays P) k before
  pub parts : Parts (calls P k before) parting

-- a change of modules while there is a walk i: a new attachment exists exactly where it is accepted, and whatever is called then, the
-- walk is refused under 17 while something is attached and 13 while nothing is (`stale_number`), and hands nothing back
pub record Replaced (P : Paper) (i : ℕ) (k : Desk) (d : List ℕ) (b : IsBytes d) (later : List Call) : Type 0 where
  pub attached : (call P k (changing d b)).station.attached ≡ eqb (answer P k (changing d b)) 0
  pub expired : Expired P i (call P k (changing d b)) later

-- ---- what a refusal leaves, and the last number

-- two desks are the same: the station, the seat, and each record
pub record Unchanged (k k' : Desk) : Type 0 where
  pub station : k'.station ≡ k.station
  pub seat : k'.seat ≡ k.seat
  pub walks : (i : ℕ) → k'.walks i ≡ k.walks i

-- which refused calls leave the desk as it was: every call but a change, and a change under 11 alone (request 2026-09: "this is the one
-- call where a refusal writes")
abbrev pub Keeps : Call → ℕ → Type 0
Keeps (attaching d b) n = Unit {0}
Keeps detaching n = Unit {0}
Keeps (changing d b) n = n ≡ 11
Keeps (opening i) n = Unit {0}
Keeps (stepping i a) n = Unit {0}
Keeps (showing i a) n = Unit {0}
Keeps (numbering i a) n = Unit {0}
Keeps (writing i w) n = Unit {0}

-- the last number has been given: a detach passes, and after it an attach of any d is 15, as a change to any d is at once
pub record Last (P : Paper) (k : Desk) (d : List ℕ) : Type 0 where
  pub number : k.station.number ≡ 4294967295
  pub detach : detach_refusal k.station k.seat ≡ 0
  pub attach : attach_refusal P (detach_station k.station k.seat) (detach_seat k.station k.seat) d ≡ 15
  pub change : change_refusal P k.station k.seat d ≡ 15
