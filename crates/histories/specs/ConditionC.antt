-- Condition C, reconnection, statement by statement: each is a type, of a paper, and `ConditionC` collects them. Assumes nothing: these
-- are definitions. Where a statement speaks of one walk, the host's part is among its hypotheses: "Condition C speaks of one station and
-- its seat: it supposes that the host always lends the two together, lends that seat with no other station, changes both and each walk
-- record by these calls only, steps a walk on from the record its last call left, and brings a walk back to the station it was opened on".
-- That the two are lent together and changed by these calls only is what a list of calls on one desk is; `Spares` is the rest.
use Rattle.std.specs.Prelude.{◌≡◌, ◌≢◌, ◌⊎◌, true, false, cond, not, ◌||◌, List, [], ◌∷◌, ℕ, suc, ◌+◌, ◌≤◌, ◌<◌, length, get_or, take, replicate}
use Rattle.addresses.specs.Addresses.{All}
use Rattle.description.specs.Description.{IsBytes}
use Rattle.form.specs.Order.{Rule, rule, first}
use Rattle.places.specs.Images.{total}
use Rattle.station.specs.declared.Station.{Station}
use Rattle.station.specs.Paper.{Paper, verdict_of, arguments, shape_at}
use Rattle.station.specs.Attachment.{wrong_seat, described, detach_refusal, detach_station, detach_seat, attach_refusal, change_refusal, change_station, change_seat}
use Rattle.walk.specs.declared.Walk.{Walk}
use Rattle.walk.specs.Offsets.{read_at}
use Rattle.walk.specs.Orders.{Ask, offsets_of, wrong_registers, other_number, standing, open_refusal, astray, at_end, other_type, wrong_stack, wrong_out, step_refusal, show_refusal}
use Rattle.walk.specs.Steps.{bytes_at, step_out}
use Rattle.walk.specs.Show.{whole, show_part}
use Rattle.histories.specs.Calls.{Desk, Call, attaching, detaching, changing, opening, Arrival, arriving, Parts, new_desk, call, calls, answer, Along, Stays, Until, attaches, handed, Lends, Spares, Serves, Served, asks}
use Rattle.histories.specs.Lawful.{Holds, Consistent}
use Rattle.histories.specs.Values.{cut, joined, images_for, unnamed, unnamed_questions}
use Rattle.histories.specs.Outcomes.{opened, Started, Next, Ended, Refused, Expired, Parted, Replaced, Unchanged, Keeps, Last}

-- d comes at the desk k, by an attach or by a change, and `between` is called after it, without its leaving. The desk k is any desk: it
-- stands for any history before
pub record Connects (P : Paper) (k : Desk) (v : Arrival) (d : List ℕ) (b : IsBytes d) (between : List Call) : Type 0 where
  pub accepted : answer P k (arriving v d b) ≡ 0
  pub quiet : Along P (Stays P) (call P k (arriving v d b)) between

-- the host's part with the walk i in the history cs: "every list of values of the right length", and nothing but a step touches the
-- record i. The tender's "each _Bool argument being 0 or 1" is not needed here
pub record Cares (P : Paper) (d values : List ℕ) (i : ℕ) (cs : List Call) : Type 0 where
  pub fit : length values ≡ total (P.shapes d)
  pub spares : All (Spares i) cs

-- ---- how a walk starts, and what it hands back

-- "A walk opened after any history of attaching and detaching starts as the new description alone says, its attachment number apart"
abbrev pub Starts : Paper → Type 0
Starts P =
    (k : Desk) (v : Arrival) (d : List ℕ) (b : IsBytes d) (between : List Call) → Connects P k v d b between
    → Started P (suc k.station.number) d (calls P (call P k (arriving v d b)) between)

-- "and, over images placed for it and asked by the right types, hands back each unnamed argument's bytes in order": among any other
-- calls, as long as the module does not leave; and then the next step is 19
abbrev pub HandsBack : Paper → Type 0
HandsBack P =
    (k : Desk) (v : Arrival) (d : List ℕ) (b : IsBytes d) (address values : List ℕ) (i : ℕ) (between cs : List Call)
    → Connects P k v d b between → P.variadic d ≡ true → Cares P d values i cs
    → All (Serves P i (images_for P d address values)) cs → Along P (Stays P) (opened P k v d b between i) cs → asks i cs ≡ unnamed_questions P d
    → (handed P i (opened P k v d b between i) cs ≡ unnamed P d values)
    × Ended P i (calls P (opened P k v d b between i) cs) (images_for P d address values)

-- the same for the first m of them
abbrev pub HandsBackSoFar : Paper → Type 0
HandsBackSoFar P =
    (k : Desk) (v : Arrival) (d : List ℕ) (b : IsBytes d) (address values : List ℕ) (i m : ℕ) (between cs : List Call)
    → Connects P k v d b between → P.variadic d ≡ true → Cares P d values i cs
    → All (Serves P i (images_for P d address values)) cs → Along P (Stays P) (opened P k v d b between i) cs
    → asks i cs ≡ take m (unnamed_questions P d)
    → handed P i (opened P k v d b between i) cs ≡ take m (unnamed P d values)

-- whatever the walk was asked so far, rightly or not: where it stands, and what a step and a show answer next
abbrev pub GoesOn : Paper → Type 0
GoesOn P =
    (k : Desk) (v : Arrival) (d : List ℕ) (b : IsBytes d) (address values : List ℕ) (i : ℕ) (between cs : List Call)
    → Connects P k v d b between → P.variadic d ≡ true → Cares P d values i cs
    → Along P (Served P i (images_for P d address values)) (opened P k v d b between i) cs → Along P (Stays P) (opened P k v d b between i) cs
    → Next P d address values i (calls P (opened P k v d b between i) cs) (handed P i (opened P k v d b between i) cs)

-- "our present bridge kept a half-finished walk while one module left and another came. Key pressure was then read under the old
-- module's offsets": that never happens. In any history whatever, detaches, changes and other modules included, what a walk ever hands back is a
-- beginning of the unnamed arguments' bytes of the description it was opened under. Images are supposed only of the steps that are
-- accepted while the module is there: once it has left, the host may lend anything, the next module's images too
abbrev pub NeverAnother : Paper → Type 0
NeverAnother P =
    (k : Desk) (v : Arrival) (d : List ℕ) (b : IsBytes d) (address values : List ℕ) (i : ℕ) (between cs : List Call)
    → Connects P k v d b between → P.variadic d ≡ true → Cares P d values i cs
    → Until P (Served P i (images_for P d address values)) (opened P k v d b between i) cs
    → handed P i (opened P k v d b between i) cs ≡ take (length (handed P i (opened P k v d b between i) cs)) (unnamed P d values)

-- ---- a walk of an earlier attachment

-- "A walk opened under an earlier attachment is refused": once its module leaves by the call c, whatever is called before it and after it
abbrev pub Stale : Paper → Type 0
Stale P =
    (k : Desk) (i : ℕ) (before : List Call) (c : Call) (later : List Call) → open_refusal P k.station k.seat ≡ 0
    → Parts (calls P (call P k (opening i)) before) c
    → All (Spares i) before → All (Spares i) later → Expired P i (call P (calls P (call P k (opening i)) before) c) later

-- so is any record, whoever made it, that has the number of an earlier attachment
abbrev pub StaleRecord : Paper → Type 0
StaleRecord P =
    (k : Desk) (c : Call) (later : List Call) → Parts k c → (w : Walk) → w.number ≤ k.station.number → (a : Ask)
    → Refused P (calls P (call P k c) later) w a

-- and a record that is accepted, whoever made it, hands back the bytes of the argument where it says to stand
abbrev pub AnyRecord : Paper → Type 0
AnyRecord P =
    (s : Station) (seat d address values : List ℕ) (w : Walk) (a : Ask) → Holds P s seat d → length values ≡ total (P.shapes d)
    → Lends P (images_for P d address values) a → step_refusal P s seat w a ≡ 0
    → (w ≡ standing P d s.number w.position) × (step_out P s seat w a ≡ get_or (cut (P.shapes d) values) w.position [])

-- a module leaves in a history, or does not: it falls under `Stale` from there, or under `GoesOn`
abbrev pub Either : Paper → Type 0
Either P = (k : Desk) (cs : List Call) → Along P (Stays P) k cs ⊎ Parted P k cs

-- ---- the number

-- "it counts the number up by one", "keeps the number": the number counts the accepted attaches, a change's among them, so it never falls
abbrev pub NumberCounts : Paper → Type 0
NumberCounts P = (k : Desk) (cs : List Call) → (calls P k cs).station.number ≡ attaches P k cs + k.station.number

-- 15: "attachment number 4,294,967,295 reached": it is never passed
abbrev pub NumberBounded : Paper → Type 0
NumberBounded P = (k : Desk) (cs : List Call) → k.station.number ≤ 4294967295 → (calls P k cs).station.number ≤ 4294967295

-- before it is reached, a station where nothing is attached answers an attach by the description alone
abbrev pub NumberPasses : Paper → Type 0
NumberPasses P =
    (s : Station) (seat d : List ℕ) → wrong_seat s seat ≡ false → s.attached ≡ false → s.number < 4294967295 → attach_refusal P s seat d ≡ verdict_of P d

-- "Attach at number 4,294,967,294 passes once": the next attach, after a detach, is 15, and so is a change
abbrev pub NumberLast : Paper → Type 0
NumberLast P =
    (k : Desk) (v : Arrival) (d : List ℕ) (b : IsBytes d) (d' : List ℕ) → k.station.number ≡ 4294967294 → answer P k (arriving v d b) ≡ 0
    → Last P (call P k (arriving v d b)) d'

-- ---- the states that can be reached

-- from a new station, with any seat and any records: nothing attached and length 0, or an accepted description and then zeros in the
-- seat; and then 1 to 10 are no answers of open, step and show
abbrev pub Reached : Paper → Type 0
Reached P =
    (seat : List ℕ) (walks : ℕ → Walk) (cs : List Call) → Consistent P (calls P (new_desk seat walks) cs).station (calls P (new_desk seat walks) cs).seat

abbrev pub OpenReached : Paper → Type 0
OpenReached P =
    (s : Station) (seat : List ℕ) → Consistent P s seat
    → open_refusal P s seat ≡ first (rule 11 (wrong_seat s seat) ∷ rule 13 (not s.attached) ∷ rule 16 (not (P.variadic (described s seat))) ∷ [])

-- the order of step and show without 1 to 10
abbrev pub reached_order : Paper → Station → List ℕ → Walk → Ask → List Rule → List Rule
reached_order P s seat w a late =
    rule 11 (wrong_seat s seat || wrong_registers P a) ∷ rule 13 (not s.attached) ∷ rule 17 (other_number s w)
    ∷ rule 18 (astray P (described s seat) w) ∷ rule 19 (at_end P (described s seat) w)
    ∷ rule 20 (other_type P (described s seat) w a) ∷ late

abbrev pub StepReached : Paper → Type 0
StepReached P =
    (s : Station) (seat : List ℕ) (w : Walk) (a : Ask) → Consistent P s seat
    → step_refusal P s seat w a
    ≡ first (reached_order P s seat w a (rule 11 (wrong_stack P (described s seat) a || wrong_out P (described s seat) w a) ∷ []))

abbrev pub ShowReached : Paper → Type 0
ShowReached P =
    (s : Station) (seat : List ℕ) (w : Walk) (a : Ask) → Consistent P s seat
    → show_refusal P s seat w a ≡ first (reached_order P s seat w a (rule 11 (wrong_stack P (described s seat) a) ∷ []))

-- ---- show

-- "A second call makes the same checks but for the out buffer"
abbrev pub ShowChecks : Paper → Type 0
ShowChecks P =
    (s : Station) (seat : List ℕ) (w : Walk) (a : Ask) → wrong_out P (described s seat) w a ≡ false → step_refusal P s seat w a ≡ show_refusal P s seat w a

-- "it shows the argument as a part of the register image or of the stack image": accepted, it answers the bytes that a step would write
-- where they lie in one part, and else the empty part
abbrev pub Shows : Paper → Type 0
Shows P =
    (s : Station) (seat : List ℕ) (w : Walk) (a : Ask) → show_refusal P s seat w a ≡ 0
    → show_part P s seat w a
    ≡ cond (whole (read_at P.slot (offsets_of w) (shape_at P (described s seat) w.position)) (shape_at P (described s seat) w.position))
    (bytes_at P (described s seat) w a) []

-- "and the empty part for a refusal"
abbrev pub ShowsNone : Paper → Type 0
ShowsNone P = (s : Station) (seat : List ℕ) (w : Walk) (a : Ask) → show_refusal P s seat w a ≢ 0 → show_part P s seat w a ≡ []

-- ---- detach, and what a refusal leaves

-- "Detach zeros seat and length and keeps the number"
abbrev pub Detaches : Paper → Type 0
Detaches P =
    (s : Station) (seat : List ℕ) → detach_refusal s seat ≡ 0
    → (detach_station s seat ≡ record { attached = false; length = record { 0 = 0 }; number = s.number }) × (detach_seat s seat ≡ replicate 586 0)

-- "a refusal changes no station, walk or lent buffer", a change apart that is refused under another number than 11
abbrev pub RefusedLeaves : Paper → Type 0
RefusedLeaves P = (k : Desk) (c : Call) → answer P k c ≢ 0 → Keeps c (answer P k c) → Unchanged k (call P k c)

abbrev pub RefusedOut : Paper → Type 0
RefusedOut P = (s : Station) (seat : List ℕ) (w : Walk) (a : Ask) → step_refusal P s seat w a ≢ 0 → step_out P s seat w a ≡ a.out

-- ---- one call to change modules (request 2026-09)

-- "It equals detach, its answer ignored, then attach"
abbrev pub ChangeEquals : Paper → Type 0
ChangeEquals P =
    (k : Desk) (d : List ℕ) (b : IsBytes d)
    → (answer P k (changing d b) ≡ answer P (call P k detaching) (attaching d b)) × (call P k (changing d b) ≡ call P (call P k detaching) (attaching d b))

-- "Refused under 11 it changes nothing, and an open walk goes on"
abbrev pub ChangeEleven : Paper → Type 0
ChangeEleven P =
    (s : Station) (seat d : List ℕ) → change_refusal P s seat d ≡ 11 → (change_station P s seat d ≡ s) × (change_seat P s seat d ≡ seat)

-- "if the new description is refused, or the number is used up, the station ends detached, with a zero seat if one was attached"; where
-- none was attached, nothing changes
abbrev pub ChangeLeaves : Paper → Type 0
ChangeLeaves P =
    (s : Station) (seat d : List ℕ) → change_refusal P s seat d ≢ 0 → change_refusal P s seat d ≢ 11
    → (change_station P s seat d ≡ cond s.attached (record { attached = false; length = record { 0 = 0 }; number = s.number }) s)
    × (change_seat P s seat d ≡ cond s.attached (replicate 586 0) seat)

-- "otherwise a walk opened before it is refused under 17 when a new attachment exists and 13 when none does"
abbrev pub ChangeEnds : Paper → Type 0
ChangeEnds P =
    (k : Desk) (i : ℕ) (before : List Call) (d : List ℕ) (b : IsBytes d) (later : List Call) → open_refusal P k.station k.seat ≡ 0
    → answer P (calls P (call P k (opening i)) before) (changing d b) ≢ 11 → All (Spares i) before → All (Spares i) later
    → Replaced P i (calls P (call P k (opening i)) before) d b later

-- ---- each argument's bytes

-- "Values come packed, argument after argument, size bytes each, no gaps": what `cut` gives, one after another, are the values, and each
-- argument has as many as its size
abbrev pub Cut : Paper → Type 0
Cut P =
    (d values : List ℕ) → length values ≡ total (P.shapes d)
    → (joined (cut (P.shapes d) values) ≡ values) × ((p : ℕ) → p < arguments P d → length (get_or (cut (P.shapes d) values) p []) ≡ (shape_at P d p).size)

pub record ConditionC (P : Paper) : Type 0 where
  pub starts : Starts P
  pub hands_back : HandsBack P
  pub hands_back_so_far : HandsBackSoFar P
  pub goes_on : GoesOn P
  pub never_another : NeverAnother P
  pub stale : Stale P
  pub stale_record : StaleRecord P
  pub any_record : AnyRecord P
  pub either : Either P
  pub number_counts : NumberCounts P
  pub number_bounded : NumberBounded P
  pub number_passes : NumberPasses P
  pub number_last : NumberLast P
  pub reached : Reached P
  pub open_reached : OpenReached P
  pub step_reached : StepReached P
  pub show_reached : ShowReached P
  pub show_checks : ShowChecks P
  pub shows : Shows P
  pub shows_none : ShowsNone P
  pub detaches : Detaches P
  pub refused : RefusedLeaves P
  pub refused_out : RefusedOut P
  pub change_equals : ChangeEquals P
  pub change_eleven : ChangeEleven P
  pub change_leaves : ChangeLeaves P
  pub change_ends : ChangeEnds P
  pub cuts : Cut P
