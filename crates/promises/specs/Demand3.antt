-- Demand 3, "Condition C, reconnection. Reason: our present bridge kept a half-finished walk while one module left and another came. Key pressure was
-- then read under the old module's offsets and saved into players' patches as filter depth": "For every accepted description and every list of values
-- of the right length, each _Bool argument being 0 or 1: each value byte has exactly one place, no two share one, and stack places respect the type's
-- alignment. For one description and one hidden address, different lists never give the same register and stack images. A walk opened after any history
-- of attaching and detaching starts as the new description alone says, its attachment number apart, and, over images placed for it and asked by the
-- right types, hands back each unnamed argument's bytes in order. A walk opened under an earlier attachment is refused." Each statement is a type, under
-- the label of docs/CONTRACTS.md; proofs/Demand3.antt proves `Demand3`. What calls in a row do is stated in histories/specs/ConditionC.antt, where the
-- host's part is among the hypotheses. Request 2026-06: "Demands 2 and 3 count the second image among the images". Assumes nothing: these are definitions.
use Rattle.std.specs.Prelude.{◌≡◌, true, List, ◌++◌, ℕ, suc, ◌+◌, ◌-◌, ◌/◌, ◌%◌, ◌≤◌, ◌<◌, length, get_or, take, replicate}
use Rattle.addresses.specs.Addresses.{All}
use Rattle.description.specs.Description.{IsBytes, arguments_in}
use Rattle.places.specs.declared.Register.{Register}
use Rattle.places.specs.Places.{in_registers, on_stack}
use Rattle.places.specs.Images.{slots, stack_at, bytes_of}
use Rattle.layout.specs.Arguments.{hidden, area_of}
use Rattle.layout.specs.Verdict.{verdict}
use Rattle.layout.specs.Layout.{values_of}
use Rattle.layout.specs.Placements.{placement_at}
use Rattle.images.specs.Words.{little_endian}
use Rattle.moving.specs.Images.{addresses_of, amd64}
use Rattle.moving.specs.Orders.{place_refusal}
use Rattle.moving.specs.Answers.{images_after}
use Rattle.moving.specs.Statements.{NoSharedImage}
use Rattle.station.specs.declared.Station.{Station}
use Rattle.station.specs.Paper.{kcb}
use Rattle.station.specs.Attachment.{attach_refusal, attach_station, attach_seat, change_refusal, change_station, change_seat}
use Rattle.histories.specs.Calls.{Desk, Call, Arrival, calls, Along, Stays, Until, handed, Spares, Serves, Served, asks}
use Rattle.histories.specs.Values.{images_for, unnamed, unnamed_questions}
use Rattle.histories.specs.Outcomes.{opened, Ended}
use Rattle.histories.specs.ConditionC.{Connects, Starts, HandsBackSoFar, GoesOn, Stale, StaleRecord, AnyRecord, Either, NumberCounts, NumberBounded, NumberPasses, NumberLast, Reached, OpenReached, StepReached, ShowReached, ShowChecks, Shows, ShowsNone, Detaches, RefusedLeaves, ChangeEquals, ChangeEleven, ChangeLeaves, ChangeEnds, Cut}
use Rattle.promises.specs.Demand2.{place_at}

-- ---- C1, C2: "each value byte has exactly one place, no two share one"

-- where value byte k lies, in the register image with the upper image and then the stack image behind it: these are the addresses that placing and gathering move bytes by
abbrev pub lies : List ℕ → ℕ → ℕ
lies d k = get_or (addresses_of d) k 0

pub record C1C2Places : Type 0 where
  -- one place for each value byte
  pub each : (d : List ℕ) → verdict d ≡ 0 → length (addresses_of d) ≡ values_of d
  -- that of byte j of argument i is in the place that its record says
  pub recorded : (d : List ℕ) (i j : ℕ) → verdict d ≡ 0 → i < arguments_in d → j < (placement_at d i).size.0
      → lies d ((placement_at d i).at.0 + j) ≡ get_or (bytes_of stack_at (place_at d i) (placement_at d i).size.0) j 0
  -- in registers it is byte j % 8 of eightbyte j / 8, which begins where `slots` says. Request 2026-06: "Bytes 16 to 31 stand in a second lent image of 128
  -- bytes, xmm0 first", which begins at 176
  pub in_registers_lem : (d : List ℕ) (i j : ℕ) (rs : List Register) → verdict d ≡ 0 → i < arguments_in d → place_at d i ≡ in_registers rs → j < (placement_at d i).size.0
      → lies d ((placement_at d i).at.0 + j) ≡ get_or (slots rs) (j / 8) 0 + j % 8
  -- within the images
  pub inside : (d : List ℕ) (k : ℕ) → verdict d ≡ 0 → k < values_of d → lies d k < stack_at + area_of d
  -- "no two share one"
  pub once : (d : List ℕ) (k l : ℕ) → verdict d ≡ 0 → k < values_of d → l < values_of d → lies d k ≡ lies d l → k ≡ l
  -- and none is in rdi where the hidden address is
  pub past : (d : List ℕ) (k : ℕ) → verdict d ≡ 0 → hidden d ≡ true → k < values_of d → 8 ≤ lies d k

-- ---- C3: "stack places respect the type's alignment"

pub record C3Alignment : Type 0 where
  pub aligned : (d : List ℕ) (i o : ℕ) → verdict d ≡ 0 → i < arguments_in d → place_at d i ≡ on_stack o
      → (o % (placement_at d i).align.0 ≡ 0) × (o % 8 ≡ 0)
  -- the first byte of the value lies there in the stack image
  pub there : (d : List ℕ) (i o : ℕ) → verdict d ≡ 0 → i < arguments_in d → place_at d i ≡ on_stack o → lies d (placement_at d i).at.0 ≡ stack_at + o

-- ---- C4: "For one description and one hidden address, different lists never give the same register and stack images", the upper image among them: `NoSharedImage`

-- ---- C5: "A walk opened after any history of attaching and detaching starts as the new description alone says, its attachment number apart"

pub record C5Starts : Type 0 where
  -- what an accepted attach leaves, of any station and any seat: "counts the number up by one and fills the seat with the description, then zeros"
  pub attached : (s : Station) (seat d : List ℕ) → attach_refusal kcb s seat d ≡ 0
      → (attach_station kcb s seat d ≡ record { attached = true; length = record { 0 = length d }; number = suc s.number })
      × (attach_seat kcb s seat d ≡ d ++ replicate (586 - length d) 0)
  -- and an accepted change, the same
  pub changed : (s : Station) (seat d : List ℕ) → change_refusal kcb s seat d ≡ 0
      → (change_station kcb s seat d ≡ record { attached = true; length = record { 0 = length d }; number = suc s.number })
      × (change_seat kcb s seat d ≡ d ++ replicate (586 - length d) 0)
  pub starts : Starts kcb

-- ---- C6: what calls lead to: 1 to 10 are no answers of open, step and show there

pub record C6Reached : Type 0 where
  pub reached : Reached kcb
  pub open_reached : OpenReached kcb
  pub step_reached : StepReached kcb
  pub show_reached : ShowReached kcb

-- ---- C7: "A walk opened under an earlier attachment is refused"

pub record C7Stale : Type 0 where
  pub stale : Stale kcb
  pub stale_record : StaleRecord kcb
  pub number_counts : NumberCounts kcb
  pub number_bounded : NumberBounded kcb
  -- the module leaves in a history, or does not: so it falls under `stale` from there, or under C8
  pub either : Either kcb

-- ---- C8: "over images placed for it and asked by the right types, hands back each unnamed argument's bytes in order"

-- the images as `place_values` leaves them
abbrev pub placed_images : List ℕ → ℕ → List ℕ → List ℕ → List ℕ → List ℕ → List ℕ
placed_images d h values r y s = images_after amd64 d h values r y s

-- d comes at any desk k, by an attach or a change, the walk i is opened, and each step of it is lent these images: then the steps hand back the unnamed arguments'
-- bytes, in order, among any other calls, and the next step is 19
abbrev pub HandsBackPlaced : Type 0
HandsBackPlaced =
    (k : Desk) (v : Arrival) (d : List ℕ) (b : IsBytes d) (h : ℕ) (values r y s : List ℕ) (i : ℕ) (between cs : List Call)
    → place_refusal amd64 d h values (length r) (length y) (length s) ≡ 0 → Connects kcb k v d b between → kcb.variadic d ≡ true → All (Spares i) cs
    → All (Serves kcb i (placed_images d h values r y s)) cs → Along kcb (Stays kcb) (opened kcb k v d b between i) cs → asks i cs ≡ unnamed_questions kcb d
    → (handed kcb i (opened kcb k v d b between i) cs ≡ unnamed kcb d values)
    × Ended kcb i (calls kcb (opened kcb k v d b between i) cs) (placed_images d h values r y s)

-- in any history whatever, detaches, changes and other modules included, what it hands back is a beginning of its own module's unnamed arguments, as long as
-- the images are lent to the steps that are accepted before its module leaves
abbrev pub NeverAnotherPlaced : Type 0
NeverAnotherPlaced =
    (k : Desk) (v : Arrival) (d : List ℕ) (b : IsBytes d) (h : ℕ) (values r y s : List ℕ) (i : ℕ) (between cs : List Call)
    → place_refusal amd64 d h values (length r) (length y) (length s) ≡ 0 → Connects kcb k v d b between → kcb.variadic d ≡ true → All (Spares i) cs
    → Until kcb (Served kcb i (placed_images d h values r y s)) (opened kcb k v d b between i) cs
    → handed kcb i (opened kcb k v d b between i) cs ≡ take (length (handed kcb i (opened kcb k v d b between i) cs)) (unnamed kcb d values)

pub record C8HandsBack : Type 0 where
  -- the images that `place_values` leaves are those that condition C speaks of
  pub placed_for : (d : List ℕ) (h : ℕ) (values r y s : List ℕ) → place_refusal amd64 d h values (length r) (length y) (length s) ≡ 0
      → placed_images d h values r y s ≡ images_for kcb d (little_endian 8 h) values
  pub hands_back : HandsBackPlaced
  pub never_another : NeverAnotherPlaced
  -- what is answered next after any questions, right or wrong; the first m arguments alone; a record of any making; values cut into arguments
  pub goes_on : GoesOn kcb
  pub hands_back_so_far : HandsBackSoFar kcb
  pub any_record : AnyRecord kcb
  pub cuts : Cut kcb
  -- a refused call leaves the desk as it was, so that a walk goes on behind it; a change does so under 11 alone
  pub refused : RefusedLeaves kcb

-- ---- C9: "it shows the argument as a part of the register image or of the stack image, and the empty part for a refusal, for two vector registers and
-- for mixed ones"

pub record C9Shows : Type 0 where
  pub checks : ShowChecks kcb
  pub shows : Shows kcb
  pub shows_none : ShowsNone kcb

-- ---- C10: "Attach at number 4,294,967,294 passes once"

pub record C10Number : Type 0 where
  pub passes : NumberPasses kcb
  pub last : NumberLast kcb

-- ---- C11: "Detach zeros seat and length and keeps the number": `Detaches`

-- ---- C12, request 2026-09: "It equals detach, its answer ignored, then attach. So if the new description is refused, or the number is used up, the
-- station ends detached, with a zero seat if one was attached .. Refused under 11 it changes nothing, and an open walk goes on; otherwise a walk opened
-- before it is refused under 17 when a new attachment exists and 13 when none does"

pub record C12Changes : Type 0 where
  pub equals : ChangeEquals kcb
  pub leaves : ChangeLeaves kcb
  pub eleven : ChangeEleven kcb
  pub ends : ChangeEnds kcb

pub record Demand3 : Type 0 where
  pub places : C1C2Places
  pub alignment : C3Alignment
  pub no_shared_image : NoSharedImage amd64
  pub starts : C5Starts
  pub reached : C6Reached
  pub stale : C7Stale
  pub hands_back : C8HandsBack
  pub shows : C9Shows
  pub number : C10Number
  pub detaches : Detaches kcb
  pub changes : C12Changes
