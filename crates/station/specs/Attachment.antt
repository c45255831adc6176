-- Attach and detach (document 01, "Station and walk" and "Refusal numbers") and the change (request 2026-09): what each answers and leaves, as
-- functions of what it is lent. Assumes nothing: these are definitions.
use Rattle.std.specs.Prelude.{Bool, true, false, not, ◌||◌, List, [], ◌∷◌, ◌++◌, ℕ, suc, ◌-◌, leb, ltb, eqb, length, take, replicate}
use Rattle.form.specs.Order.{Rule, rule, first}
use Rattle.station.specs.declared.Station.{Station}
use Rattle.station.specs.Outcome.{leaves}
use Rattle.station.specs.Paper.{Paper}

-- "attached or not, a length and an attachment number, 0 at first"
unfoldable pub new_station : Station
new_station = record { attached = false; length = record { 0 = 0 }; number = 0 }

-- 11: "a lent buffer of wrong length, .. a station length over 586": "The seat is 586 lent bytes"
unfoldable pub wrong_seat : Station → List ℕ → Bool
wrong_seat s seat = not (eqb (length seat) 586) || ltb 586 s.length.0

-- "Open and step read the description in the seat at the station's length"
unfoldable pub described : Station → List ℕ → List ℕ
described s seat = take s.length.0 seat

-- "the description, then zeros"
unfoldable pub seat_of : List ℕ → List ℕ
seat_of d = d ++ replicate (586 - length d) 0

-- ---- detach, which does not look at the description

-- "Detach: 11, 13"
abbrev pub detach_order : Station → List ℕ → List Rule
detach_order s seat = rule 11 (wrong_seat s seat) ∷ rule 13 (not s.attached) ∷ []

unfoldable pub detach_refusal : Station → List ℕ → ℕ
detach_refusal s seat = first (detach_order s seat)

-- "Detach zeros seat and length and keeps the number"
abbrev pub freed : Station → Station
freed s = record { attached = false; length = record { 0 = 0 }; number = s.number }

unfoldable pub detach_station : Station → List ℕ → Station
detach_station s seat = leaves (detach_refusal s seat) (freed s) s

unfoldable pub detach_seat : Station → List ℕ → List ℕ
detach_seat s seat = leaves (detach_refusal s seat) (replicate 586 0) seat

-- ---- attach

-- "it counts the number up by one"
abbrev pub holding : Station → List ℕ → Station
holding s d = record { attached = true; length = record { 0 = length d }; number = suc s.number }

module _ (P : Paper) where
  -- "Attach: 11, 14, 15, 1..10"
  abbrev pub attach_order : Station → List ℕ → List ℕ → List Rule
  attach_order s seat d =
      rule 11 (wrong_seat s seat) ∷ rule 14 s.attached ∷ rule 15 (leb 4294967295 s.number) ∷ P.order d

  unfoldable pub attach_refusal : Station → List ℕ → List ℕ → ℕ
  attach_refusal s seat d = first (attach_order s seat d)

  unfoldable pub attach_station : Station → List ℕ → List ℕ → Station
  attach_station s seat d = leaves (attach_refusal s seat d) (holding s d) s

  -- "and fills the seat with the description, then zeros"
  unfoldable pub attach_seat : Station → List ℕ → List ℕ → List ℕ
  attach_seat s seat d = leaves (attach_refusal s seat d) (seat_of d) seat

  -- ---- change (request 2026-09)

  -- "It equals detach, its answer ignored, then attach"
  unfoldable pub change_refusal : Station → List ℕ → List ℕ → ℕ
  change_refusal s seat d = attach_refusal (detach_station s seat) (detach_seat s seat) d

  unfoldable pub change_station : Station → List ℕ → List ℕ → Station
  change_station s seat d = attach_station (detach_station s seat) (detach_seat s seat) d

  unfoldable pub change_seat : Station → List ℕ → List ℕ → List ℕ
  change_seat s seat d = attach_seat (detach_station s seat) (detach_seat s seat) d

  -- "Refusals: 11 first, then those of attach without 14"
  abbrev pub change_order : Station → List ℕ → List ℕ → List Rule
  change_order s seat d = rule 11 (wrong_seat s seat) ∷ rule 15 (leb 4294967295 s.number) ∷ P.order d
