-- What the chapters before promise of an accepted description, and the states that calls lead to. Assumes nothing: these are definitions.
use Rattle.std.specs.Prelude.{◌≡◌, ◌≢◌, true, false, List, ℕ, ◌%◌, ◌≤◌, length, drop}
use Rattle.addresses.specs.Addresses.{All}
use Rattle.description.specs.Description.{IsBytes}
use Rattle.places.specs.Shapes.{Shaped}
use Rattle.places.specs.Places.{slot_size}
use Rattle.places.specs.Statements.{Seated}
use Rattle.station.specs.declared.Station.{Station}
use Rattle.station.specs.Paper.{Paper, verdict_of, arguments}
use Rattle.station.specs.Attachment.{seat_of}
use Rattle.walk.specs.Offsets.{Narrow}

module _ (P : Paper) where
  -- "at most 586", of a list of bytes; what classification guarantees; "N is at most A"; a type number for each argument; registers only
  -- where their images are, and an unnamed argument's only where a step is lent them; no unnamed argument is wide; the register image stands
  -- before the stack; what is used at first of the stack is slots; 11 is said of what is lent, never of a description
  pub record Lawful : Type 0 where
    pub short : (d : List ℕ) → IsBytes d → verdict_of P d ≡ 0 → length d ≤ 586
    pub shaped : (d : List ℕ) → verdict_of P d ≡ 0 → All Shaped (P.shapes d)
    pub within : (d : List ℕ) → verdict_of P d ≡ 0 → P.named d ≤ arguments P d
    pub typed : (d : List ℕ) → verdict_of P d ≡ 0 → length (P.types d) ≡ arguments P d
    pub seated : (d : List ℕ) → verdict_of P d ≡ 0 → All (Seated P.stack_at) (P.shapes d)
    pub stepped : (d : List ℕ) → verdict_of P d ≡ 0 → All (Seated P.registers) (drop (P.named d) (P.shapes d))
    pub narrow : (d : List ℕ) → verdict_of P d ≡ 0 → All Narrow (drop (P.named d) (P.shapes d))
    pub before : P.registers ≤ P.stack_at
    pub starts : (d : List ℕ) → verdict_of P d ≡ 0 → (P.first d).stack.0 % slot_size P.slot ≡ 0
    pub lent : (d : List ℕ) → verdict_of P d ≢ 11

  -- the seat holds the accepted description d, and the station knows it
  pub record Holds (s : Station) (seat d : List ℕ) : Type 0 where
    pub attached : s.attached ≡ true
    pub bytes : IsBytes d
    pub accepted : verdict_of P d ≡ 0
    pub long : s.length.0 ≡ length d
    pub filled : seat ≡ seat_of d

  -- what calls can lead to
  pub record Consistent (s : Station) (seat : List ℕ) : Type 0 where
    pub idle : s.attached ≡ false → s.length.0 ≡ 0
    pub busy : s.attached ≡ true → (d : List ℕ) × Holds s seat d
