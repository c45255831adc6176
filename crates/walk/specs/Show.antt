-- What show answers (document 01, "Station and walk"): a part of the register image or of the stack image, or the empty part.
-- Assumes nothing: these are definitions.
use Rattle.walk.specs.declared.showing.Shown.TheVariants.{Registers, Stack}
use Rattle.std.specs.Prelude.{Bool, true, false, cond, List, [], ◌∷◌, ℕ, ◌+◌, ◌≤◌, eqb, take, drop, Err, None, Ok, Option, Result, Some}
use Rattle.places.specs.declared.Kind.{Kind}
use Rattle.places.specs.declared.Kind.TheVariants.{General as general, Vector as vector, Upper as upper, Wide as wide}
use Rattle.places.specs.Shapes.{Shape}
use Rattle.station.specs.declared.Station.{Station}
use Rattle.station.specs.Paper.{Paper, refusal_under, shape_at}
use Rattle.station.specs.Attachment.{described}
use Rattle.walk.specs.declared.Walk.{Walk}
use Rattle.walk.specs.Offsets.{Source, from_registers, from_stack, read_at}
use Rattle.walk.specs.Orders.{Ask, offsets_of, show_refusal}
use Rattle.form.specs.declared.Refusal.{Refusal}
use Rattle.walk.specs.declared.showing.Shown.{Shown}

-- two eightbytes that lie in one part: two general registers, or a vector register with its upper half; not "two vector registers"
-- and not "mixed ones (r9 with xmm0 too, though they adjoin)"
abbrev pub alike : Kind → Kind → Bool
alike general general = true
alike general vector = false
alike general upper = false
alike general wide = false
alike vector general = false
alike vector vector = false
alike vector upper = true
alike vector wide = false
alike upper l = false
alike wide l = false

-- one eightbyte lies in one part; what is in a wide register does not, but no unnamed argument is (`Narrow`)
abbrev pub alone : Kind → Bool
alone general = true
alone vector = true
alone upper = true
alone wide = false

-- eightbytes that lie in one part of the register image
abbrev pub one_piece : List Kind → Bool
one_piece [] = false
one_piece (k ∷ []) = alone k
one_piece (k ∷ l ∷ []) = alike k l
one_piece (k ∷ l ∷ m ∷ ks) = false

abbrev pub head_of : List ℕ → ℕ
head_of [] = 0
head_of (b ∷ bs) = b

-- an argument of this shape, fetched there, lies in one part of one image
abbrev pub whole : Source → Shape → Bool
whole (from_registers os) s = one_piece s.kinds
whole (from_stack o) s = true

-- where it lies: from its first eightbyte's offset on, as many bytes as it has
abbrev pub part_in : Source → Shape → Result (Option Shown) Refusal
part_in (from_registers os) s =
    cond (one_piece s.kinds) (Ok (Some (Registers (record { offset = record { 0 = head_of os }; length = record { 0 = s.size } })))) (Ok None)
part_in (from_stack o) s = Ok (Some (Stack (record { offset = record { 0 = o }; length = record { 0 = s.size } })))

-- the bytes that an answer names in a register image and a stack image: "the empty part for a refusal, for two vector registers and for mixed ones"
abbrev pub shown_bytes : Result (Option Shown) Refusal → List ℕ → List ℕ → List ℕ
shown_bytes (Ok (Some (Registers p))) registers stack = take p.length.0 (drop p.offset.0 registers)
shown_bytes (Ok (Some (Stack p))) registers stack = take p.length.0 (drop p.offset.0 stack)
shown_bytes (Ok None) registers stack = []
shown_bytes (Err r) registers stack = []

-- the part lies within images of these lengths
abbrev pub Lies : Result (Option Shown) Refusal → ℕ → ℕ → Type 0
Lies (Ok (Some (Registers p))) regs stack = p.offset.0 + p.length.0 ≤ regs
Lies (Ok (Some (Stack p))) regs stack = p.offset.0 + p.length.0 ≤ stack
Lies (Ok None) regs stack = Unit {0}
Lies (Err r) regs stack = Unit {0}

module _ (P : Paper) where
  -- where 3.5.7 fetches the argument that the walk stands before
  unfoldable pub shown_in : List ℕ → Walk → Result (Option Shown) Refusal
  shown_in d w = part_in (read_at P.slot (offsets_of w) (shape_at P d w.position)) (shape_at P d w.position)

  unfoldable pub shown_answer : Station → List ℕ → Walk → Ask → Result (Option Shown) Refusal
  shown_answer s seat w a =
      cond (eqb (show_refusal P s seat w a) 0) (shown_in (described s seat) w) (Err (refusal_under P (described s seat) (show_refusal P s seat w a)))

  -- what show answers; the out buffer of the ask is not looked at
  unfoldable pub show_part : Station → List ℕ → Walk → Ask → List ℕ
  show_part s seat w a = shown_bytes (shown_answer s seat w a) a.registers a.stack
