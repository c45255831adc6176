-- When open, step and show refuse (document 01, "Station and walk" and "Refusal numbers"). Assumes nothing: these are definitions.
use Rattle.std.specs.Prelude.{Bool, not, ◌||◌, List, [], ◌∷◌, ◌++◌, ℕ, ltb, eqb, length}
use Rattle.form.specs.Order.{Rule, rule, first}
use Rattle.station.specs.declared.Station.{Station}
use Rattle.station.specs.Paper.{Paper, arguments, shape_at, type_at, used_at, area_of}
use Rattle.station.specs.Attachment.{wrong_seat, described}
use Rattle.walk.specs.declared.Walk.{Walk}
use Rattle.walk.specs.Offsets.{Offsets, walk_at}

-- what a step is lent besides: the two images, the type number asked, the out buffer
pub record Ask : Type 0 where
  pub registers : List ℕ
  pub stack : List ℕ
  pub asked : ℕ
  pub out : List ℕ

abbrev pub asking : List ℕ → List ℕ → ℕ → List ℕ → Ask
asking registers stack asked out = record { registers = registers; stack = stack; asked = asked; out = out }

abbrev pub offsets_of : Walk → Offsets
offsets_of w = record { general = w.general.0; vector = w.vector.0; overflow = w.overflow.0 }

abbrev pub with_offsets : ℕ → ℕ → Offsets → Walk
with_offsets n p o =
    record { number = n; position = p; general = record { 0 = o.general }; vector = record { 0 = o.vector }; overflow = record { 0 = o.overflow } }

-- 17: "walk of another attachment number"
unfoldable pub other_number : Station → Walk → Bool
other_number s w = not (eqb w.number s.number)

module _ (P : Paper) where
  -- 11: "The register image is 176 bytes"
  unfoldable pub wrong_registers : Ask → Bool
  wrong_registers a = not (eqb (length a.registers) P.registers)

  -- the record that stands before argument p: "the offsets .. this description gives there"
  unfoldable pub standing : List ℕ → ℕ → ℕ → Walk
  standing d n p = with_offsets n p (walk_at (used_at P d p))

  -- "1..10, 16"
  abbrev pub variadic_order : List ℕ → List Rule
  variadic_order d = P.order d ++ (rule 16 (not (P.variadic d)) ∷ [])

  -- "Open: 11, 13, 1..10, 16"
  abbrev pub open_order : Station → List ℕ → List Rule
  open_order s seat = rule 11 (wrong_seat s seat) ∷ rule 13 (not s.attached) ∷ variadic_order (described s seat)

  unfoldable pub open_refusal : Station → List ℕ → ℕ
  open_refusal s seat = first (open_order s seat)

  -- 18: "position outside N..A, or offsets not those this description gives there"
  unfoldable pub astray : List ℕ → Walk → Bool
  astray d w =
      ltb w.position (P.named d) || (ltb (arguments P d) w.position
      || (not (eqb w.general.0 (standing d w.number w.position).general.0)
      || (not (eqb w.vector.0 (standing d w.number w.position).vector.0)
      || not (eqb w.overflow.0 (standing d w.number w.position).overflow.0))))

  -- 19: "position is A"
  unfoldable pub at_end : List ℕ → Walk → Bool
  at_end d w = eqb w.position (arguments P d)

  -- 20: "type number asked differs from the argument's"
  unfoldable pub other_type : List ℕ → Walk → Ask → Bool
  other_type d w a = not (eqb a.asked (type_at P d w.position))

  -- "1..10, 17, 18, 19, 20, then" what comes late
  abbrev pub rest_order : Station → List ℕ → Walk → Ask → List Rule → List Rule
  rest_order s d w a late =
      P.order d
      ++ (rule 17 (other_number s w) ∷ rule 18 (astray d w) ∷ rule 19 (at_end d w) ∷ rule 20 (other_type d w a) ∷ late)

  -- "11 for seat, station and register image, 13", and the rest
  abbrev pub walk_order : Station → List ℕ → Walk → Ask → List Rule → List Rule
  walk_order s seat w a late =
      rule 11 (wrong_seat s seat || wrong_registers a) ∷ rule 13 (not s.attached) ∷ rest_order s (described s seat) w a late

  -- ".. 11 for stack image and out buffer": "an out buffer of exactly the type's size"
  unfoldable pub wrong_stack : List ℕ → Ask → Bool
  wrong_stack d a = not (eqb (length a.stack) (area_of P d))

  unfoldable pub wrong_out : List ℕ → Walk → Ask → Bool
  wrong_out d w a = not (eqb (length a.out) (shape_at P d w.position).size)

  abbrev pub step_order : Station → List ℕ → Walk → Ask → List Rule
  step_order s seat w a = walk_order s seat w a (rule 11 (wrong_stack (described s seat) a || wrong_out (described s seat) w a) ∷ [])

  unfoldable pub step_refusal : Station → List ℕ → Walk → Ask → ℕ
  step_refusal s seat w a = first (step_order s seat w a)

  -- "A second call makes the same checks but for the out buffer", and the third gives its number
  abbrev pub show_order : Station → List ℕ → Walk → Ask → List Rule
  show_order s seat w a = walk_order s seat w a (rule 11 (wrong_stack (described s seat) a) ∷ [])

  unfoldable pub show_refusal : Station → List ℕ → Walk → Ask → ℕ
  show_refusal s seat w a = first (show_order s seat w a)

  -- the same where seat, station and register image are right and something is attached
  unfoldable pub rest_refusal : Station → List ℕ → Walk → Ask → ℕ
  rest_refusal s d w a = first (rest_order s d w a (rule 11 (wrong_stack d a) ∷ []))
