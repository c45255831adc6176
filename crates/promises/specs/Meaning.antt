-- What an answer means: document 01, "When an answer is an enum, a definition gives this paper's number and values for each of its cases. The
-- promises use that definition". Assumes nothing: these are definitions.
use Rattle.std.specs.Prelude.{◌≡◌, ◌↔◌, ◌≢◌, cond, List, [], ◌∷◌, ℕ, zero, suc, Err, None, Ok, Option, Result, Some}
use Rattle.description.specs.declared.Header.{Header}
use Rattle.form.specs.declared.Refusal.{Refusal}
use Rattle.form.specs.Order.{Rule, NoneHolds, Answers}
use Rattle.classes.specs.declared.Class.{Class}
use Rattle.classes.specs.declared.Class.TheVariants.{NoClass}
use Rattle.classes.specs.Classes.{same}
use Rattle.layout.specs.declared.Layout.{Layout}
use Rattle.walk.specs.declared.Walk.{Walk}
use Rattle.units.specs.declared.Bytes.{Bytes}
use Rattle.types.specs.declared.Extent.{Extent}
use Rattle.units.specs.declared.Registers.{Registers}
use Rattle.walk.specs.declared.showing.Shown.{Shown}
use Rattle.walk.specs.declared.showing.Shown.TheVariants.{Registers as InRegisters, Stack as InStack}

-- the values of an answer that accepts, or the number of a refusal: "A refusal returns its number only"
pub data Meaning (X : Type 0) : Type 0 where
  accepted : X → Meaning X
  refused : ℕ → Meaning X

-- the paper's number: 0 where it is accepted
abbrev pub number_of : {X : Type 0} → Meaning X → ℕ
number_of (accepted v) = 0
number_of (refused n) = n

-- an answer that is a number alone, 0 where it is accepted, and one that is a refusal's record
abbrev pub outcome : {X : Type 0} → ℕ → X → Meaning X
outcome zero v = accepted v
outcome (suc n) v = refused (suc n)

abbrev pub of_number : ℕ → Meaning (Unit {0})
of_number n = outcome n tt

abbrev pub of_refusal : Refusal → Meaning (Unit {0})
of_refusal r = of_number r.number

-- an answer that gives nothing where it accepts
abbrev pub of_judgment : Result (Unit {0}) Refusal → Meaning (Unit {0})
of_judgment (Ok tt) = accepted tt
of_judgment (Err r) = refused r.number

-- ---- the enums

-- T, variadic or not, N, A, the return type and M
abbrev pub of_reading : Result Header Refusal → Meaning Header
of_reading (Ok h) = accepted h
of_reading (Err r) = refused r.number

-- size and alignment, in bytes
abbrev pub of_extent : Result Extent Refusal → Meaning (ℕ × ℕ)
of_extent (Ok e) = accepted (e.size.0, e.align.0)
of_extent (Err r) = refused r.number

abbrev pub of_size : Result Bytes Refusal → Meaning ℕ
of_size (Ok n) = accepted n.0
of_size (Err r) = refused r.number

abbrev pub of_align : Result Bytes Refusal → Meaning ℕ
of_align (Ok n) = accepted n.0
of_align (Err r) = refused r.number

-- two classes, or, request 2026-06, four: those of two eightbytes have NO_CLASS third
abbrev pub class_list : Class → Class → Class → Class → List Class
class_list a b c e = cond (same c NoClass) (a ∷ b ∷ []) (a ∷ b ∷ c ∷ e ∷ [])

abbrev pub of_classes : Result (Class × Class × Class × Class) Refusal → Meaning (List Class)
of_classes (Ok (a, b, c, e)) = accepted (class_list a b c e)
of_classes (Err r) = refused r.number

-- where the run begins in the description, and how many members it has; a type of another kind has none
pub data Members : Type 0 where
  run : ℕ → ℕ → Members
  none : Members

abbrev pub of_run : Result (Option (Bytes × ℕ)) Refusal → Meaning Members
of_run (Ok (Some (o, n))) = accepted (run o.0 n)
of_run (Ok None) = accepted none
of_run (Err r) = refused r.number

-- registers used, vector registers used, area and its alignment, length of the values, return place, hidden address or not, and where a walk starts
abbrev pub of_layout : Result Layout Refusal → Meaning Layout
of_layout (Ok l) = accepted l
of_layout (Err r) = refused r.number

-- the vector count, for al
abbrev pub of_placing : Result Registers Refusal → Meaning ℕ
of_placing (Ok n) = accepted n.0
of_placing (Err r) = refused r.number

-- the hidden address
abbrev pub of_gathering : Result ℕ Refusal → Meaning ℕ
of_gathering (Ok h) = accepted h
of_gathering (Err r) = refused r.number

-- nothing but the number; and the hidden address
abbrev pub of_putting : Result (Unit {0}) Refusal → Meaning (Unit {0})
of_putting (Ok tt) = accepted tt
of_putting (Err r) = refused r.number

abbrev pub of_taking : Result ℕ Refusal → Meaning ℕ
of_taking (Ok h) = accepted h
of_taking (Err r) = refused r.number

-- the walk record
abbrev pub of_opening : Result Walk Refusal → Meaning Walk
of_opening (Ok w) = accepted w
of_opening (Err r) = refused r.number

-- offset and length of the part that shows an argument, in the register image or in the stack image; or no one part shows it
pub data Part : Type 0 where
  in_registers : ℕ → ℕ → Part
  in_stack : ℕ → ℕ → Part
  apart : Part

abbrev pub shown_part : Result (Option Shown) Refusal → Part
shown_part (Ok (Some (InRegisters p))) = in_registers p.offset.0 p.length.0
shown_part (Ok (Some (InStack p))) = in_stack p.offset.0 p.length.0
shown_part (Ok None) = apart
shown_part (Err r) = apart

abbrev pub of_shown : Result (Option Shown) Refusal → Meaning Part
of_shown (Ok (Some (InRegisters p))) = accepted (shown_part (Ok (Some (InRegisters p))))
of_shown (Ok (Some (InStack p))) = accepted (shown_part (Ok (Some (InStack p))))
of_shown (Ok None) = accepted apart
of_shown (Err r) = refused r.number

-- ---- what it is to answer by an order of refusals

-- "Bad input gets the numbered refusal of document 01, in the stated order, never otherwise": the answer is the refusal n exactly where a
-- condition numbered n holds and none before it in the order does; and it is v exactly where none holds
pub record Answered {X : Type 0} (m : Meaning X) (rules : List Rule) (v : X) : Type 0 where
  pub refusal : (n : ℕ) → n ≢ 0 → (m ≡ refused n) ↔ Answers rules n
  pub acceptance : (m ≡ accepted v) ↔ NoneHolds rules
