-- A description's named part as a declaration, and a declaration as a call: request 2026-08. Assumes nothing: these are definitions.
use Rattle.std.specs.Prelude.{◌≡◌, List, ℕ, ◌+◌, ◌≤◌, ◌<◌, eqb, take, set}
use Rattle.description.specs.Description.{variadic_in, model_in, named_in, arguments_in, argument_start}
use Rattle.layout.specs.Arguments.{used_at, return_place}
use Rattle.layout.specs.Placements.{placement_at}
use Rattle.grammar.specs.Machine.{accepted, read_text}
use Rattle.grammar.specs.Grammar.{Event}
use Rattle.grammar.specs.Prototype.{declarations, prototype}
use Rattle.grammar.specs.Meaning as read
use Rattle.grammar.specs.Meaning.{Result}
use Rattle.declaring.specs.Writing.{Declaration, declaration_text}
use Rattle.tidying.specs.Call.{Returned, void, returned, Call, trees_from, returned_by, call_of}
use Rattle.tidying.specs.Tidy.{tidy_of}
use Rattle.collecting.specs.Statements.{declared_call}

abbrev pub result_of : Returned → Result
result_of void = read.void
result_of (returned t) = read.gives t

-- "a description's named part": of the arguments the first N; A = N
unfoldable pub named_part : Call → Call
named_part c = record { flags = c.flags; named = c.named; returns = c.returns; arguments = take c.named c.arguments }

-- the same as a description: byte 8 is N, and the arguments behind the named ones are left off
unfoldable pub named_bytes : List ℕ → List ℕ
named_bytes d = take (argument_start d + named_in d) (set d 8 (named_in d))

-- as a declaration
unfoldable pub declaration_of : List ℕ → Declaration
declaration_of d = record { returns = result_of (returned_by d); arguments = trees_from d 0 (named_in d); variadic = eqb (variadic_in d) 1 }

-- the text that the writer writes
unfoldable pub written_text : List ℕ → List ℕ
written_text d = declaration_text (declaration_of d)

-- "reading that gives the tidy form of that part", where the reader is told the description's model
pub record GivesBack (d : List ℕ) : Type 0 where
  pub events : List Event
  pub read : read_text declarations prototype (written_text d) ≡ accepted events
  pub call : declared_call (model_in d) events ≡ named_part (call_of d)
  pub tidy : tidy_of (declared_call (model_in d) events) ≡ tidy_of (named_part (call_of d))

-- "the tidy form of that part, with the same layout": what the tidy bytes say, and where each named argument and the result lie
pub record SameLayout (d : List ℕ) : Type 0 where
  pub says : call_of (tidy_of (named_part (call_of d))) ≡ named_part (call_of d)
  pub model : model_in (tidy_of (named_part (call_of d))) ≡ model_in d
  pub many : arguments_in (tidy_of (named_part (call_of d))) ≡ named_in d
  pub sizes : (i : ℕ) → i < named_in d → (placement_at (tidy_of (named_part (call_of d))) i).size ≡ (placement_at d i).size
  pub aligns : (i : ℕ) → i < named_in d → (placement_at (tidy_of (named_part (call_of d))) i).align ≡ (placement_at d i).align
  pub places : (i : ℕ) → i < named_in d → (placement_at (tidy_of (named_part (call_of d))) i).place ≡ (placement_at d i).place
  pub returns : return_place (tidy_of (named_part (call_of d))) ≡ return_place d
  pub used : (i : ℕ) → i ≤ named_in d → used_at (tidy_of (named_part (call_of d))) i ≡ used_at d i
