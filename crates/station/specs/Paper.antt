-- What the chapters before say of a description's bytes, as one record, so that station and walk are defined for any such paper;
-- `kcb` is document 01's. Assumes nothing: these are definitions.
use Rattle.std.specs.Prelude.{Bool, cond, List, [], map, ℕ, eqb, length, get_or, take, Result, Ok, Err}
use Rattle.std.proofs.Common.{arith}
use Rattle.addresses.specs.Addresses.{run}
use Rattle.description.specs.Description.{variadic_in, named_in, arguments_in, argument_at, model_in}
use Rattle.form.specs.Conditions.{first_broken}
use Rattle.form.specs.Order.{Rule, first, Positive}
use Rattle.form.specs.Reading.{refusal_by}
use Rattle.form.specs.declared.Refusal.{Refusal}
use Rattle.types.specs.Large.{first_large}
use Rattle.places.specs.declared.Used.{Used}
use Rattle.places.specs.Shapes.{Shape}
use Rattle.places.specs.Places.{Slot, eights, after, area}
use Rattle.places.specs.Images.{stack_at}
use Rattle.layout.specs.Arguments.{shapes as layout_shapes, hidden, used_first}
use Rattle.layout.specs.Verdict.{check_order}

pub record Paper : Type 0 where
  pub order : List ℕ → List Rule  -- 1 to 10, as this paper has them
  pub counted : (d : List ℕ) → Positive (order d)  -- 0 is the number of no refusal
  pub broken : List ℕ → ℕ  -- the lowest type that breaks rule 6
  pub large : List ℕ → ℕ  -- the lowest type that breaks rule 7
  pub variadic : List ℕ → Bool
  pub first : List ℕ → Used  -- what is used before the first argument
  pub address : List ℕ → List ℕ  -- where the bytes of the hidden address stand in the images; none where none is passed
  pub named : List ℕ → ℕ  -- N
  pub types : List ℕ → List ℕ  -- each argument's type number
  pub shapes : List ℕ → List Shape  -- what places each argument
  pub slot : Slot  -- stack places and rooms are multiples of this
  pub registers : ℕ  -- bytes of the register image, which a step is lent
  pub stack_at : ℕ  -- where the stack image begins in the images that placing leaves, the upper image before it

module _ (P : Paper) where
  -- 1 to 10, or 0
  unfoldable pub verdict_of : List ℕ → ℕ
  verdict_of d = first (P.order d)

  -- the refusal of a description under number n: 6 and 7 name a type (request 2026-01)
  unfoldable pub refusal_under : List ℕ → ℕ → Refusal
  refusal_under d n = refusal_by (P.broken d) (P.large d) n

  -- what a call answers of a description under number n: this where n is 0, and else the refusal
  unfoldable pub answer_under : {A : Type 0} → List ℕ → ℕ → A → Result A Refusal
  answer_under d n x = cond (eqb n 0) (Ok x) (Err (refusal_under d n))

  -- A
  unfoldable pub arguments : List ℕ → ℕ
  arguments d = length (P.shapes d)

  unfoldable pub shape_at : List ℕ → ℕ → Shape
  shape_at d p = get_or (P.shapes d) p (record { kinds = []; size = 0; align = 1 })

  -- 255 is no type's number
  unfoldable pub type_at : List ℕ → ℕ → ℕ
  type_at d p = get_or (P.types d) p 255

  -- what the first p arguments take, and what is used before them
  unfoldable pub used_at : List ℕ → ℕ → Used
  used_at d p = after P.slot (P.first d) (take p (P.shapes d))

  -- "The stack image is the rounded area"
  unfoldable pub area_of : List ℕ → ℕ
  area_of d = area P.slot (P.first d) (P.shapes d)

-- document 01's own: bit 0 of byte 6 is set for a variadic function, N, and the arguments in their order
unfoldable pub kcb : Paper
kcb = record {
  order = check_order;
  counted = λ d. (omega arith, (omega arith, (omega arith, (omega arith, (omega arith, (omega arith, (omega arith, (omega arith, (omega arith, (omega arith, tt))))))))));
  broken = first_broken;
  large = λ d. first_large (model_in d) d;
  variadic = λ d. eqb (variadic_in d) 1;
  first = used_first;
  address = λ d. cond (hidden d) (run 0 8) [];
  named = named_in;
  types = λ d. map (argument_at d) (run 0 (arguments_in d));
  shapes = layout_shapes;
  slot = eights;
  registers = 176;
  stack_at = stack_at;
}
