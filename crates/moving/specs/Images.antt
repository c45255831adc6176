-- The images of a call: document 01, "The register image is 176 bytes .. The stack image is the rounded area", and, between the two, the upper image of
-- document 02, request 2026-06, "a second lent image of 128 bytes". Of any bytes. Assumes nothing: these are definitions.
use Rattle.std.specs.Prelude.{Bool, cond, List, [], ◌∷◌, ℕ}
use Rattle.description.specs.Description.{arguments_in, model_in}
use Rattle.form.specs.Order.{rule}
use Rattle.types.specs.Wrong.{refusal_for}
use Rattle.places.specs.Images.{stack_at, addresses}
use Rattle.places.specs.Places.{eights}
use Rattle.layout.specs.Arguments.{shapes, hidden, used_first, used_at, value_start, area_of}
use Rattle.layout.specs.Verdict.{check_order}
use Rattle.layout.specs.Layout.{layout_of}
use Rattle.images.specs.Words.{rdi}
use Rattle.moving.specs.Address.{wrong_address}
use Rattle.moving.specs.Frames.{Frame}
use Rattle.moving.specs.Movers.{Mover}
use Rattle.moving.specs.Orders.{wrong_length}

-- the address of each value byte, "argument after argument"
unfoldable pub addresses_of : List ℕ → List ℕ
addresses_of d = addresses stack_at eights (used_first d) (shapes d)

-- values at these addresses, so many bytes of stack, and "The hidden address .. fills rdi where it is used": by whether it is
abbrev pub framed : Bool → List ℕ → ℕ → Frame
framed used places stack_length = record { places = places; address = cond used rdi []; registers = 176; upper = 128; stack = stack_length }

abbrev pub frame_of : List ℕ → Frame
frame_of d = framed (hidden d) (addresses_of d) (area_of d)

-- placing and gathering of document 01: 27 refuses a hidden address, and the vector count is "the number of vector registers used"
abbrev pub amd64 : Mover
amd64 = record {
  frame = frame_of;
  start = value_start;
  order = check_order;
  wrong_length = λ d. wrong_length (layout_of d);
  address_order = λ d h. rule 27 (wrong_address (model_in d) (hidden d) h) ∷ [];
  count = λ d. (used_at d (arguments_in d)).vector;
  told = refusal_for;
}
