-- What a walk is to hand back, and the images that are placed for it. Assumes nothing: these are definitions.
use Rattle.std.specs.Prelude.{List, [], ◌∷◌, ◌++◌, ℕ, ◌+◌, take, drop, replicate}
use Rattle.addresses.specs.Addresses.{scatter}
use Rattle.places.specs.Shapes.{Shape}
use Rattle.places.specs.Images.{addresses}
use Rattle.station.specs.Paper.{Paper, shape_at, type_at, area_of}
use Rattle.histories.specs.Calls.{Question}

-- "Values come packed, argument after argument, size bytes each, no gaps": argument by argument
abbrev pub cut : List Shape → List ℕ → List (List ℕ)
cut [] values = []
cut (s ∷ ss) values = take s.size values ∷ cut ss (drop s.size values)

-- and packed again
abbrev pub joined : List (List ℕ) → List ℕ
joined [] = []
joined (v ∷ vs) = v ++ joined vs

-- "writes zero everywhere else in both images", and in the upper image. "The hidden address .. fills rdi where it is used and is otherwise not looked at": the
-- images, n bytes of stack, before a value is placed. `address` is the hidden address, as bytes
unfoldable pub blank : Paper → List ℕ → List ℕ → ℕ → List ℕ
blank P d address n = scatter (replicate (P.stack_at + n) 0) (P.address d) address

-- "Placing copies each value byte to its place": the register image, after it the upper image, and then the stack image. That `place_values` leaves these is
-- the promise `placed_for`; the address has eight bytes there, and here any number
unfoldable pub images_for : Paper → List ℕ → List ℕ → List ℕ → List ℕ
images_for P d address values = scatter (blank P d address (area_of P d)) (addresses P.stack_at P.slot (P.first d) (P.shapes d)) values

-- "each unnamed argument's bytes in order"
abbrev pub unnamed : Paper → List ℕ → List ℕ → List (List ℕ)
unnamed P d values = drop (P.named d) (cut (P.shapes d) values)

-- "asked by the right types": each argument's type number, and room for its bytes
abbrev pub zipped : List ℕ → List Shape → List Question
zipped [] ss = []
zipped (t ∷ ts) [] = []
zipped (t ∷ ts) (s ∷ ss) = record { asked = t; room = s.size } ∷ zipped ts ss

unfoldable pub questions : Paper → List ℕ → List Question
questions P d = zipped (P.types d) (P.shapes d)

unfoldable pub question : Paper → List ℕ → ℕ → Question
question P d p = record { asked = type_at P d p; room = (shape_at P d p).size }

abbrev pub unnamed_questions : Paper → List ℕ → List Question
unnamed_questions P d = drop (P.named d) (questions P d)
