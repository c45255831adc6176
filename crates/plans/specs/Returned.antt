-- What a plan says of the returned value. Of any numbers. Assumes nothing: these are definitions.
--   8 its bytes, 9 whether it is a _Bool (0 no), 10 to 12 and 13 to 15 two moves (source, target, bytes), of 0 bytes where there is none.
-- A source is a byte of the value, a target one of the return image or, behind its 80 bytes, of the upper return image.
use Rattle.std.specs.Prelude.{Bool, cond, not, ◌&&◌, ◌||◌, List, [], ◌∷◌, ℕ, ◌+◌, leb, ltb, eqb, length, get_or, replicate, Err, Ok, Result}
use Rattle.addresses.specs.Addresses.{gather}
use Rattle.form.specs.Order.{Rule, rule, first}
use Rattle.form.specs.Reading.{refusal_of}
use Rattle.images.specs.Words.{number}
use Rattle.returning.specs.Moved.{upper_at}
use Rattle.returning.specs.Image.{rax, blank_return}
use Rattle.plans.specs.Moves.{Move, move_all, turned_all, all_fit}
use Rattle.plans.specs.Plans.{head_length, used_by, wide_address, triples}
use Rattle.form.specs.declared.Refusal.{Refusal}

abbrev pub returned_in : List ℕ → ℕ
returned_in plan = get_or plan 8 0

abbrev pub returns_bool : List ℕ → Bool
returns_bool plan = not (eqb (get_or plan 9 0) 0)

unfoldable pub return_moves_in : List ℕ → List Move
return_moves_in plan = triples plan 10 2

-- the bytes of both return images
abbrev pub return_room : ℕ
return_room = upper_at + 16

-- the numbers before the lists are there, and both moves lie within the value and the images
unfoldable pub returns_formed : List ℕ → Bool
returns_formed plan = leb head_length (length plan) && all_fit (returned_in plan) return_room (return_moves_in plan)

-- ---- what is refused

abbrev pub wrong_returned : List ℕ → ℕ → ℕ → Bool
wrong_returned plan value image = not (eqb value (returned_in plan)) || not (eqb image return_room)

abbrev pub broken_returned : List ℕ → List ℕ → Bool
broken_returned plan v = returns_bool plan && ltb 1 (get_or v 0 0)

abbrev pub take_order_by : List ℕ → ℕ → ℕ → List Rule
take_order_by plan value image = rule 30 (not (returns_formed plan)) ∷ rule 11 (wrong_returned plan value image) ∷ []

abbrev pub put_order_by : List ℕ → ℕ → List ℕ → ℕ → List Rule
put_order_by plan h v image =
    rule 30 (not (returns_formed plan)) ∷ rule 11 (wrong_returned plan (length v) image) ∷ rule 27 (wide_address plan h) ∷ rule 12 (broken_returned plan v) ∷ []

unfoldable pub take_refusal_by : List ℕ → ℕ → ℕ → ℕ
take_refusal_by plan value image = first (take_order_by plan value image)

unfoldable pub put_refusal_by : List ℕ → ℕ → List ℕ → ℕ → ℕ
put_refusal_by plan h v image = first (put_order_by plan h v image)

-- ---- what is moved, answered and left: a refusal changes nothing

unfoldable pub put_by : List ℕ → ℕ → List ℕ → List ℕ
put_by plan h v = move_all (blank_return (used_by plan) h) v (return_moves_in plan)

unfoldable pub taken_by : List ℕ → List ℕ → ℕ → List ℕ
taken_by plan image n = move_all (replicate n 0) image (turned_all (return_moves_in plan))

unfoldable pub address_by : List ℕ → List ℕ → ℕ
address_by plan image = cond (used_by plan) (number (gather image rax)) 0

unfoldable pub put_answer_by : List ℕ → ℕ → List ℕ → ℕ → Result (Unit {0}) Refusal
put_answer_by plan h v image = cond (eqb (put_refusal_by plan h v image) 0) (Ok tt) (Err (refusal_of (put_refusal_by plan h v image)))

unfoldable pub return_image_by : List ℕ → ℕ → List ℕ → List ℕ → List ℕ
return_image_by plan h v image = cond (eqb (put_refusal_by plan h v (length image)) 0) (put_by plan h v) image

unfoldable pub take_answer_by : List ℕ → List ℕ → ℕ → Result ℕ Refusal
take_answer_by plan image value =
    cond (eqb (take_refusal_by plan value (length image)) 0) (Ok (address_by plan image)) (Err (refusal_of (take_refusal_by plan value (length image))))

unfoldable pub returned_after_by : List ℕ → List ℕ → List ℕ → List ℕ
returned_after_by plan image v = cond (eqb (take_refusal_by plan (length v) (length image)) 0) (taken_by plan image (length v)) v
