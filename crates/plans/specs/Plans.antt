-- A plan: numbers of 16 bits that say what is moved where, so that a call that is made often is laid out once. Of any numbers: a plan lies in the host's
-- memory. Assumes nothing: these are definitions.
--   0 bytes of values, 1 bytes of stack, 2 vector registers, 3 the hidden address: 0 none, 2 one that has to be below 2^32, any other one that may be any;
--   4 how many eights, 5 fours, 6 parts, 7 bools; 8 to 15 the returned value (Returned.antt);
--   from 16 on the eights and the fours (source, target), the parts (source, target, bytes), the bools (source).
-- A source is a byte of the values, a target one of the images: register image, upper image and stack image, one behind the other.
use Rattle.std.specs.Prelude.{Bool, true, false, cond, not, ◌&&◌, ◌||◌, List, [], ◌∷◌, ◌++◌, ℕ, zero, suc, ◌+◌, ◌*◌, leb, ltb, eqb, length, get_or, Err, Ok, Result}
use Rattle.addresses.specs.Addresses.{run, gather}
use Rattle.form.specs.Order.{Rule, rule, first}
use Rattle.form.specs.Reading.{refusal_of}
use Rattle.places.specs.Images.{stack_at}
use Rattle.moving.specs.Frames.{Frame, empty_in, own_address}
use Rattle.moving.specs.Images.{framed}
use Rattle.plans.specs.Moves.{Move, move_all, turned_all, all_fit}
use Rattle.form.specs.declared.Refusal.{Refusal}
use Rattle.units.specs.declared.Registers.{Registers}

-- ---- what stands where

abbrev pub values_in : List ℕ → ℕ
values_in plan = get_or plan 0 0

abbrev pub area_in : List ℕ → ℕ
area_in plan = get_or plan 1 0

abbrev pub vectors_in : List ℕ → ℕ
vectors_in plan = get_or plan 2 0

-- a hidden address is passed
abbrev pub used_by : List ℕ → Bool
used_by plan = not (eqb (get_or plan 3 0) 0)

-- the numbers before the lists
abbrev pub head_length : ℕ
head_length = 16

-- where the fours, the parts and the bools begin, and where all end
abbrev pub fours_at : List ℕ → ℕ
fours_at plan = head_length + 2 * get_or plan 4 0

abbrev pub parts_at : List ℕ → ℕ
parts_at plan = fours_at plan + 2 * get_or plan 5 0

abbrev pub bools_at : List ℕ → ℕ
bools_at plan = parts_at plan + 3 * get_or plan 6 0

abbrev pub end_of : List ℕ → ℕ
end_of plan = bools_at plan + get_or plan 7 0

-- n moves of width bytes, and n of as many bytes as they say, from index i on
abbrev pub pairs : List ℕ → ℕ → ℕ → ℕ → List Move
pairs plan width i zero = []
pairs plan width i (suc n) = record { source = get_or plan i 0; target = get_or plan (i + 1) 0; count = width } ∷ pairs plan width (i + 2) n

abbrev pub triples : List ℕ → ℕ → ℕ → List Move
triples plan i zero = []
triples plan i (suc n) = record { source = get_or plan i 0; target = get_or plan (i + 1) 0; count = get_or plan (i + 2) 0 } ∷ triples plan (i + 3) n

-- all moves
unfoldable pub moves_in : List ℕ → List Move
moves_in plan = pairs plan 8 head_length (get_or plan 4 0) ++ (pairs plan 4 (fours_at plan) (get_or plan 5 0) ++ triples plan (parts_at plan) (get_or plan 6 0))

-- where the _Bool arguments begin
unfoldable pub bools_in : List ℕ → List ℕ
bools_in plan = gather plan (run (bools_at plan) (get_or plan 7 0))

abbrev pub all_below : ℕ → List ℕ → Bool
all_below n [] = true
all_below n (k ∷ ks) = ltb k n && all_below n ks

-- the bytes of all images
abbrev pub image_in : List ℕ → ℕ
image_in plan = stack_at + area_in plan

-- the numbers before the lists and all lists are there, and every move and every _Bool lies within the values and the images
unfoldable pub well_formed : List ℕ → Bool
well_formed plan =
    leb head_length (length plan)
    && (leb (end_of plan) (length plan) && (all_fit (values_in plan) (image_in plan) (moves_in plan) && all_below (values_in plan) (bools_in plan)))

-- ---- what is refused: 30 numbers that are no plan, 11 a length, 27 a hidden address that is too wide, 12 a _Bool

abbrev pub wrong_lengths : List ℕ → ℕ → ℕ → Bool
wrong_lengths plan values image = not (eqb values (values_in plan)) || not (eqb image (image_in plan))

-- 2^32 is 4,294,967,296
abbrev pub wide_address : List ℕ → ℕ → Bool
wide_address plan h = eqb (get_or plan 3 0) 2 && leb 4294967296 h

abbrev pub some_broken : List ℕ → List ℕ → Bool
some_broken vals [] = false
some_broken vals (k ∷ ks) = ltb 1 (get_or vals k 0) || some_broken vals ks

abbrev pub gather_order_by : List ℕ → ℕ → ℕ → List Rule
gather_order_by plan values image = rule 30 (not (well_formed plan)) ∷ rule 11 (wrong_lengths plan values image) ∷ []

abbrev pub place_order_by : List ℕ → ℕ → List ℕ → ℕ → List Rule
place_order_by plan h vals image =
    rule 30 (not (well_formed plan)) ∷ rule 11 (wrong_lengths plan (length vals) image) ∷ rule 27 (wide_address plan h) ∷ rule 12 (some_broken vals (bools_in plan)) ∷ []

unfoldable pub gather_refusal_by : List ℕ → ℕ → ℕ → ℕ
gather_refusal_by plan values image = first (gather_order_by plan values image)

unfoldable pub place_refusal_by : List ℕ → ℕ → List ℕ → ℕ → ℕ
place_refusal_by plan h vals image = first (place_order_by plan h vals image)

-- ---- what is moved

-- the images that a plan speaks of: the moves are its own
abbrev pub frame_by : List ℕ → Frame
frame_by plan = framed (used_by plan) [] (area_in plan)

-- zeros, the hidden address where one is passed, and over them each move in turn
unfoldable pub placed_by : List ℕ → ℕ → List ℕ → List ℕ
placed_by plan h vals = move_all (empty_in (frame_by plan) h) vals (moves_in plan)

-- the moves turned, over the values that were there
unfoldable pub gathered_by : List ℕ → List ℕ → List ℕ → List ℕ
gathered_by plan image vals = move_all vals image (turned_all (moves_in plan))

-- ---- what is answered and left: a refusal changes nothing

unfoldable pub place_answer_by : List ℕ → ℕ → List ℕ → ℕ → Result Registers Refusal
place_answer_by plan h vals image =
    cond (eqb (place_refusal_by plan h vals image) 0) (Ok (record { 0 = vectors_in plan })) (Err (refusal_of (place_refusal_by plan h vals image)))

-- the images at exit, image at entry
unfoldable pub image_after_by : List ℕ → ℕ → List ℕ → List ℕ → List ℕ
image_after_by plan h vals image = cond (eqb (place_refusal_by plan h vals (length image)) 0) (placed_by plan h vals) image

unfoldable pub gather_answer_by : List ℕ → List ℕ → ℕ → Result ℕ Refusal
gather_answer_by plan image values =
    cond (eqb (gather_refusal_by plan values (length image)) 0) (Ok (own_address (frame_by plan) image)) (Err (refusal_of (gather_refusal_by plan values (length image))))

-- the values at exit, vals at entry
unfoldable pub values_after_by : List ℕ → List ℕ → List ℕ → List ℕ
values_after_by plan image vals = cond (eqb (gather_refusal_by plan (length vals) (length image)) 0) (gathered_by plan image vals) vals
