-- What putting and taking answer, and what they leave in the lent buffers: document 01, "A refusal returns its number only and writes
-- nothing". Assumes nothing: these are definitions.
use Rattle.std.specs.Prelude.{cond, List, ◌++◌, ℕ, eqb, length, take, drop, Err, Ok, Result}
use Rattle.types.specs.Wrong.{refusal_for}
use Rattle.layout.specs.Arguments.{return_place}
use Rattle.returning.specs.Moved.{upper_at}
use Rattle.returning.specs.Image.{return_image, return_value, returned_address}
use Rattle.returning.specs.Orders.{put_refusal, take_refusal}
use Rattle.form.specs.declared.Refusal.{Refusal}

unfoldable pub put_answer : List ℕ → ℕ → List ℕ → ℕ → ℕ → Result (Unit {0}) Refusal
put_answer d h v image_length upper_length =
    cond (eqb (put_refusal d h v image_length upper_length) 0) (Ok tt) (Err (refusal_for d (put_refusal d h v image_length upper_length)))

-- the return image and the upper return image at exit, i and y at entry
unfoldable pub image_after : List ℕ → ℕ → List ℕ → List ℕ → List ℕ → List ℕ
image_after d h v i y = cond (eqb (put_refusal d h v (length i) (length y)) 0) (take upper_at (return_image (return_place d) h v)) i

unfoldable pub upper_after : List ℕ → ℕ → List ℕ → List ℕ → List ℕ → List ℕ
upper_after d h v i y = cond (eqb (put_refusal d h v (length i) (length y)) 0) (drop upper_at (return_image (return_place d) h v)) y

-- both, one behind the other
abbrev pub images_after : List ℕ → ℕ → List ℕ → List ℕ → List ℕ → List ℕ
images_after d h v i y = image_after d h v i y ++ upper_after d h v i y

-- the hidden address, 0 where none is carried
unfoldable pub take_answer : List ℕ → List ℕ → List ℕ → ℕ → Result ℕ Refusal
take_answer d image upper value_length =
    cond (eqb (take_refusal d image upper value_length) 0) (Ok (returned_address (return_place d) (image ++ upper)))
    (Err (refusal_for d (take_refusal d image upper value_length)))

-- the value at exit, v at entry
unfoldable pub value_after : List ℕ → List ℕ → List ℕ → List ℕ → List ℕ
value_after d image upper v = cond (eqb (take_refusal d image upper (length v)) 0) (return_value (return_place d) (length v) (image ++ upper)) v

-- the paper's number of an answer: 0 where it is accepted
abbrev pub put_number : Result (Unit {0}) Refusal → ℕ
put_number (Ok tt) = 0
put_number (Err r) = r.number

abbrev pub take_number : Result ℕ Refusal → ℕ
take_number (Ok h) = 0
take_number (Err r) = r.number

-- the hidden address that taking answers, 0 where it is refused
abbrev pub taken_address : Result ℕ Refusal → ℕ
taken_address (Ok h) = h
taken_address (Err r) = 0
