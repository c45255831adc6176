-- When putting and taking are refused: document 02, request 2026-02, "Refusals: after 1..10, 11 for lengths .., then 12 for a returned
-- _Bool byte not 0 or 1, in putting only"; request 2026-11, "27, after 11 in placing and putting"; request 2026-06, "11 covers the new image". Of any bytes. Assumes nothing: these are definitions.
use Rattle.std.specs.Prelude.{Bool, not, ◌&&◌, ◌||◌, List, [], ◌∷◌, ◌++◌, ℕ, eqb, length, get_or}
use Rattle.description.specs.Description.{return_in, model_in}
use Rattle.form.specs.Order.{Rule, rule, first}
use Rattle.layout.specs.Arguments.{is_void, hidden}
use Rattle.layout.specs.Verdict.{check_order}
use Rattle.moving.specs.Address.{wrong_address}
use Rattle.moving.specs.Orders.{broken_byte}
use Rattle.returning.specs.Returned.{return_length}

-- 11: a value that has not exactly n bytes, an image that has not exactly 80, or an upper image that has not exactly 16
unfoldable pub wrong_length : ℕ → ℕ → ℕ → ℕ → Bool
wrong_length n value_length image_length upper_length = not (eqb value_length n) || (not (eqb image_length 80) || not (eqb upper_length 16))

-- 12: the returned type's own record is that of _Bool, and the value's byte is neither 0 nor 1
unfoldable pub wrong_bool : List ℕ → List ℕ → Bool
wrong_bool d v = not (is_void d) && broken_byte d (return_in d) (get_or v 0 0)

-- what is judged behind 1 to 10: 11 in taking, and 11, 27, then 12 in putting
abbrev pub further_taking : List ℕ → List ℕ → List ℕ → ℕ → List Rule
further_taking d image upper value_length = rule 11 (wrong_length (return_length d) value_length (length image) (length upper)) ∷ []

abbrev pub further_putting : List ℕ → ℕ → List ℕ → ℕ → ℕ → List Rule
further_putting d h v image_length upper_length =
    rule 11 (wrong_length (return_length d) (length v) image_length upper_length) ∷ rule 27 (wrong_address (model_in d) (hidden d) h) ∷ rule 12 (wrong_bool d v) ∷ []

abbrev pub take_order : List ℕ → List ℕ → List ℕ → ℕ → List Rule
take_order d image upper value_length = check_order d ++ further_taking d image upper value_length

abbrev pub put_order : List ℕ → ℕ → List ℕ → ℕ → ℕ → List Rule
put_order d h v image_length upper_length = check_order d ++ further_putting d h v image_length upper_length

-- which of them refuses taking so many value bytes from these images; or 0
unfoldable pub take_refusal : List ℕ → List ℕ → List ℕ → ℕ → ℕ
take_refusal d image upper value_length = first (take_order d image upper value_length)

-- and putting this hidden address and this value into images of so many bytes
unfoldable pub put_refusal : List ℕ → ℕ → List ℕ → ℕ → ℕ → ℕ
put_refusal d h v image_length upper_length = first (put_order d h v image_length upper_length)
