-- The length of the text of each type of a description, worked out from number 0 upward, at most 4,097. Assumes nothing: these are definitions.
use Rattle.std.specs.Prelude.{cond, List, ℕ, zero, suc, ◌+◌, eqb}
use Rattle.description.specs.Description.{kind_at, a_at, count_at, member_at, argument_at, return_in, variadic_in, named_in}
use Rattle.types.specs.Decode.{ty_at}
use Rattle.layout.specs.Arguments.{is_void}
use Rattle.declaring.specs.Length.{words_length, braces_length, name_length, size_length, type_length, capped}

-- `f` says the length of each lower type; x is the length so far, of n members from place j of the member list on, the first of them called m with i
unfoldable pub members_from : (ℕ → ℕ) → List ℕ → ℕ → ℕ → ℕ → ℕ → ℕ
members_from f d x i j zero = x
members_from f d x i j (suc n) = members_from f d (capped (x + (f (member_at d j) + name_length i))) (suc i) (j + 1) n

unfoldable pub length_from : (ℕ → ℕ) → List ℕ → ℕ → ℕ
length_from f d k =
    cond (eqb (kind_at d k) 0) (words_length (a_at d k))
    (cond (eqb (kind_at d k) 1) (capped (f (a_at d k) + size_length (count_at d k)))
    (members_from f d (braces_length (eqb (kind_at d k) 3)) 0 (a_at d k) (count_at d k)))

-- the length of type k, at most 4,097
unfoldable pub length_at : List ℕ → ℕ → ℕ
length_at d k = capped (type_length (ty_at d k))

-- of n arguments from i on, each behind a comma, x being the length so far
unfoldable pub arguments_from : (ℕ → ℕ) → List ℕ → ℕ → ℕ → ℕ → ℕ
arguments_from f d x i zero = x
arguments_from f d x i (suc n) = arguments_from f d (capped (x + (2 + f (argument_at d i)))) (i + 1) n

-- the whole text: "f ( ) ; " is 8; the first argument has no comma, and "void " or "... " stands where there is none
unfoldable pub whole_from : (ℕ → ℕ) → List ℕ → ℕ
whole_from f d =
    let back = cond (is_void d) 5 (f (return_in d)) in
    cond (eqb (named_in d) 0) (capped (back + 8 + cond (eqb (variadic_in d) 1) 4 5))
    (arguments_from f d (capped (back + 6 + cond (eqb (variadic_in d) 1) 6 0)) 0 (named_in d))
