-- The parts of the text of a description's named part. Assumes nothing: these are definitions.
use Rattle.std.specs.Prelude.{Bool, true, false, List, [], ℕ, eqb}
use Rattle.description.specs.Description.{variadic_in, named_in}
use Rattle.listing.specs.Characters.{bytes}
use Rattle.grammar.specs.Tokens.{spaced}
use Rattle.declaring.specs.Writing.{result_tokens, further_tokens, parameter_tokens}
use Rattle.tidying.specs.Call.{trees_from, returned_by}
use Rattle.declaring.specs.Named.{result_of}

unfoldable pub result_text : List ℕ → List ℕ
result_text d = spaced (result_tokens (result_of (returned_by d)))

-- behind argument i - 1: n more
unfoldable pub further_text : List ℕ → ℕ → ℕ → List ℕ
further_text d i n = spaced (further_tokens (eqb (variadic_in d) 1) (trees_from d i n))

unfoldable pub parameters_text : List ℕ → List ℕ
parameters_text d = spaced (parameter_tokens (eqb (variadic_in d) 1) (trees_from d 0 (named_in d)))

-- behind the last argument, and where there is none
unfoldable pub end_text : Bool → List ℕ
end_text true = bytes ", ... "
end_text false = []

unfoldable pub empty_text : Bool → List ℕ
empty_text true = bytes "... "
empty_text false = bytes "void "
