-- The value that a description returns. Of any bytes. Assumes nothing: these are definitions.
use Rattle.std.specs.Prelude.{List, ℕ}
use Rattle.layout.specs.Arguments.{return_place, returned_size}
use Rattle.returning.specs.Image.{length_for}

-- how many bytes of the returned value are put and taken: "a void or MEMORY value has length 0"
unfoldable pub return_length : List ℕ → ℕ
return_length d = length_for (return_place d) (returned_size d)
