-- The buffer behind the writer: 25 leaves it as it was. Assumes nothing: these are definitions.
use Rattle.std.specs.Prelude.{cond, List, ℕ, ltb, length}
use Rattle.listing.specs.Written.{written}
use Rattle.declaring.specs.Named.{written_text}

unfoldable pub text_after : List ℕ → List ℕ → List ℕ
text_after d out = cond (ltb 4096 (length (written_text d))) out (written out 0 (written_text d))
