-- Bytes stored one after the other. Assumes nothing: these are definitions.
use Rattle.std.specs.Prelude.{List, ℕ}
use Rattle.std.proofs.lemmas.List.Edits.{sets}

-- the buffer with a text stored from index `at` on, and all else as it was
unfoldable pub written : List ℕ → ℕ → List ℕ → List ℕ
written buffer at text = sets buffer at text
