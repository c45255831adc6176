-- When a hidden address is refused: document 02, request 2026-11, "27, after 11 in placing and putting, a hidden address in use of 2^32 or more". Assumes
-- nothing: these are definitions.
use Rattle.std.specs.Prelude.{Bool, false, ◌&&◌, ℕ, leb}
use Rattle.description.specs.declared.Model.{Model}
use Rattle.description.specs.declared.Model.TheVariants.{Lp64, Ilp32}

-- 27: whether the address h is passed where pointers have 4 bytes, and does not fit into them; 2^32 is 4,294,967,296
unfoldable pub wrong_address : Model → Bool → ℕ → Bool
wrong_address Lp64 used h = false
wrong_address Ilp32 used h = used && leb 4294967296 h
