-- The texts of a description's types, and what the functions that write them ask. Assumes nothing: these are definitions.
use Rattle.std.specs.Prelude.{Bool, true, false, List, ℕ, ◌+◌, ◌≤◌, ◌<◌}
use Rattle.description.specs.Description.{model_in, members_in, member_at}
use Rattle.types.specs.Decode.{tys_from, ty_at}
use Rattle.types.specs.Asks.{Sized}
use Rattle.listing.specs.Characters.{bytes}
use Rattle.grammar.specs.Tokens.{spaced}
use Rattle.declaring.specs.Writing.{words_of, sizes_of, type_tokens, member_tokens}

-- the words of a code; type k without its sizes; its sizes
unfoldable pub words_text : ℕ → List ℕ
words_text c = spaced (words_of c)

unfoldable pub type_text : List ℕ → ℕ → List ℕ
type_text d k = spaced (type_tokens (ty_at d k))

unfoldable pub sizes_text : List ℕ → ℕ → List ℕ
sizes_text d k = spaced (sizes_of (ty_at d k))

-- n members from place j of the member list on, the first of them called m with i
unfoldable pub members_text : List ℕ → ℕ → ℕ → ℕ → List ℕ
members_text d i j n = spaced (member_tokens i (tys_from (ty_at d) d j n))

-- what stands before the members
unfoldable pub group_text : Bool → List ℕ
group_text true = bytes "union { "
group_text false = bytes "struct { "

-- members of type k to be written
pub record AskMembers (d : List ℕ) (k first count : ℕ) : Type 0 where
  pub sized : Sized (model_in d) d k
  pub fits : first + count ≤ members_in d
  pub lower : (j : ℕ) → first ≤ j → j < first + count → member_at d j < k
