-- What the question for the offsets of a type's members answers, and what it leaves in the list that the caller lends. Assumes nothing: these are
-- definitions.
use Rattle.std.specs.Prelude.{Bool, cond, List, [], ◌∷◌, ◌++◌, ℕ, ◌≤◌, ltb, eqb, length, get_or}
use Rattle.description.specs.Description.{types_in, kind_at, count_at, model_in}
use Rattle.form.specs.Order.{Rule, rule, first}
use Rattle.types.specs.Asks.{Sized}
use Rattle.types.specs.Decode.{ty_at}
use Rattle.types.specs.Offsets.{member_offsets, members_of, count}
use Rattle.types.specs.Table.{filled, Sizes}
use Rattle.questions.specs.Questions.{question_order}

-- 11, as for "a placement list under A": a list of fewer offsets than the type has members
unfoldable pub short_offsets : List ℕ → ℕ → ℕ → Bool
short_offsets d t room = ltb room (count (members_of (ty_at d t)))

-- "A question about one type", then 11
abbrev pub offsets_order : List ℕ → ℕ → ℕ → List Rule
offsets_order d t room = question_order d t ++ rule 11 (short_offsets d t room) ∷ []

unfoldable pub offsets_refusal : List ℕ → ℕ → ℕ → ℕ
offsets_refusal d t room = first (offsets_order d t room)

-- where member i of type t lies
unfoldable pub OffsetAt : List ℕ → ℕ → ℕ → ℕ
OffsetAt d t i = get_or (member_offsets (model_in d) (ty_at d t)) i 0

-- how many offsets are written: none for a refusal
unfoldable pub offsets_count : List ℕ → ℕ → ℕ → ℕ
offsets_count d t room = cond (eqb (offsets_refusal d t room) 0) (count (members_of (ty_at d t))) 0

-- the list at exit: entries past the members stay
unfoldable pub offsets_after : List ℕ → ℕ → List ℕ → List ℕ
offsets_after d t list = filled (OffsetAt d t) (offsets_count d t (length list)) list

-- what is asked before the offsets of type k are written into a list of so many: a struct or a union, a table of all sizes, room enough
pub record AskOffsets (d : List ℕ) (k : ℕ) (table : List ℕ) (room : ℕ) : Type 0 where
  pub sized : Sized (model_in d) d k
  pub group : 2 ≤ kind_at d k
  pub tabled : Sizes (model_in d) d (types_in d) table
  pub long : count_at d k ≤ room
