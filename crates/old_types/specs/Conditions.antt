-- When a description of the 386 kind is refused, up to 7: document 02, request 2026-12, "4 still refuses bit 1; after 6, 28 a basic code left out, wherever in
-- the table", and document 01's conditions, 7 by these sizes. Assumes nothing: these are definitions.
use Rattle.std.specs.Prelude.{◌≡◌, Bool, ◌&&◌, ◌||◌, List, [], ◌∷◌, ◌++◌, ℕ, ◌<◌, ltb, eqb}
use Rattle.description.specs.Description.{types_in, flags_in, kind_at, a_at, Whole}
use Rattle.form.specs.Search.{first_from}
use Rattle.form.specs.Conditions.{too_short, wrong_mark, wrong_version, wrong_counts, wrong_length, first_broken, wrong_record}
use Rattle.form.specs.Order.{Rule, rule, first}
use Rattle.form.specs.Reading.{refusal_by}
use Rattle.form.specs.declared.Refusal.{Refusal}
use Rattle.types.specs.Decode.{ty_at}
use Rattle.old_types.specs.Basic.{left_code}
use Rattle.old_types.specs.Size.{size_ty}

-- 4: document 01's, and bit 1 of byte 6, which selects ILP32 elsewhere
unfoldable pub wrong_flags : List ℕ → Bool
wrong_flags d = wrong_counts d || ltb 1 (flags_in d)

-- a type whose own record has a code that is left out
unfoldable pub omitted : List ℕ → ℕ → Bool
omitted d k = eqb (kind_at d k) 0 && left_code (a_at d k)

-- the first such type, used or not, or T where there is none
abbrev pub first_omitted : List ℕ → ℕ
first_omitted d = first_from (omitted d) 0 (types_in d)

-- 28: "a basic code left out, wherever in the table"
unfoldable pub left_out : List ℕ → Bool
left_out d = ltb (first_omitted d) (types_in d)

-- 7: "a type over 4,096 bytes"
unfoldable pub large : List ℕ → ℕ → Bool
large d k = ltb 4096 (size_ty (ty_at d k))

abbrev pub first_large : List ℕ → ℕ
first_large d = first_from (large d) 0 (types_in d)

unfoldable pub too_large : List ℕ → Bool
too_large d = ltb (first_large d) (types_in d)

-- 1 to 6
abbrev pub form_order : List ℕ → List Rule
form_order d =
    rule 1 (too_short d) ∷ rule 2 (wrong_mark d) ∷ rule 3 (wrong_version d) ∷ rule 4 (wrong_flags d) ∷ rule 5 (wrong_length d) ∷ rule 6 (wrong_record d) ∷ []

unfoldable pub form_refusal : List ℕ → ℕ
form_refusal d = first (form_order d)

-- "after 6, 28": 1 to 6, 28
abbrev pub kept_order : List ℕ → List Rule
kept_order d = form_order d ++ rule 28 (left_out d) ∷ []

unfoldable pub kept_refusal : List ℕ → ℕ
kept_refusal d = first (kept_order d)

-- 1 to 6, 28, 7
abbrev pub types_order : List ℕ → List Rule
types_order d = kept_order d ++ rule 7 (too_large d) ∷ []

unfoldable pub types_refusal : List ℕ → ℕ
types_refusal d = first (types_order d)

-- the refusal under number n: 6 and 7 name a type (request 2026-01)
unfoldable pub refusal_for : List ℕ → ℕ → Refusal
refusal_for d n = refusal_by (first_broken d) (first_large d) n
