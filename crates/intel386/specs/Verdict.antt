-- Condition 10 and the verdict on a description of the 386 kind: document 02, request 2026-12, "after 6, 28". Assumes nothing: these are definitions.
use Rattle.std.specs.Prelude.{Bool, List, [], ◌∷◌, ◌++◌, ℕ, ltb}
use Rattle.form.specs.Order.{Rule, rule, first}
use Rattle.uses.specs.Uses.{wrong_use, narrow_unnamed}
use Rattle.old_types.specs.Conditions.{types_order}
use Rattle.intel386.specs.Arguments.{area_of}

-- 10: "rounded stack area over 16,384"
unfoldable pub wide_area : List ℕ → Bool
wide_area d = ltb 16384 (area_of d)

-- 1 to 6, 28, 7 to 9
abbrev pub uses_order : List ℕ → List Rule
uses_order d = types_order d ++ rule 8 (wrong_use d) ∷ rule 9 (narrow_unnamed d) ∷ []

unfoldable pub uses_refusal : List ℕ → ℕ
uses_refusal d = first (uses_order d)

-- 1 to 6, 28, 7 to 10
abbrev pub check_order : List ℕ → List Rule
check_order d = uses_order d ++ rule 10 (wide_area d) ∷ []

-- which of them refuses the description, or 0
unfoldable pub verdict : List ℕ → ℕ
verdict d = first (check_order d)
