-- Condition 10 and the verdict on a description: document 01, "Refusal numbers", "Order: 1..10 as numbered, each over the whole
-- description". Assumes nothing: these are definitions.
use Rattle.std.specs.Prelude.{Bool, List, [], ◌∷◌, ◌++◌, ℕ, ltb}
use Rattle.form.specs.Order.{Rule, rule, first}
use Rattle.uses.specs.Uses.{uses_order}
use Rattle.layout.specs.Arguments.{area_of}

-- 10: "rounded stack area over 16,384"
unfoldable pub wide_area : List ℕ → Bool
wide_area d = ltb 16384 (area_of d)

-- 1 to 10
abbrev pub check_order : List ℕ → List Rule
check_order d = uses_order d ++ rule 10 (wide_area d) ∷ []

-- which of 1 to 10 refuses the description, or 0
unfoldable pub verdict : List ℕ → ℕ
verdict d = first (check_order d)
