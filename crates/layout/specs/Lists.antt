-- The list of placement records that the caller lends: document 01, "One placement record for each argument goes into the list the
-- caller lends .. Entries past A stay". Assumes nothing: these are definitions.
use Rattle.std.specs.Prelude.{Bool, false, cond, List, [], ◌∷◌, ◌++◌, ℕ, ltb, eqb, Err, Ok, Result}
use Rattle.description.specs.Description.{arguments_in}
use Rattle.form.specs.Order.{Rule, rule, first}
use Rattle.types.specs.Wrong.{refusal_for}
unfoldable pub use Rattle.types.specs.Table.{filled}
use Rattle.layout.specs.Placements.{laying_fresh, laying_at}
use Rattle.layout.specs.declared.placements.Laying.{Laying}
use Rattle.layout.specs.Verdict.{check_order}
use Rattle.layout.specs.Layout.{layout_of}
use Rattle.layout.specs.declared.Layout.{Layout}
use Rattle.form.specs.declared.Refusal.{Refusal}

-- 11: "a placement list under A", of so many records
unfoldable pub short_list : List ℕ → ℕ → Bool
short_list d room = ltb room (arguments_in d)

-- "Layout: 1..10, 11"
abbrev pub layout_order : List ℕ → ℕ → List Rule
layout_order d room = check_order d ++ rule 11 (short_list d room) ∷ []

unfoldable pub list_refusal : List ℕ → ℕ → ℕ
list_refusal d room = first (layout_order d room)

unfoldable pub list_answer : List ℕ → ℕ → Result Layout Refusal
list_answer d room = cond (eqb (list_refusal d room) 0) (Ok (layout_of d)) (Err (refusal_for d (list_refusal d room)))

-- how many records are written: none for a refusal
unfoldable pub list_count : List ℕ → ℕ → ℕ
list_count d room = cond (eqb (list_refusal d room) 0) (arguments_in d) 0

-- what is laid out before record i is written
unfoldable pub list_laying : List ℕ → ℕ → ℕ → Laying
list_laying d room i = cond (eqb (list_refusal d room) 0) (laying_at d i) (laying_fresh false)
