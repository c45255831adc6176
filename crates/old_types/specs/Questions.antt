-- What a question about one type of the 386 kind answers: its size and alignment, or its run of members; there are no classes. Assumes nothing: these are definitions.
use Rattle.std.specs.Prelude.{cond, List, [], ◌∷◌, ◌++◌, ℕ, ◌+◌, ltb, eqb, Err, None, Ok, Option, Result, Some}
use Rattle.description.specs.Description.{kind_at, a_at, count_at, member_start}
use Rattle.form.specs.Order.{Rule, rule, first}
use Rattle.types.specs.declared.Extent.{Extent}
use Rattle.types.specs.Tree.{Ty}
use Rattle.types.specs.Decode.{ty_at}
use Rattle.questions.specs.Questions.{not_below}
use Rattle.old_types.specs.Size.{align_ty, size_ty}
use Rattle.old_types.specs.Conditions.{types_order, refusal_for}
use Rattle.units.specs.declared.Bytes.{Bytes}
use Rattle.form.specs.declared.Refusal.{Refusal}

-- 1 to 6, 28, 7, then "8 for a type number not below T; arrays are answered"
abbrev pub question_order : List ℕ → ℕ → List Rule
question_order d t = types_order d ++ rule 8 (not_below d t) ∷ []

unfoldable pub question_refusal : List ℕ → ℕ → ℕ
question_refusal d t = first (question_order d t)

abbrev pub extent_of : Ty → Extent
extent_of t = record { size = record { 0 = size_ty t }; align = record { 0 = align_ty t } }

unfoldable pub extent_answer : List ℕ → ℕ → Result Extent Refusal
extent_answer d t = cond (eqb (question_refusal d t) 0) (Ok (extent_of (ty_at d t))) (Err (refusal_for d (question_refusal d t)))

-- "answered as the part of the lent description that holds the run, or as the empty part for a refusal or another kind"
unfoldable pub run_answer : List ℕ → ℕ → Result (Option (Bytes × ℕ)) Refusal
run_answer d t =
    cond (eqb (question_refusal d t) 0)
    (cond (ltb (kind_at d t) 2) (Ok None) (Ok (Some (record { 0 = member_start d + a_at d t }, count_at d t))))
    (Err (refusal_for d (question_refusal d t)))
