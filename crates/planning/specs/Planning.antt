-- What planning answers, and what it leaves in the lent list: the refusals 1 to 10, then 11; "A refusal returns its number only and writes nothing". Assumes
-- nothing: these are definitions.
use Rattle.std.specs.Prelude.{cond, List, [], ◌∷◌, ◌++◌, ℕ, ltb, eqb, length, Err, Ok, Result}
use Rattle.addresses.specs.Addresses.{run, scatter}
use Rattle.form.specs.Order.{Rule, rule, first}
use Rattle.types.specs.Wrong.{refusal_for}
use Rattle.layout.specs.Verdict.{check_order}
use Rattle.plans.specs.Cuts.{Head, plan_of}
use Rattle.form.specs.declared.Refusal.{Refusal}

-- the numbers xs, written over a list from entry i on
abbrev pub overwritten : List ℕ → ℕ → List ℕ → List ℕ
overwritten list i xs = scatter list (run i (length xs)) xs

-- what a plan has at 0 to 3, at 4 to 7, and at 8 to 15
abbrev pub call_numbers : Head → List ℕ
call_numbers h = h.values ∷ h.area ∷ h.vectors ∷ h.address ∷ []

abbrev pub count_numbers : ℕ → ℕ → ℕ → ℕ → List ℕ
count_numbers es fs ps bs = es ∷ fs ∷ ps ∷ bs ∷ []

abbrev pub return_numbers : Head → List ℕ
return_numbers h =
    h.returned ∷ h.bool ∷ h.first.source ∷ h.first.target ∷ h.first.count ∷ h.second.source ∷ h.second.target ∷ h.second.count ∷ []

-- what every plan has room in (`all-planned`)
abbrev pub plan_room : ℕ
plan_room = 392

-- 1 to 10, then 11: a list with less room
abbrev pub plan_order : List ℕ → ℕ → List Rule
plan_order d room = check_order d ++ rule 11 (ltb room plan_room) ∷ []

unfoldable pub plan_refusal : List ℕ → ℕ → ℕ
plan_refusal d room = first (plan_order d room)

-- how many numbers the plan has
unfoldable pub plan_answer : List ℕ → ℕ → Result ℕ Refusal
plan_answer d room = cond (eqb (plan_refusal d room) 0) (Ok (length (plan_of d))) (Err (refusal_for d (plan_refusal d room)))

-- the list at exit: the plan, and behind it what stood there
unfoldable pub plan_after : List ℕ → List ℕ → List ℕ
plan_after d list = cond (eqb (plan_refusal d (length list)) 0) (overwritten list 0 (plan_of d)) list
