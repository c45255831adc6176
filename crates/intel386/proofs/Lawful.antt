-- The paper of the 386 kind is lawful, and so condition C holds of it. Assumes nothing.
use mathlib.Core.Path.{◌≡◌, refl, sym, ap, ◌∙◌}
use mathlib.Core.Logic.{◌≢◌}
use mathlib.Core.List.{List, [], ◌∷◌, map}
use Prim.Native.Nat.{ℕ, suc, ◌%◌, ◌≤◌, ◌<◌}
use native.Mathlib.Omega.{arith}
use lib.ListN.{length, drop}
use Rattle.addresses.specs.Addresses.{run, All}
use Rattle.addresses.proofs.Runs.{length_run}
use Rattle.description.specs.Description.{IsBytes, arguments_in, argument_at, named_in}
use Rattle.form.specs.Order.{rule, Positive, Without}
use Rattle.form.proofs.Order.{first-both, never}
use Rattle.uses.specs.Uses.{wrong_use, narrow_unnamed}
use Rattle.places.specs.Shapes.{Shaped}
use Rattle.places.specs.Places.{slot_size}
use Rattle.places.specs.Statements.{Seated}
use Rattle.station.specs.Paper.{verdict_of, arguments}
use Rattle.walk.specs.Offsets.{Narrow}
use Rattle.histories.specs.Lawful.{Lawful}
use Rattle.histories.specs.ConditionC.{ConditionC}
use Rattle.histories.proofs.Reconnection.{condition_c as lawful-c}
use Rattle.old_types.specs.Conditions.{types_order, types_refusal}
use Rattle.old_types.proofs.Orders.{types-positive, accepted-kept, accepted-counts, short as kept-short}
use Rattle.intel386.specs.Arguments.{shapes}
use Rattle.intel386.specs.Verdict.{wide_area, check_order, verdict}
use Rattle.intel386.specs.Paper.{intel386}
use Rattle.intel386.proofs.Arguments.{all_plain, plain-shaped, plain-seated, plain-narrow, all_so, all_drop, first-slotted, length-shapes}

length-map : (f : ℕ → ℕ) (ns : List ℕ) → length (map f ns) ≡ length ns
length-map f [] = refl
length-map f (n ∷ ns) = ap suc (length-map f ns)

pub check-positive : (d : List ℕ) → Positive (check_order d)
unfolding intel386
check-positive d = intel386.counted d

-- its numbers are 1 to 10 and 28
pub check-without : (d : List ℕ) (n : ℕ) → 10 < n → n ≢ 28 → Without n (check_order d)
check-without d n l h = (
  (λ z. omega arith),
  (
    (λ z. omega arith),
    (
      (λ z. omega arith),
      (
        (λ z. omega arith),
        ((λ z. omega arith), ((λ z. omega arith), ((λ z. h (sym z)), ((λ z. omega arith), ((λ z. omega arith), ((λ z. omega arith), ((λ z. omega arith), tt))))))),
      ),
    ),
  ),
)

pub paper_verdict : (d : List ℕ) → verdict_of intel386 d ≡ verdict d
unfolding verdict_of verdict intel386
paper_verdict d = refl

pub paper_arguments : (d : List ℕ) → arguments intel386 d ≡ arguments_in d
unfolding intel386 arguments
paper_arguments d = length-shapes d (arguments_in d) 0

pub accepted-types : (d : List ℕ) → verdict d ≡ 0 → types_refusal d ≡ 0
unfolding verdict types_refusal
accepted-types d e = (first-both (types_order d) (rule 8 (wrong_use d) ∷ rule 9 (narrow_unnamed d) ∷ rule 10 (wide_area d) ∷ []) (types-positive d) e).0

module _ (d : List ℕ) (e : verdict_of intel386 d ≡ 0) where
  right : types_refusal d ≡ 0
  right = accepted-types d (sym (paper_verdict d) ∙ e)

  shaped : All Shaped (intel386.shapes d)
  unfolding intel386
  shaped = all_so plain-shaped (shapes d) (all_plain d (arguments_in d) 0)

  within : intel386.named d ≤ arguments intel386 d
  unfolding intel386
  within = rw (paper_arguments d) (accepted-counts d (accepted-kept d right)).named

  typed : length (intel386.types d) ≡ arguments intel386 d
  unfolding intel386
  typed = length-map (argument_at d) (run 0 (arguments_in d)) ∙ length_run 0 (arguments_in d) ∙ sym (paper_arguments d)

  seated : All (Seated intel386.stack_at) (intel386.shapes d)
  unfolding intel386
  seated = all_so plain-seated (shapes d) (all_plain d (arguments_in d) 0)

  stepped : All (Seated intel386.registers) (drop (intel386.named d) (intel386.shapes d))
  unfolding intel386
  stepped = all_drop (Seated 0) (named_in d) (shapes d) (all_so plain-seated (shapes d) (all_plain d (arguments_in d) 0))

  narrow : All Narrow (drop (intel386.named d) (intel386.shapes d))
  unfolding intel386
  narrow = all_drop Narrow (named_in d) (shapes d) (all_so plain-narrow (shapes d) (all_plain d (arguments_in d) 0))

  starts : (intel386.first d).stack.0 % slot_size intel386.slot ≡ 0
  unfolding intel386
  starts = first-slotted d

short : (d : List ℕ) → IsBytes d → verdict_of intel386 d ≡ 0 → length d ≤ 586
short d b e = kept-short d (accepted-kept d (right d e)) b

before : intel386.registers ≤ intel386.stack_at
unfolding intel386
before = omega arith

lent : (d : List ℕ) → verdict_of intel386 d ≢ 11
unfolding intel386 verdict_of
lent d = never (check_order d) 11 (λ e. omega arith) (check-without d 11 (omega arith) (λ e. omega arith))

pub intel386-lawful : Lawful intel386
intel386-lawful = record { short = short; shaped = shaped; within = within; typed = typed; seated = seated; stepped = stepped; narrow = narrow; before = before; starts = starts; lent = lent }

-- C5 to C9 of the 386 kind
pub condition_c : ConditionC intel386
condition_c = lawful-c intel386 intel386-lawful
