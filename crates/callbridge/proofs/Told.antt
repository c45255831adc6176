-- What each call of the C interface answers and leaves, by the paper's numbers. Assumes nothing.
use Rattle.std.specs.Prelude.{Err, None, Ok, Result, Some}
use mathlib.Core.Path.{◌≡◌, refl, sym, ap, ap₂, subst, ◌∙◌}
use mathlib.Core.Bool.{Bool, true, false, cond}
use mathlib.Core.List.{List}
use Prim.Native.Nat.{ℕ, zero, suc, ◌+◌}
use native.Mathlib.Omega.{arith}
use borrow.Author.Tests.{ne_eqb, eqb-true, eqb-false}
use lib.Dec.{ltb, eqb}
use lib.ListN.{length}
use Rattle.description.specs.Description.{arguments_in, kind_at, a_at, count_at, member_start}
use Rattle.form.specs.declared.Refusal.{Refusal}
use Rattle.form.specs.Reading.{refusal_of, refusal_in}
use Rattle.types.specs.Wrong.{refusal_for}
use Rattle.types.proofs.Wrong.{no_type}
use Rattle.questions.specs.Questions.{question_refusal, extent_answer}
use Rattle.questions.specs.Runs.{classes_answer, run_answer}
use Rattle.layout.specs.Verdict.{verdict}
use Rattle.layout.specs.Layout.{layout_answer}
use Rattle.layout.specs.Lists.{list_refusal, list_answer}
use Rattle.layout.specs.StackNeeds.{stack_answer}
use Rattle.uses.specs.Uses.{uses_refusal}
use Rattle.moving.specs.Images.{amd64}
use Rattle.tidying.specs.Answers.{length_refusal, length_answer}
use Rattle.moving.specs.Orders.{place_refusal, gather_refusal}
use Rattle.moving.specs.Answers.{place_answer, gather_answer}
use Rattle.returning.specs.Orders.{put_refusal, take_refusal}
use Rattle.returning.specs.Answers.{put_answer, take_answer}
use Rattle.station.specs.declared.Station.{Station as Attached}
use Rattle.station.specs.Paper.{answer_under, kcb}
use Rattle.station.specs.Outcome.{answer_of, leaves}
use Rattle.station.specs.Attachment.{described, attach_refusal, attach_station, detach_refusal, detach_seat, change_refusal, change_station}
use Rattle.station.proofs.Kcb.{kcb-refusal}
use Rattle.walk.specs.Orders.{offsets_of, open_refusal, step_refusal, show_refusal}
use Rattle.finishing.specs.Rest.{finish_refusal, finish_walk}
use Rattle.walk.specs.declared.showing.Shown.TheVariants.{Registers}
use Rattle.walk.specs.Steps.{opened_if, open_walk, open_answer, step_walk}
use Rattle.places.specs.Shapes.{Shape}
use Rattle.station.specs.Paper.{shape_at}
use Rattle.walk.specs.Offsets.{Source, from_registers, from_stack, read_at}
use Rattle.walk.specs.Show.{one_piece, head_of, part_in, shown_in, shown_answer}
use Rattle.flat.specs.declared.Part.{Part}
use Rattle.flat.specs.declared.Station.{Station}
use Rattle.flat.specs.Parts.{nowhere}
use Rattle.flat.specs.Stations.{station_meant, flat_station, walk_meant, flat_walk}
use Rattle.callbridge.specs.Outcome.{left_in}
use Rattle.callbridge.specs.TypeCalls.{extent_given, classes_given, run_part, run_refusal}
use Rattle.callbridge.specs.LayoutCalls.{layout_given, list_given}
use Rattle.callbridge.specs.StackCalls.{need_given}
use Rattle.callbridge.specs.TidyingCalls.{tidied_given}
use Rattle.callbridge.specs.MovingCalls.{placed_given, gathered_given}
use Rattle.callbridge.specs.ReturningCalls.{put_given, taken_given}
use Rattle.callbridge.specs.StationCalls.{attach_given, detach_given, freed_station, change_given}
use Rattle.callbridge.proofs.Given.{freed-means}
use Rattle.callbridge.specs.WalkCalls.{open_given, step_given, finish_given, shown_part, shown_refusal}
use Rattle.callbridge.specs.Interface.{Tells, TellsPart, ExtentTold, ClassesTold, run_of, RunTold, LayoutTold, ListTold, PlacedTold, GatheredTold, PutTold, TakenTold, AttachTold, DetachTold, ChangeTold, OpenTold, StepTold, FinishTold, ShownTold, NeedTold, TidiedTold}

-- an outcome that is told by a number
abbrev by_number : {A : Type 0} → List ℕ → ℕ → A → Result A Refusal
by_number d zero new = Ok new
by_number d (suc n) new = Err (refusal_for d (suc n))

tells : {A : Type 0} (d : List ℕ) (n : ℕ) (new : A) → Tells (by_number d n new) d n new
tells d zero new = record { refusal = sym (no_type d 0 refl refl); left = λ old. refl }
tells d (suc n) new = record { refusal = refl; left = λ old. refl }

-- the same outcome, as the answers are defined
chosen : {A : Type 0} (d : List ℕ) (n : ℕ) (new : A) (b : Bool) → eqb n 0 ≡ b → cond b (Ok new) (Err (refusal_for d n)) ≡ by_number d n new
chosen d n new true e = rw (eqb-true n 0 e)
chosen d zero new false e = absurd (eqb-false zero 0 e refl)
chosen d (suc n) new false e = refl

pub told : {A : Type 0} (o : Result A Refusal) (d : List ℕ) (n : ℕ) (new : A) → o ≡ cond (eqb n 0) (Ok new) (Err (refusal_for d n)) → Tells o d n new
told o d n new e = rw (e ∙ chosen d n new (eqb n 0) refl) (tells d n new)

through : {A B : Type 0} (f : A → B) (b : Bool) (x y : A) → f (cond b x y) ≡ cond b (f x) (f y)
through f true x y = refl
through f false x y = refl

-- ---- the calls

pub extent_told : ExtentTold
unfolding extent_answer
extent_told d t = told _ d (question_refusal d t) _ (through extent_given (eqb (question_refusal d t) 0) _ _)

pub classes-told : ClassesTold
unfolding classes_answer
classes-told d t = told _ d (question_refusal d t) _ (through classes_given (eqb (question_refusal d t) 0) _ _)

-- a choice by the number 0
by_zero : {A : Type 0} (n : ℕ) (new old : A) → cond (eqb n 0) new old ≡ leaves n new old
by_zero zero new old = refl
by_zero (suc n) new old = rw (ne_eqb (suc n) 0 (λ e. omega (arith, e))) refl

refusal-zero : (d : List ℕ) (n : ℕ) → cond (eqb n 0) (refusal_of 0) (refusal_for d n) ≡ refusal_for d n
refusal-zero d zero = sym (no_type d 0 refl refl)
refusal-zero d (suc n) = rw (ne_eqb (suc n) 0 (λ e. omega (arith, e))) refl

-- a part is an answer: it is told by the same number
told_part : (part : Part) (r : Refusal) (d : List ℕ) (n : ℕ) (new : Part) → part ≡ cond (eqb n 0) new nowhere → r ≡ cond (eqb n 0) (refusal_of 0) (refusal_for d n) → TellsPart part r d n new
told_part part r d n new e f = record { refusal = f ∙ refusal-zero d n; shown = e ∙ by_zero n new nowhere }

run-part : (d : List ℕ) (t : ℕ) (b : Bool) → ltb (kind_at d t) 2 ≡ b
    → (run_part (cond b (Ok None) (Ok (Some (record { 0 = member_start d + a_at d t }, count_at d t)))) ≡ run_of d t)
    × (run_refusal (cond b (Ok None) (Ok (Some (record { 0 = member_start d + a_at d t }, count_at d t)))) ≡ refusal_of 0)
unfolding run_of
run-part d t true e = rw e (refl, refl)
run-part d t false e = rw e (refl, refl)

pub run-told : RunTold
unfolding run_answer
run-told d t =
    let n = question_refusal d t in
    let p = run-part d t (ltb (kind_at d t) 2) refl in
    told_part _ _ d n (run_of d t)
    (through run_part (eqb n 0) _ _ ∙ ap (λ (x : Part). cond (eqb n 0) x nowhere) p.0)
    (through run_refusal (eqb n 0) _ _ ∙ ap (λ (x : Refusal). cond (eqb n 0) x (refusal_for d n)) p.1)

pub layout-told : LayoutTold
unfolding layout_answer
layout-told d = told _ d (verdict d) _ (through (layout_given (arguments_in d)) (eqb (verdict d) 0) _ _)

pub list_told : ListTold
unfolding list_given list_answer
list_told d room = told _ d (list_refusal d room) _ (through (layout_given (arguments_in d)) (eqb (list_refusal d room) 0) _ _)

pub need_told : NeedTold
unfolding stack_answer
need_told d = told _ d (uses_refusal d) _ (through need_given (eqb (uses_refusal d) 0) _ _)

pub tidied-told : TidiedTold
unfolding length_answer
tidied-told d = told _ d (length_refusal d) _ (through tidied_given (eqb (length_refusal d) 0) _ _)

pub placed-told : PlacedTold
unfolding place_answer
placed-told d h vals r y s = told _ d (place_refusal amd64 d h vals r y s) _ (through placed_given (eqb (place_refusal amd64 d h vals r y s) 0) _ _)

pub gathered-told : GatheredTold
unfolding gather_answer
gathered-told d r y s n =
    told _ d (gather_refusal amd64 d n (length r) (length y) (length s)) _ (through gathered_given (eqb (gather_refusal amd64 d n (length r) (length y) (length s)) 0) _ _)

pub open_told : OpenTold
unfolding open_answer opened_if
open_told s seat =
    told _ (described s seat) (open_refusal kcb s seat) _
    (through open_given (eqb (open_refusal kcb s seat) 0) _ _
    ∙ ap (λ (r : Refusal). cond (eqb (open_refusal kcb s seat) 0) (Ok (flat_walk (open_walk kcb s seat))) (Err r)) (kcb-refusal (described s seat) (open_refusal kcb s seat)))

-- what is shown is a part, or none
shown-none : (o : Source) (s : Shape) → shown_refusal (part_in o s) ≡ refusal_of 0
shown-none (from_registers os) s = by (one_piece s.kinds)
  where
    by : (b : Bool) → shown_refusal (cond b (Ok (Some (Registers (record { offset = record { 0 = head_of os }; length = record { 0 = s.size } })))) (Ok None)) ≡ refusal_of 0
    by true = refl
    by false = refl
shown-none (from_stack o) s = refl

pub shown-told : ShownTold
unfolding shown_answer shown_in
shown-told s seat w a =
    let d = described s seat in
    let n = show_refusal kcb s seat w a in
    told_part _ _ d n _
    (through shown_part (eqb n 0) _ _)
    (through shown_refusal (eqb n 0) _ _
    ∙ ap₂ (λ (x y : Refusal). cond (eqb n 0) x y) (shown-none (read_at kcb.slot (offsets_of w) (shape_at kcb d w.position)) (shape_at kcb d w.position)) (kcb-refusal d n))

-- ---- returned values, attach, detach and change, a step

pub put-told : PutTold
unfolding put_answer
put-told d h v n m = through put_given (eqb (put_refusal d h v n m) 0) _ _ ∙ refusal-zero d (put_refusal d h v n m)

pub taken-told : TakenTold
unfolding take_answer
taken-told d i y n = told _ d (take_refusal d i y n) _ (through taken_given (eqb (take_refusal d i y n) 0) _ _)

pub attach-told : AttachTold
unfolding attach_given answer_under
attach-told s seat d =
    let n = attach_refusal kcb (station_meant s) seat d in
    told _ d n _ (ap (λ (r : Refusal). cond (eqb n 0) (Ok (flat_station (attach_station kcb (station_meant s) seat d))) (Err r)) (kcb-refusal d n))

pub detach-told : DetachTold
unfolding detach_given answer_of
detach-told s seat =
    let n = detach_refusal (station_meant s) seat in (
      through refusal_in (eqb n 0) _ _ ∙ zero_of n,
      λ old. through (λ (o : Result Station Refusal). left_in o old) (eqb n 0) _ _ ∙ by_zero n _ old,
    )
  where
    zero_of : (n : ℕ) → cond (eqb n 0) (refusal_of 0) (refusal_of n) ≡ refusal_of n
    zero_of zero = refl
    zero_of (suc n) = rw (ne_eqb (suc n) 0 (λ e. omega (arith, e))) refl

-- the attach of what the detach left
pub change-told : ChangeTold
unfolding change_given freed_station change_refusal change_station
change-told s seat d =
    let z = detach_seat (station_meant s) seat in (
      subst (λ (x : Attached). Tells (attach_given (freed_station s seat) z d) d (attach_refusal kcb x z d) (flat_station (attach_station kcb x z d))) (freed-means s seat)
          (attach-told (freed_station s seat) z d),
      (detach-told s seat).1 s,
    )

pub step-told : StepTold
unfolding step_given answer_under
step-told s seat w a =
    let d = described (station_meant s) seat in
    let n = step_refusal kcb (station_meant s) seat (walk_meant w) a in
    told _ d n _ (ap (λ (r : Refusal). cond (eqb n 0) (Ok (flat_walk (step_walk kcb (station_meant s) seat (walk_meant w) a))) (Err r)) (kcb-refusal d n))

pub finish-told : FinishTold
unfolding finish_given answer_under
finish-told s seat w a =
    let d = described (station_meant s) seat in
    let n = finish_refusal kcb (station_meant s) seat (walk_meant w) a in
    told _ d n _ (ap (λ (r : Refusal). cond (eqb n 0) (Ok (flat_walk (finish_walk kcb (station_meant s) seat (walk_meant w) a))) (Err r)) (kcb-refusal d n))
