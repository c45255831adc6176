-- Demand 1 is met: each line cites a law. Assumes nothing.
use mathlib.Core.Path.{◌≡◌, refl, sym, ap, ◌∙◌}
use mathlib.Core.Logic.{◌≢◌}
use mathlib.Core.Bool.{Bool, true, false, cond, not, ◌&&◌}
use mathlib.Core.List.{List}
use Prim.Native.Nat.{ℕ, ◌<◌}
use borrow.Author.Tests.{ne_eqb, eqb-true, eqb-false}
use lib.ListN.{length, replicate}
use Rattle.description.specs.Description.{types_in, model_in}
use lib.Dec.{eqb}
use Rattle.form.specs.Order.{form_refusal}
use Rattle.form.specs.Reading.{refusal_at, refusal_by, refusal_of}
use Rattle.types.specs.Wrong.{refusal_for}
use Rattle.types.specs.Size.{align_ty}
use Rattle.types.specs.Decode.{ty_at}
use Rattle.types.specs.Large.{types_refusal}
use Rattle.questions.specs.Questions.{question_refusal}
use Rattle.questions.specs.Offsets.{offsets_refusal}
use Rattle.questions.proofs.Offsets.{list_kept}
use Rattle.uses.specs.Uses.{uses_refusal}
use Rattle.uses.proofs.Uses.{accepted-types}
use Rattle.types.specs.Alignments.{Alignment}
use Rattle.places.specs.Shapes.{shape_of}
use Rattle.places.proofs.Guaranteed.{accepted-shaped}
use Rattle.layout.specs.Verdict.{verdict}
use Rattle.layout.specs.Placements.{placement_at}
use Rattle.layout.specs.Lists.{list_refusal, list_count, filled}
use Rattle.layout.proofs.Verdict.{accepted-uses}
use Rattle.layout.proofs.Records.{accepted-bounded}
use Rattle.moving.specs.Images.{amd64}
use Rattle.moving.specs.Orders.{place_refusal, gather_refusal}
use Rattle.moving.specs.Answers.{registers_after, upper_after, stack_after, values_after}
use Rattle.returning.specs.Orders.{put_refusal, take_refusal}
use Rattle.returning.specs.Answers.{image_after, upper_after as returned_upper, value_after}
use Rattle.station.specs.declared.Station.{Station}
use Rattle.station.specs.Paper.{kcb, refusal_under}
use Rattle.station.specs.Attachment.{freed, attach_refusal, detach_refusal, change_refusal, change_station, change_seat}
use Rattle.station.proofs.Attachments.{attach-left, detach-left}
use Rattle.station.proofs.Changes.{change-order}
use Rattle.histories.proofs.Kcb.{condition_c}
use Rattle.walk.specs.Orders.{open_refusal, step_refusal, show_refusal}
use Rattle.walk.proofs.Steps.{step_left}
use Rattle.promises.specs.Meaning.{outcome}
use Rattle.promises.specs.Demand1.{parted_by, A1Verdict, A2Below, A2Questions, A2Layout, A2Returned, A2Walk, A3Frame, A6Bounds, A7Run, Demand1}
use Rattle.promises.proofs.Answering.{answered, decided_number}
use Rattle.promises.proofs.Numbers.{reading_means, extent_means, size-means, align-means, classes-means, run-means, layout-means, list_means, placing-means, gathering_means, putting-means, taking-means, opening-means, shown-means}
use Rattle.promises.proofs.MemberRuns.{run-of, run-empty}

-- ---- A1, A2

a1 : A1Verdict
unfolding verdict refusal_for refusal_by refusal_at
a1 d = answered refl refl

a2_below : A2Below
unfolding form_refusal types_refusal uses_refusal
a2_below = record {
  read_form_lem = λ d. answered refl (reading_means d);
  form_refusal_lem = λ d. answered refl refl;
  types_refusal_lem = λ d. answered refl refl;
  uses_refusal_lem = λ d. answered refl refl;
}

a2_questions : A2Questions
unfolding question_refusal offsets_refusal refusal_for refusal_by refusal_at
a2_questions = record {
  question_refusal_lem = λ d t. answered refl refl;
  type_extent = λ d t. answered refl (extent_means d t);
  type_size_lem = λ d t. answered refl (size-means d t);
  type_align_lem = λ d t. answered refl (align-means d t);
  type_classes = λ d t. answered refl (classes-means d t);
  run_at = λ d t. answered refl (run-means d t);
  member_offsets_lem = λ d t room. answered refl refl;
}

a2_layout : A2Layout
unfolding verdict list_refusal place_refusal gather_refusal
a2_layout = record {
  layout_of_lem = λ d. answered refl (layout-means d);
  lay_out = λ d room. answered refl (list_means d room);
  place_values = λ d h values registers upper stack. answered refl (placing-means d h values registers upper stack);
  gather_values = λ d r y s values. answered refl (gathering_means d r y s values);
}

a2_returned : A2Returned
unfolding put_refusal take_refusal
a2_returned = record { put_returned = λ d h v n m. answered refl (putting-means d h v n m); take_returned = λ d i y n. answered refl (taking-means d i y n) }

a2_walk : A2Walk
unfolding kcb attach_refusal detach_refusal open_refusal step_refusal show_refusal refusal_under refusal_by refusal_of refusal_at
a2_walk = record {
  attach = λ s seat d. answered refl refl;
  detach = λ s seat. answered refl refl;
  change = λ s seat d. answered refl (ap (λ (n : ℕ). outcome n tt) (change-order kcb s seat d));
  open_walk_lem = λ s seat. answered refl (opening-means s seat);
  step = λ s seat w a. answered refl refl;
  show_number_lem = λ s seat w a. answered refl refl;
  shown_at = λ s seat w a. answered refl (shown-means s seat w a);
}

-- ---- A3

count_none : (d : List ℕ) (room : ℕ) → list_refusal d room ≢ 0 → list_count d room ≡ 0
unfolding list_count
count_none d room h = rw (ne_eqb (list_refusal d room) 0 h) refl

-- a refused change, under 11 and under another number
change-refused : (s : Station) (seat d : List ℕ) → change_refusal kcb s seat d ≢ 0
    → (change_station kcb s seat d ≡ cond (parted_by s (change_refusal kcb s seat d)) (freed s) s)
    × (change_seat kcb s seat d ≡ cond (parted_by s (change_refusal kcb s seat d)) (replicate 586 0) seat)
change-refused s seat d n = by (eqb (change_refusal kcb s seat d) 11) refl
  where
    never_parts : {A : Type 0} (b : Bool) (x y : A) → y ≡ cond (b && not true) x y
    never_parts true x y = refl
    never_parts false x y = refl

    parts-so : {A : Type 0} (b : Bool) (x y : A) → cond b x y ≡ cond (b && not false) x y
    parts-so true x y = refl
    parts-so false x y = refl

    by : (b : Bool) → eqb (change_refusal kcb s seat d) 11 ≡ b
        → (change_station kcb s seat d ≡ cond (s.attached && not b) (freed s) s) × (change_seat kcb s seat d ≡ cond (s.attached && not b) (replicate 586 0) seat)
    by true e =
        let t = condition_c.change_eleven s seat d (eqb-true (change_refusal kcb s seat d) 11 e) in
        (t.0 ∙ never_parts s.attached (freed s) s, t.1 ∙ never_parts s.attached (replicate 586 0) seat)
    by false e =
        let t = condition_c.change_leaves s seat d n (eqb-false (change_refusal kcb s seat d) 11 e) in
        (t.0 ∙ parts-so s.attached (freed s) s, t.1 ∙ parts-so s.attached (replicate 586 0) seat)

a3 : A3Frame
unfolding filled registers_after upper_after stack_after values_after image_after returned_upper value_after
a3 = record {
  member_offsets_lem = list_kept;
  lay_out = λ d list h. ap (λ n. filled (placement_at d) n list) (count_none d (length list) (λ e. h (decided_number _ _ (list_means d (length list)) ∙ e)));
  place_values = λ d h values r y s n.
      let e = ne_eqb (place_refusal amd64 d h values (length r) (length y) (length s)) 0 (λ e. n (decided_number _ _ (placing-means d h values (length r) (length y) (length s)) ∙ e)) in
      (rw e refl, rw e refl, rw e refl);
  gather_values = λ d r y s v n.
      rw (ne_eqb (gather_refusal amd64 d (length v) (length r) (length y) (length s)) 0 (λ e. n (decided_number _ _ (gathering_means d r y s (length v)) ∙ e))) refl;
  put_returned = λ d h v i y n.
      let e = ne_eqb (put_refusal d h v (length i) (length y)) 0 (λ e. n (decided_number _ _ (putting-means d h v (length i) (length y)) ∙ e)) in
      (rw e refl, rw e refl);
  take_returned = λ d i y v n. rw (ne_eqb (take_refusal d i y (length v)) 0 (λ e. n (decided_number _ _ (taking-means d i y (length v)) ∙ e))) refl;
  attach = λ s seat d h. (sym (attach-left kcb s seat d h).0, sym (attach-left kcb s seat d h).1);
  detach = λ s seat h. (sym (detach-left s seat h).0, sym (detach-left s seat h).1);
  change = change-refused;
  step = λ s seat w a h. (sym (step_left kcb s seat w a h).0, sym (step_left kcb s seat w a h).1);
}

-- ---- A6, A7

aligned : (d : List ℕ) → verdict d ≡ 0 → (t : ℕ) → t < types_in d → Alignment (align_ty (model_in d) (ty_at d t))
unfolding shape_of
aligned d v t l = (accepted-shaped d (accepted-types d (accepted-uses d v)) t l true).aligned

a6 : A6Bounds
a6 = record { bounded = accepted-bounded; aligned = aligned }

a7 : A7Run
a7 = record {
  group = run-of;
  empty = run-empty;
  number = λ d t. decided_number (question_refusal d t) _ (run-means d t) ∙ sym (decided_number (question_refusal d t) _ (size-means d t));
}

pub demand_1 : Demand1
demand_1 = record {
  verdict = a1;
  below = a2_below;
  questions = a2_questions;
  layout = a2_layout;
  returned = a2_returned;
  walk = a2_walk;
  frame = a3;
  bounds = a6;
  run = a7;
}
