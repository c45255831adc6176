-- The meaning of each call's answer: the number that the order of refusals gives, and the values. Assumes nothing.
use Rattle.std.specs.Prelude.{Err, None, Ok, Some}
use mathlib.Core.Path.{◌≡◌, refl, ap}
use mathlib.Core.Bool.{Bool, true, false, cond}
use mathlib.Core.List.{List, [], ◌∷◌, ◌++◌}
use mathlib.Core.Logic.{inl, inr}
use Prim.Native.Nat.{ℕ, ◌+◌}
use native.Mathlib.Omega.{arith}
use lib.Dec.{ltb, eqb}
use lib.ListN.{length, get_or}
use Rattle.description.specs.Description.{arguments_in, kind_at, a_at, count_at, member_start, header_of, model_in}
use Rattle.form.specs.Order.{form_refusal}
use Rattle.form.specs.Conditions.{first_broken}
use Rattle.form.specs.Reading.{refusal_at, refusal_by, reading_of}
use Rattle.types.specs.Wrong.{refusal_for}
use Rattle.types.specs.Size.{size_ty, align_ty}
use Rattle.types.specs.Decode.{ty_at}
use Rattle.types.proofs.Laws.{type-filled}
use Rattle.classes.specs.declared.Class.{Class}
use Rattle.classes.specs.declared.Class.TheVariants.{NoClass}
use Rattle.classes.specs.Classes.{same}
use Rattle.classify.specs.Classify.{classes_of}
use Rattle.classify.specs.Vectors.{Held}
use Rattle.classify.proofs.Wide.{held}
use Rattle.questions.specs.Questions.{question_refusal, extent_of, extent_answer, size_answer, align_answer}
use Rattle.questions.specs.Runs.{four_of, classes_answer, run_answer}
use Rattle.questions.proofs.Questions.{answered-sized}
use Rattle.layout.specs.Arguments.{used_at, return_place}
use Rattle.layout.specs.Verdict.{verdict}
use Rattle.layout.specs.Layout.{layout_of, layout_answer}
use Rattle.layout.specs.Lists.{list_refusal, list_answer}
use Rattle.moving.specs.Images.{frame_of, amd64}
use Rattle.moving.specs.Frames.{own_address}
use Rattle.moving.specs.Orders.{place_refusal, gather_refusal}
use Rattle.moving.specs.Answers.{place_answer, gather_answer}
use Rattle.returning.specs.Image.{returned_address}
use Rattle.returning.specs.Orders.{put_refusal, take_refusal}
use Rattle.returning.specs.Answers.{put_answer, take_answer}
use Rattle.station.specs.declared.Station.{Station}
use Rattle.station.specs.Paper.{kcb, refusal_under}
use Rattle.station.specs.Attachment.{described}
use Rattle.walk.specs.declared.Walk.{Walk}
use Rattle.walk.specs.Offsets.{Source, from_registers, from_stack, read_at}
use Rattle.walk.specs.Orders.{Ask, offsets_of, open_refusal, show_refusal}
use Rattle.walk.specs.Steps.{opened_if, open_walk, open_answer}
use Rattle.places.specs.Shapes.{Shape}
use Rattle.station.specs.Paper.{shape_at}
use Rattle.walk.specs.Show.{one_piece, part_in, shown_in, shown_answer}
use Rattle.promises.specs.Meaning.{accepted, outcome, of_reading, of_extent, of_size, of_align, class_list, of_classes, run, none, of_run, of_layout, of_placing, of_gathering, of_putting, of_taking, of_opening, of_shown, shown_part}
use Rattle.promises.specs.Demand1.{members}
use Rattle.promises.proofs.Answering.{decided_by, decided}

pub reading_means : (d : List ℕ) → of_reading (reading_of d) ≡ outcome (form_refusal d) (header_of d)
unfolding reading_of refusal_at
reading_means d = decided of_reading (Ok (header_of d)) (λ n. Err (refusal_at n (cond (eqb n 6) (first_broken d) 0))) (header_of d) refl (λ n. refl) (form_refusal d)

listed-classes : (cs : List Class) → Held cs → class_list (get_or cs 0 NoClass) (get_or cs 1 NoClass) (get_or cs 2 NoClass) (get_or cs 3 NoClass) ≡ cs
unfolding same
listed-classes [] (inl e) = absurd (omega arith)
listed-classes (a ∷ []) (inl e) = absurd (omega arith)
listed-classes (a ∷ b ∷ []) (inl e) = refl
listed-classes (a ∷ b ∷ c ∷ cs) (inl e) = absurd (omega arith)
listed-classes cs (inr e) = rw e refl

module _ (d : List ℕ) (t : ℕ) where
  pub extent_means : of_extent (extent_answer d t) ≡ outcome (question_refusal d t) (size_ty (model_in d) (ty_at d t), align_ty (model_in d) (ty_at d t))
  unfolding extent_answer refusal_for refusal_by refusal_at
  extent_means =
      decided of_extent (Ok (extent_of (model_in d) (ty_at d t))) (λ n. Err (refusal_for d n)) (size_ty (model_in d) (ty_at d t), align_ty (model_in d) (ty_at d t)) refl (λ n. refl) (question_refusal d t)

  pub size-means : of_size (size_answer (extent_answer d t)) ≡ outcome (question_refusal d t) (size_ty (model_in d) (ty_at d t))
  unfolding extent_answer refusal_for refusal_by refusal_at
  size-means =
      decided (λ x. of_size (size_answer x)) (Ok (extent_of (model_in d) (ty_at d t))) (λ n. Err (refusal_for d n)) (size_ty (model_in d) (ty_at d t)) refl (λ n. refl) (question_refusal d t)

  pub align-means : of_align (align_answer (extent_answer d t)) ≡ outcome (question_refusal d t) (align_ty (model_in d) (ty_at d t))
  unfolding extent_answer refusal_for refusal_by refusal_at
  align-means =
      decided (λ x. of_align (align_answer x)) (Ok (extent_of (model_in d) (ty_at d t))) (λ n. Err (refusal_for d n)) (align_ty (model_in d) (ty_at d t)) refl (λ n. refl) (question_refusal d t)

  -- the four classes that are answered are a list of two or of four
  pub classes-listed : question_refusal d t ≡ 0
      → class_list (get_or (classes_of (model_in d) (ty_at d t)) 0 NoClass) (get_or (classes_of (model_in d) (ty_at d t)) 1 NoClass) (get_or (classes_of (model_in d) (ty_at d t)) 2 NoClass)
      (get_or (classes_of (model_in d) (ty_at d t)) 3 NoClass)
      ≡ classes_of (model_in d) (ty_at d t)
  classes-listed e = listed-classes (classes_of (model_in d) (ty_at d t)) (held (model_in d) (ty_at d t) (type-filled d t (answered-sized d t e)))

  pub classes-means : of_classes (classes_answer d t) ≡ outcome (question_refusal d t) (classes_of (model_in d) (ty_at d t))
  unfolding classes_answer refusal_for refusal_by refusal_at
  classes-means =
      decided_by of_classes (four_of (classes_of (model_in d) (ty_at d t))) (λ n. Err (refusal_for d n)) (classes_of (model_in d) (ty_at d t)) (question_refusal d t) (λ e. ap accepted (classes-listed e)) (λ n. refl)

  run_by : (b : Bool) → of_run (cond b (Ok None) (Ok (Some (record { 0 = member_start d + a_at d t }, count_at d t)))) ≡ accepted (cond b none (run (member_start d + a_at d t) (count_at d t)))
  run_by true = refl
  run_by false = refl

  pub run-means : of_run (run_answer d t) ≡ outcome (question_refusal d t) (members d t)
  unfolding run_answer refusal_for refusal_by refusal_at
  run-means =
      decided of_run (cond (ltb (kind_at d t) 2) (Ok None) (Ok (Some (record { 0 = member_start d + a_at d t }, count_at d t)))) (λ n. Err (refusal_for d n)) (members d t) (run_by (ltb (kind_at d t) 2)) (λ n. refl) (question_refusal d t)

pub layout-means : (d : List ℕ) → of_layout (layout_answer d) ≡ outcome (verdict d) (layout_of d)
unfolding layout_answer refusal_for refusal_by refusal_at
layout-means d = decided of_layout (Ok (layout_of d)) (λ n. Err (refusal_for d n)) (layout_of d) refl (λ n. refl) (verdict d)

pub list_means : (d : List ℕ) (room : ℕ) → of_layout (list_answer d room) ≡ outcome (list_refusal d room) (layout_of d)
unfolding list_answer refusal_for refusal_by refusal_at
list_means d room = decided of_layout (Ok (layout_of d)) (λ n. Err (refusal_for d n)) (layout_of d) refl (λ n. refl) (list_refusal d room)

pub placing-means : (d : List ℕ) (h : ℕ) (values : List ℕ) (r y s : ℕ) → of_placing (place_answer amd64 d h values r y s) ≡ outcome (place_refusal amd64 d h values r y s) (used_at d (arguments_in d)).vector.0
unfolding place_answer refusal_for refusal_by refusal_at
placing-means d h values r y s =
    decided of_placing (Ok (used_at d (arguments_in d)).vector) (λ n. Err (refusal_for d n)) (used_at d (arguments_in d)).vector.0 refl (λ n. refl) (place_refusal amd64 d h values r y s)

pub gathering_means : (d r y s : List ℕ) (values : ℕ)
    → of_gathering (gather_answer amd64 d r y s values) ≡ outcome (gather_refusal amd64 d values (length r) (length y) (length s)) (own_address (frame_of d) (r ++ (y ++ s)))
unfolding gather_answer refusal_for refusal_by refusal_at
gathering_means d r y s values =
    decided of_gathering (Ok (own_address (frame_of d) (r ++ (y ++ s)))) (λ n. Err (refusal_for d n)) (own_address (frame_of d) (r ++ (y ++ s))) refl (λ n. refl) (gather_refusal amd64 d values (length r) (length y) (length s))

pub putting-means : (d : List ℕ) (h : ℕ) (v : List ℕ) (n m : ℕ) → of_putting (put_answer d h v n m) ≡ outcome (put_refusal d h v n m) tt
unfolding put_answer refusal_for refusal_by refusal_at
putting-means d h v n m = decided of_putting (Ok tt) (λ k. Err (refusal_for d k)) tt refl (λ k. refl) (put_refusal d h v n m)

pub taking-means : (d i y : List ℕ) (n : ℕ) → of_taking (take_answer d i y n) ≡ outcome (take_refusal d i y n) (returned_address (return_place d) (i ++ y))
unfolding take_answer refusal_for refusal_by refusal_at
taking-means d i y n =
    decided of_taking (Ok (returned_address (return_place d) (i ++ y))) (λ m. Err (refusal_for d m)) (returned_address (return_place d) (i ++ y)) refl (λ m. refl) (take_refusal d i y n)

pub opening-means : (s : Station) (seat : List ℕ) → of_opening (open_answer kcb s seat) ≡ outcome (open_refusal kcb s seat) (open_walk kcb s seat)
unfolding open_answer opened_if refusal_under refusal_by refusal_at
opening-means s seat = decided of_opening (Ok (open_walk kcb s seat)) (λ n. Err (refusal_under kcb (described s seat) n)) (open_walk kcb s seat) refl (λ n. refl) (open_refusal kcb s seat)

-- where an argument lies is no refusal
part-means : (source : Source) (shape : Shape) → of_shown (part_in source shape) ≡ accepted (shown_part (part_in source shape))
part-means (from_registers os) shape = by (one_piece shape.kinds) refl
  where
    by : (b : Bool) → one_piece shape.kinds ≡ b → of_shown (part_in (from_registers os) shape) ≡ accepted (shown_part (part_in (from_registers os) shape))
    by true e = rw e refl
    by false e = rw e refl
part-means (from_stack o) shape = refl

pub shown-means : (s : Station) (seat : List ℕ) (w : Walk) (a : Ask)
    → of_shown (shown_answer kcb s seat w a) ≡ outcome (show_refusal kcb s seat w a) (shown_part (shown_in kcb (described s seat) w))
unfolding shown_answer shown_in refusal_under refusal_by refusal_at
shown-means s seat w a =
    decided of_shown (shown_in kcb (described s seat) w) (λ n. Err (refusal_under kcb (described s seat) n)) (shown_part (shown_in kcb (described s seat) w)) (part-means (read_at kcb.slot (offsets_of w) (shape_at kcb (described s seat) w.position)) (shape_at kcb (described s seat) w.position)) (λ n. refl) (show_refusal kcb s seat w a)
