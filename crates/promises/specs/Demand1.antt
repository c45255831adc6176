-- Demand 1, "Condition A, input. Reason: descriptions come from strangers": "Each public call accepts all inputs and ends. Bad input gets the
-- numbered refusal of document 01, in the stated order, never otherwise; a refusal changes no station, walk or lent buffer." Each statement is a
-- type, under the label of docs/CONTRACTS.md; proofs/Demand1.antt proves `Demand1`. Assumes nothing: these are definitions.
--
-- One call is an exception from the last half sentence, by request 2026-09: "this is the one call where a refusal writes, and demand 1 names it". What it writes then is
-- the field `change` of `A3Frame`.
--
-- That each call accepts all inputs (A4) and that its contract leaves one outcome (A5) is said of the contracts themselves: `Total` and `Tight` of
-- the crate `tightness`. That it ends is part of what Rattle proves of every function.
use Rattle.std.specs.Prelude.{◌≡◌, ◌↔◌, ◌≢◌, ◌⊎◌, Bool, false, cond, not, ◌&&◌, List, [], ◌++◌, ℕ, ◌+◌, ◌*◌, ◌≤◌, ◌<◌, ltb, eqb, length, get_or, take, drop, replicate}
use Rattle.description.specs.Description.{IsBytes, types_in, kind_at, a_at, count_at, header_of, arguments_in, model_in}
use Rattle.form.specs.Order.{form_refusal}
use Rattle.form.specs.Reading.{refusal_of, reading_of}
use Rattle.types.specs.Wrong.{refusal_for}
use Rattle.types.specs.Size.{size_ty, align_ty}
use Rattle.types.specs.Decode.{ty_at}
use Rattle.types.specs.Large.{types_refusal}
use Rattle.classify.specs.Classify.{classes_of}
use Rattle.questions.specs.Questions.{question_refusal, extent_answer, size_answer, align_answer}
use Rattle.questions.specs.Runs.{classes_answer, run_answer, run_in}
use Rattle.questions.specs.Offsets.{offsets_refusal, offsets_after}
use Rattle.uses.specs.Uses.{uses_refusal}
use Rattle.types.specs.Alignments.{Alignment}
use Rattle.layout.specs.declared.placements.Placement.{Placement}
use Rattle.layout.specs.Arguments.{used_at, return_place}
use Rattle.layout.specs.Verdict.{verdict}
use Rattle.layout.specs.Layout.{layout_of, layout_answer}
use Rattle.layout.specs.Placements.{placement_at}
use Rattle.layout.specs.Lists.{list_answer, list_count, filled}
use Rattle.layout.specs.Statements.{Bounded}
use Rattle.moving.specs.Images.{frame_of, amd64}
use Rattle.moving.specs.Frames.{own_address}
use Rattle.moving.specs.Answers.{place_answer, gather_answer, registers_after, upper_after, stack_after, values_after}
use Rattle.returning.specs.Image.{returned_address}
use Rattle.returning.specs.Answers.{put_answer, take_answer, image_after, upper_after as returned_upper, value_after}
use Rattle.station.specs.declared.Station.{Station}
use Rattle.station.specs.Paper.{kcb, refusal_under}
use Rattle.station.specs.Attachment.{described, attach_refusal, attach_station, attach_seat, detach_refusal, detach_station, detach_seat, change_refusal, change_station, change_seat}
use Rattle.walk.specs.declared.Walk.{Walk}
use Rattle.walk.specs.Orders.{Ask, step_refusal, show_refusal}
use Rattle.walk.specs.Steps.{open_walk, open_answer, step_walk, step_out}
use Rattle.walk.specs.Show.{shown_in, shown_answer}
use Rattle.promises.specs.Meaning.{number_of, of_number, of_refusal, of_reading, of_extent, of_size, of_align, of_classes, Members, run, none, of_run, of_layout, of_placing, of_gathering, of_putting, of_taking, of_opening, of_shown, shown_part, Answered}
use Rattle.promises.specs.Orders.{check_order, form_order, types_order, uses_order, question_order, offsets_order, layout_order, gather_order, place_order, put_order, take_order, attach_order, detach_order, open_order, step_order, show_order, change_order}

-- ---- A1: "Bad input gets the numbered refusal of document 01, in the stated order, never otherwise"

-- what `check` answers of any bytes: n exactly where condition n of the ten holds and no lower one does, and 0 exactly where none holds
abbrev pub A1Verdict : Type 0
A1Verdict = (d : List ℕ) → Answered (of_refusal (refusal_for d (verdict d))) (check_order d) tt

-- ---- A2: the same of each call, in the order that document 01 gives it

-- the calls that look at the form, at sizes, at uses: 1 to 6, 1 to 7, 1 to 9
pub record A2Below : Type 0 where
  pub read_form_lem : (d : List ℕ) → Answered (of_reading (reading_of d)) (form_order d) (header_of d)
  pub form_refusal_lem : (d : List ℕ) → Answered (of_number (form_refusal d)) (form_order d) tt
  pub types_refusal_lem : (d : List ℕ) → Answered (of_number (types_refusal d)) (types_order d) tt
  pub uses_refusal_lem : (d : List ℕ) → Answered (of_number (uses_refusal d)) (uses_order d) tt

-- "A question about one type (size, alignment, classes, run)"; the values are size and alignment of the type written out, its classes, and
-- its run of members
abbrev pub members : List ℕ → ℕ → Members
members d t = cond (ltb (kind_at d t) 2) none (run (11 + 4 * types_in d + a_at d t) (count_at d t))

pub record A2Questions : Type 0 where
  pub question_refusal_lem : (d : List ℕ) (t : ℕ) → Answered (of_number (question_refusal d t)) (question_order d t) tt
  pub type_extent : (d : List ℕ) (t : ℕ) → Answered (of_extent (extent_answer d t)) (question_order d t) (size_ty (model_in d) (ty_at d t), align_ty (model_in d) (ty_at d t))
  pub type_size_lem : (d : List ℕ) (t : ℕ) → Answered (of_size (size_answer (extent_answer d t))) (question_order d t) (size_ty (model_in d) (ty_at d t))
  pub type_align_lem : (d : List ℕ) (t : ℕ) → Answered (of_align (align_answer (extent_answer d t))) (question_order d t) (align_ty (model_in d) (ty_at d t))
  pub type_classes : (d : List ℕ) (t : ℕ) → Answered (of_classes (classes_answer d t)) (question_order d t) (classes_of (model_in d) (ty_at d t))
  pub run_at : (d : List ℕ) (t : ℕ) → Answered (of_run (run_answer d t)) (question_order d t) (members d t)
  pub member_offsets_lem : (d : List ℕ) (t room : ℕ) → Answered (of_refusal (refusal_for d (offsets_refusal d t room))) (offsets_order d t room) tt

-- layout, placing and gathering. The vector count is that of the layout, and the hidden address that of rdi
pub record A2Layout : Type 0 where
  pub layout_of_lem : (d : List ℕ) → Answered (of_layout (layout_answer d)) (check_order d) (layout_of d)
  pub lay_out : (d : List ℕ) (room : ℕ) → Answered (of_layout (list_answer d room)) (layout_order d room) (layout_of d)
  pub place_values : (d : List ℕ) (h : ℕ) (values : List ℕ) (registers_length upper_length stack_length : ℕ)
      → Answered (of_placing (place_answer amd64 d h values registers_length upper_length stack_length)) (place_order d h values registers_length upper_length stack_length)
      (used_at d (arguments_in d)).vector.0
  pub gather_values : (d r y s : List ℕ) (values_length : ℕ)
      → Answered (of_gathering (gather_answer amd64 d r y s values_length)) (gather_order d values_length (length r) (length y) (length s)) (own_address (frame_of d) (r ++ (y ++ s)))

-- returned values (request 2026-02). The hidden address is that of rax
pub record A2Returned : Type 0 where
  pub put_returned : (d : List ℕ) (h : ℕ) (value : List ℕ) (image_length upper_length : ℕ)
      → Answered (of_putting (put_answer d h value image_length upper_length)) (put_order d h value image_length upper_length) tt
  pub take_returned : (d image upper : List ℕ) (value_length : ℕ)
      → Answered (of_taking (take_answer d image upper value_length)) (take_order d image upper value_length) (returned_address (return_place d) (image ++ upper))

-- station and walk. What is lent may be anything: the station and the walk record of any making, the seat and the images of any length
pub record A2Walk : Type 0 where
  pub attach : (s : Station) (seat d : List ℕ) → Answered (of_refusal (refusal_under kcb d (attach_refusal kcb s seat d))) (attach_order s seat d) tt
  pub detach : (s : Station) (seat : List ℕ) → Answered (of_refusal (refusal_of (detach_refusal s seat))) (detach_order s seat) tt
  pub change : (s : Station) (seat d : List ℕ) → Answered (of_refusal (refusal_under kcb d (change_refusal kcb s seat d))) (change_order s seat d) tt
  pub open_walk_lem : (s : Station) (seat : List ℕ) → Answered (of_opening (open_answer kcb s seat)) (open_order s seat) (open_walk kcb s seat)
  pub step : (s : Station) (seat : List ℕ) (w : Walk) (a : Ask) → Answered (of_refusal (refusal_under kcb (described s seat) (step_refusal kcb s seat w a))) (step_order s seat w a) tt
  pub show_number_lem : (s : Station) (seat : List ℕ) (w : Walk) (a : Ask)
      → Answered (of_refusal (refusal_under kcb (described s seat) (show_refusal kcb s seat w a))) (show_order s seat w a) tt
  pub shown_at : (s : Station) (seat : List ℕ) (w : Walk) (a : Ask)
      → Answered (of_shown (shown_answer kcb s seat w a)) (show_order s seat w a) (shown_part (shown_in kcb (described s seat) w))

-- ---- A3: "a refusal changes no station, walk or lent buffer"

-- whether a change that is refused under n writes: where something was attached and n is not 11, its module has left
abbrev pub parted_by : Station → ℕ → Bool
parted_by s n = s.attached && not (eqb n 11)

pub record A3Frame : Type 0 where
  pub member_offsets_lem : (d : List ℕ) (t : ℕ) (list : List ℕ) → offsets_refusal d t (length list) ≢ 0 → offsets_after d t list ≡ list
  pub lay_out : (d : List ℕ) (list : List Placement) → number_of (of_layout (list_answer d (length list))) ≢ 0
      → filled (placement_at d) (list_count d (length list)) list ≡ list
  pub place_values : (d : List ℕ) (h : ℕ) (values r y s : List ℕ) → number_of (of_placing (place_answer amd64 d h values (length r) (length y) (length s))) ≢ 0
      → (registers_after amd64 d h values r y s ≡ r) × (upper_after amd64 d h values r y s ≡ y) × (stack_after amd64 d h values r y s ≡ s)
  pub gather_values : (d r y s v : List ℕ) → number_of (of_gathering (gather_answer amd64 d r y s (length v))) ≢ 0 → values_after amd64 d r y s v ≡ v
  pub put_returned : (d : List ℕ) (h : ℕ) (value image upper : List ℕ) → number_of (of_putting (put_answer d h value (length image) (length upper))) ≢ 0
      → (image_after d h value image upper ≡ image) × (returned_upper d h value image upper ≡ upper)
  pub take_returned : (d image upper value : List ℕ) → number_of (of_taking (take_answer d image upper (length value))) ≢ 0 → value_after d image upper value ≡ value
  pub attach : (s : Station) (seat d : List ℕ) → attach_refusal kcb s seat d ≢ 0 → (attach_station kcb s seat d ≡ s) × (attach_seat kcb s seat d ≡ seat)
  pub detach : (s : Station) (seat : List ℕ) → detach_refusal s seat ≢ 0 → (detach_station s seat ≡ s) × (detach_seat s seat ≡ seat)
  -- the exception, request 2026-09: "the station ends detached, with a zero seat if one was attached", "Refused under 11 it changes nothing"
  pub change : (s : Station) (seat d : List ℕ) → change_refusal kcb s seat d ≢ 0
      → (change_station kcb s seat d ≡ cond (parted_by s (change_refusal kcb s seat d)) (record { attached = false; length = record { 0 = 0 }; number = s.number }) s)
      × (change_seat kcb s seat d ≡ cond (parted_by s (change_refusal kcb s seat d)) (replicate 586 0) seat)
  pub step : (s : Station) (seat : List ℕ) (w : Walk) (a : Ask) → step_refusal kcb s seat w a ≢ 0 → (step_walk kcb s seat w a ≡ w) × (step_out kcb s seat w a ≡ a.out)

-- ---- A6: what an accepted description can ask for is bounded (`Bounded`: 586 bytes, sizes 1 to 4,096, six and eight registers, an area of at most
-- 16,384 that is a multiple of 16), so that no sum overflows; and each alignment is 1, 2, 4, 8, 16 or 32

pub record A6Bounds : Type 0 where
  pub bounded : (d : List ℕ) → IsBytes d → verdict d ≡ 0 → Bounded d
  pub aligned : (d : List ℕ) → verdict d ≡ 0 → (t : ℕ) → t < types_in d → Alignment (align_ty (model_in d) (ty_at d t))

-- ---- A7: "answered as the part of the lent description that holds the run, or as the empty part for a refusal or another kind"

pub record RunOf (d : List ℕ) (t : ℕ) (part : List ℕ) : Type 0 where
  pub bytes : part ≡ take (count_at d t) (drop (11 + 4 * types_in d + a_at d t) d)
  pub long : length part ≡ count_at d t
  pub some : 1 ≤ count_at d t
  pub lower : (i : ℕ) → i < count_at d t → get_or part i 0 < t

pub record A7Run : Type 0 where
  pub group : (d : List ℕ) (t : ℕ) → question_refusal d t ≡ 0 → 2 ≤ kind_at d t → RunOf d t (run_in (run_answer d t) d)
  pub empty : (d : List ℕ) (t : ℕ) → (run_in (run_answer d t) d ≡ []) ↔ ((question_refusal d t ≢ 0) ⊎ (kind_at d t < 2))
  -- "an empty run takes its number from the size question"
  pub number : (d : List ℕ) (t : ℕ) → number_of (of_run (run_answer d t)) ≡ number_of (of_size (size_answer (extent_answer d t)))

pub record Demand1 : Type 0 where
  pub verdict : A1Verdict
  pub below : A2Below
  pub questions : A2Questions
  pub layout : A2Layout
  pub returned : A2Returned
  pub walk : A2Walk
  pub frame : A3Frame
  pub bounds : A6Bounds
  pub run : A7Run
