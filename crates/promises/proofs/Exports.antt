-- The calls of a C host do what the demands say. Assumes nothing.
use Rattle.std.specs.Prelude.{Err, None, Ok, Option, Result, Some}
use mathlib.Core.Path.{◌≡◌, refl, sym, ap, ap₂, ◌∙◌, subst}
use mathlib.Core.Logic.{◌≢◌}
use mathlib.Core.Bool.{Bool, true, false, cond}
use mathlib.Core.List.{List, [], ◌∷◌, ◌++◌}
use Prim.Native.Nat.{ℕ, zero, suc, ◌+◌, ◌^◌, ◌<◌}
use native.Mathlib.Omega.{arith}
use borrow.Author.Tests.{eq-eqb, ne_eqb, eqb-true}
use lib.Dec.{ltb, eqb}
use lib.ListN.{length, get_or}
use base.Stored.{coded_list}
use Rattle.tightness.proofs.Laws.{result, bytes, told}
use Rattle.addresses.specs.Addresses.{gather}
use Rattle.description.specs.Description.{named_in, arguments_in, kind_at, a_at, count_at, member_start, IsBytes, model_in}
use Rattle.form.specs.declared.Refusal.{Refusal}
use Rattle.form.specs.Order.{Rule}
use Rattle.form.specs.Reading.{refusal_at, refusal_by, refusal_of, refusal_in}
use Rattle.types.specs.Size.{size_ty, align_ty}
use Rattle.types.specs.Decode.{ty_at}
use Rattle.types.specs.Wrong.{refusal_for}
use Rattle.types.specs.declared.Extent.{Extent}
use Rattle.types.proofs.Table.{filled-below, filled-past}
use Rattle.classes.specs.declared.Class.{Class}
use Rattle.classes.specs.declared.Class.TheVariants.{NoClass}
use Rattle.classify.specs.Classify.{classes_of}
use Rattle.questions.specs.Questions.{question_refusal, extent_answer}
use Rattle.questions.specs.Runs.{classes_answer, run_answer}
use Rattle.questions.specs.Offsets.{offsets_refusal, OffsetAt, offsets_after}
use Rattle.questions.proofs.Offsets.{offsets-answered}
use Rattle.questions.proofs.Runs.{run-filled}
use Rattle.layout.specs.declared.Layout.{Layout as Whole}
use Rattle.layout.specs.Arguments.{hidden, return_place}
use Rattle.layout.specs.Verdict.{verdict}
use Rattle.layout.specs.Layout.{values_of, layout_of, layout_answer}
use Rattle.layout.specs.Placements.{placement_at}
use Rattle.layout.specs.Lists.{list_refusal, list_count, filled}
use Rattle.layout.proofs.Lists.{list_accepted, list_room}
use Rattle.layout.proofs.Records.{values-packed}
use Rattle.moving.specs.Images.{addresses_of, amd64}
use Rattle.moving.specs.Frames.{gathered_in}
use Rattle.moving.proofs.Amd64.{passed-hidden}
use Rattle.moving.specs.Orders.{place_refusal, gather_refusal}
use Rattle.moving.specs.Answers.{place_answer, gather_answer, registers_after, upper_after, stack_after, images_after, values_after}
use Rattle.returning.specs.Image.{return_value, in_memory, trimmed}
use Rattle.returning.specs.Orders.{put_refusal, take_refusal}
use Rattle.returning.specs.Answers.{put_answer, take_answer, image_after, upper_after as returned_upper, images_after as returned_images, value_after}
use Rattle.station.specs.declared.Station.{Station as Attached}
use Rattle.station.specs.Paper.{kcb}
use Rattle.station.specs.Outcome.{leaves}
use Rattle.station.specs.Attachment.{wrong_seat, described, new_station, attach_refusal, attach_station, attach_seat, detach_refusal, detach_station, detach_seat, change_refusal, change_station, change_seat}
use Rattle.station.proofs.Attachments.{detach-right, detach-done as detached}
use Rattle.station.proofs.Changes.{wrong_refuses, idle-refuses, wrong_eleven, change_eleven as eleven-wrong, change-wrong, change-idle, change-parts}
use Rattle.station.proofs.Kcb.{kcb-refusal, kcb-lent}
use Rattle.station.proofs.Orders.{kept, left}
use Rattle.walk.specs.declared.Walk.{Walk as Standing}
use Rattle.walk.specs.Orders.{Ask, asking, wrong_registers, other_type, wrong_stack, open_refusal, step_refusal, show_refusal}
use Rattle.histories.specs.Calls.{Desk, Call, attaching, detaching, changing, opening, stepping, showing, numbering, writing, with_walk, call, calls, answer, answers}
use Rattle.walk.specs.Steps.{open_walk, open_answer, step_walk, step_out}
use Rattle.walk.specs.Show.{shown_in, shown_bytes, shown_answer, show_part}
use Rattle.flat.specs.declared.Classes.{Classes}
use Rattle.flat.specs.declared.Part.{Part}
use Rattle.flat.specs.declared.Placement.{Placement}
use Rattle.flat.specs.declared.Layout.{Layout}
use Rattle.flat.specs.declared.Placed.{Placed}
use Rattle.flat.specs.declared.Gathered.{Gathered}
use Rattle.flat.specs.declared.Station.{Station}
use Rattle.flat.specs.declared.Walk.{Walk}
use Rattle.flat.specs.Meanings.{summary_of}
use Rattle.flat.specs.Records.{placement_of, layout_of as flat_layout}
use Rattle.flat.specs.Parts.{nowhere, of_description}
use Rattle.flat.specs.Stations.{station_meant, flat_station, walk_meant, flat_walk}
use Rattle.flat.proofs.Meant.{class_meant_lem}
use Rattle.flat.proofs.Kept.{layout-means, station-means, walk-means}
use Rattle.callbridge.specs.Outcome.{left_in}
use Rattle.callbridge.specs.TypeCalls.{extent_given, classes_given, run_part, run_refusal}
use Rattle.callbridge.specs.LayoutCalls.{layout_given, list_given, flat_at}
use Rattle.callbridge.specs.MovingCalls.{placed_given, gathered_given}
use Rattle.callbridge.specs.ReturningCalls.{put_given, taken_given}
use Rattle.callbridge.specs.StationCalls.{attach_given, detach_given, freed_station, change_given}
use Rattle.callbridge.proofs.Given.{freed-means}
use Rattle.callbridge.specs.WalkCalls.{open_given, step_given, shown_part as part_shown, shown_refusal}
use Rattle.callbridge.specs.Interface.{Tells, TellsPart, run_of}
use Rattle.callbridge.proofs.Told.{extent_told, classes-told, run-told, layout-told, list_told, placed-told, gathered-told, put-told, taken-told, attach-told, detach-told, change-told, open_told, step-told, shown-told}
use Rattle.callbridge.proofs.Means.{list_means as flat-list-means}
use Rattle.types.specs.contracts.Extent as extent
use Rattle.flat.specs.contracts.Classes as classes
use Rattle.flat.specs.contracts.Part as part
use Rattle.flat.specs.contracts.Placement as placement
use Rattle.flat.specs.contracts.Layout as layout
use Rattle.flat.specs.contracts.Placed as placed
use Rattle.flat.specs.contracts.Gathered as gathered-record
use Rattle.flat.specs.contracts.Station as station
use Rattle.flat.specs.contracts.Walk as walk
use Rattle.callbridge.specs.contracts.cb_version
use Rattle.callbridge.specs.contracts.cb_check
use Rattle.callbridge.specs.contracts.cb_type_extent
use Rattle.callbridge.specs.contracts.cb_type_classes
use Rattle.callbridge.specs.contracts.cb_member_run
use Rattle.callbridge.specs.contracts.cb_member_offsets
use Rattle.callbridge.specs.contracts.cb_layout_of
use Rattle.callbridge.specs.contracts.cb_lay_out
use Rattle.callbridge.specs.contracts.cb_write_listing
use Rattle.callbridge.specs.contracts.cb_place_values
use Rattle.callbridge.specs.contracts.cb_gather_values
use Rattle.callbridge.specs.contracts.cb_put_returned
use Rattle.callbridge.specs.contracts.cb_take_returned
use Rattle.callbridge.specs.contracts.cb_new_station
use Rattle.callbridge.specs.contracts.cb_attach
use Rattle.callbridge.specs.contracts.cb_detach
use Rattle.callbridge.specs.contracts.cb_change
use Rattle.callbridge.specs.contracts.cb_open_walk
use Rattle.callbridge.specs.contracts.cb_step
use Rattle.callbridge.specs.contracts.cb_show
use Rattle.promises.specs.Meaning.{Meaning, accepted, outcome, of_refusal, class_list, none, run, shown_part, Answered}
use Rattle.promises.specs.Orders.{question_order, check_order, layout_order, show_order, attach_order, detach_order, change_order, step_order, put_order}
use Rattle.promises.specs.WrongType.{Names}
use Rattle.promises.specs.Demand1.{members}
use Rattle.promises.specs.Exports.{Fills, GivesPart, extent_read, classes_read, members_read, layout_read, shown_read, bytes_in, Checks, OffsetsFlat, LaysOutFlat, PlacesFlat, GathersFlat, PutsFlat, TakesFlat, AttachesFlat, DetachesFlat, OpensFlat, StepsFlat, ShowsFlat, Exports, GathersBack, NeverTheSame, TakesBack, HostDesk, desk_meant, AttachDone, DetachDone, with_record, OpenDone, StepDone, ShowDone, Done, Played, nothing, then, PlaysHistory, ChangesFlat, ChangeDone}
use Rattle.promises.proofs.Answering.{answered, decided_number}
use Rattle.promises.proofs.Numbers.{extent_means, classes-listed, classes-means, run-means, placing-means, gathering_means, putting-means, taking-means, opening-means, shown-means}
use Rattle.promises.proofs.WrongType.{wrong_type}
use Rattle.promises.proofs.Demand1.{demand_1}
use Rattle.promises.proofs.Demand2.{demand_2}
use Rattle.promises.proofs.MemberOffsets.{same_lie}
use Rattle.promises.proofs.Demand3.{demand_3}
use Rattle.promises.proofs.BringingBack.{bringing_back}
use Rattle.walk.specs.declared.showing.Shown.{Shown}
use Rattle.walk.specs.declared.showing.Shown.TheVariants.{Registers, Stack}

-- ---- a call that is told by a number

number-for : (d : List ℕ) (n : ℕ) → (refusal_for d n).number ≡ n
unfolding refusal_for refusal_by refusal_at
number-for d n = refl

means : {A X : Type 0} (read : A → X) (d : List ℕ) (n : ℕ) (new old : A) (v : X) → (n ≡ 0 → read new ≡ v) → outcome (refusal_for d n).number (read (leaves n new old)) ≡ outcome n v
unfolding refusal_for refusal_by refusal_at
means read d zero new old v e = ap accepted (e refl)
means read d (suc n) new old v e = refl

pub told-number : {A : Type 0} {o : Result A Refusal} {d : List ℕ} {n : ℕ} {new : A} → Tells o d n new → (refusal_in o).number ≡ n
told-number {d = d} {n = n} t = ap (λ (r : Refusal). r.number) t.refusal ∙ number-for d n

-- it fills the lent record
pub fills : {A X : Type 0} (read : A → X) (d : List ℕ) (rules : List Rule) (v : X) (old : A) (o : Result A Refusal) (n : ℕ) (new : A) (m : Meaning X)
    → Tells o d n new → (n ≡ 0 → read new ≡ v) → Answered m rules v → m ≡ outcome n v → Names d (refusal_for d n) → Fills read d rules v old (refusal_in o) (left_in o old)
fills {A = A} read d rules v old o n new m t e a f h = record {
  answered = subst (λ x. Answered x rules v) (f ∙ sym (ap₂ (λ (r : Refusal) (x : A). outcome r.number (read x)) t.refusal (t.left old) ∙ means read d n new old v e)) a;
  kept = λ p. t.left old ∙ left n new old (λ z. p (told-number t ∙ z));
  names = subst (Names d) (sym t.refusal) h;
}

-- it answers a part
gives_part : {X : Type 0} (read : Part → X) (d : List ℕ) (rules : List Rule) (v : X) (p : Part) (r : Refusal) (n : ℕ) (new : Part) (m : Meaning X)
    → TellsPart p r d n new → read new ≡ v → Answered m rules v → m ≡ outcome n v → Names d (refusal_for d n) → GivesPart read d rules v r p
gives_part read d rules v p r n new m t e a f h = record {
  answered = subst (λ x. Answered x rules v) (f ∙ sym (ap₂ (λ (q : Refusal) (x : Part). outcome q.number (read x)) t.refusal t.shown ∙ means read d n new nowhere v (λ z. e))) a;
  empty = λ q. t.shown ∙ left n new nowhere (λ z. q (ap (λ (x : Refusal). x.number) t.refusal ∙ number-for d n ∙ z));
  names = subst (Names d) (sym t.refusal) h;
}

-- ---- questions and the layout

extent_fills : (d : List ℕ) (t : ℕ) (old : Extent)
    → Fills extent_read d (question_order d t) (size_ty (model_in d) (ty_at d t), align_ty (model_in d) (ty_at d t)) old (refusal_in (extent_given (extent_answer d t))) (left_in (extent_given (extent_answer d t)) old)
extent_fills d t old =
    fills extent_read d _ _ old _ (question_refusal d t) _ _ (extent_told d t) (λ z. refl) (demand_1.questions.type_extent d t) (extent_means d t) (wrong_type.question d t)

classes-fill : (d : List ℕ) (t : ℕ) (old : Classes)
    → Fills classes_read d (question_order d t) (classes_of (model_in d) (ty_at d t)) old (refusal_in (classes_given (classes_answer d t))) (left_in (classes_given (classes_answer d t)) old)
classes-fill d t old =
    let cs : List Class = classes_of (model_in d) (ty_at d t) in
    fills classes_read d _ _ old _ (question_refusal d t) _ _ (classes-told d t)
    (λ z. (λ j. class_list (class_meant_lem (get_or cs 0 NoClass) j) (class_meant_lem (get_or cs 1 NoClass) j) (class_meant_lem (get_or cs 2 NoClass) j) (class_meant_lem (get_or cs 3 NoClass) j)) ∙ classes-listed d t z)
    (demand_1.questions.type_classes d t) (classes-means d t) (wrong_type.question d t)

run-read : (d : List ℕ) (t : ℕ) → members_read (run_of d t) ≡ members d t
unfolding run_of
run-read d t = by (ltb (kind_at d t) 2)
  where
    by : (b : Bool) → members_read (cond b nowhere (of_description (record { 0 = member_start d + a_at d t }) (record { 0 = count_at d t }))) ≡ cond b none (run (member_start d + a_at d t) (count_at d t))
    by true = refl
    by false = refl

run-gives : (d : List ℕ) (t : ℕ) → GivesPart members_read d (question_order d t) (members d t) (run_refusal (run_answer d t)) (run_part (run_answer d t))
run-gives d t = gives_part members_read d _ _ _ _ (question_refusal d t) (run_of d t) _ (run-told d t) (run-read d t) (demand_1.questions.run_at d t) (run-means d t) (wrong_type.question d t)

offsets-flat : (d : List ℕ) (t : ℕ) (list : List ℕ) → OffsetsFlat d t list (refusal_for d (offsets_refusal d t (length list))) (offsets_after d t list)
offsets-flat d t list =
    let n = offsets_refusal d t (length list) in
    let zero_is : (refusal_for d n).number ≡ 0 → n ≡ 0 = λ e. sym (number-for d n) ∙ e in
    record {
      answered = demand_1.questions.member_offsets_lem d t (length list);
      names = wrong_type.member_offsets_lem d t (length list);
      refused = λ h. demand_1.frame.member_offsets_lem d t list (λ z. h (number-for d n ∙ z));
      lie = λ e two.
          let q = offsets-answered d t (length list) (zero_is e) in
          same_lie d t (OffsetAt d t) (λ i. get_or (offsets_after d t list) i 0) (run-filled d t q two) (λ i l. demand_2.offsets.below d t list i 0 (zero_is e) two l)
          (demand_2.offsets.lie d t q two);
      past = λ e two i x l. demand_2.offsets.past d t list i x (zero_is e) two l;
      other = demand_2.offsets.other d t list;
    }

-- the layout, and how many arguments there are
layout-answered : (d : List ℕ)
    → Answered {X = Whole × ℕ} (outcome {X = Whole × ℕ} (verdict d) (summary_of (layout_of d), arguments_in d)) (check_order d) (summary_of (layout_of d), arguments_in d)
unfolding verdict
layout-answered d = answered refl refl

list_answered : (d : List ℕ) (room : ℕ)
    → Answered {X = Whole × ℕ} (outcome {X = Whole × ℕ} (list_refusal d room) (summary_of (layout_of d), arguments_in d)) (layout_order d room) (summary_of (layout_of d), arguments_in d)
unfolding list_refusal
list_answered d room = answered refl refl

layout-read : (d : List ℕ) → verdict d ≡ 0 → layout_read (flat_layout (layout_of d) (arguments_in d)) ≡ (summary_of (layout_of d), arguments_in d)
unfolding flat_layout
layout-read d v j = (layout-means d v (arguments_in d) j, arguments_in d)

layout-fills : (d : List ℕ) (old : Layout)
    → Fills layout_read d (check_order d) (summary_of (layout_of d), arguments_in d) old (refusal_in (layout_given (arguments_in d) (layout_answer d))) (left_in (layout_given (arguments_in d) (layout_answer d)) old)
layout-fills d old = fills layout_read d _ _ old _ (verdict d) _ _ (layout-told d) (layout-read d) (layout-answered d) refl (wrong_type.check d)

count_none : (d : List ℕ) (room : ℕ) → list_refusal d room ≢ 0 → list_count d room ≡ 0
unfolding list_count
count_none d room h = rw (ne_eqb (list_refusal d room) 0 h) refl

count-all : (d : List ℕ) (room : ℕ) → list_refusal d room ≡ 0 → list_count d room ≡ arguments_in d
unfolding list_count
count-all d room e = rw (eq-eqb (list_refusal d room) 0 e) refl

none_filled : {A : Type 0} (f : ℕ → A) (n : ℕ) (list : List A) → n ≡ 0 → filled f n list ≡ list
unfolding filled
none_filled f n list e = rw e refl

-- the flat record of argument i, in a list that is filled
flat_row : (d : List ℕ) (list : List Placement) → list_refusal d (length list) ≡ 0 → (i : ℕ) (x : Placement) → i < arguments_in d
    → get_or (filled (flat_at d) (list_count d (length list)) list) i x ≡ flat_at d i
flat_row d list z i x l =
    ap (λ (n : ℕ). get_or (filled (flat_at d) n list) i x) (count-all d (length list) z) ∙ filled-below (flat_at d) (arguments_in d) list i x (list_room d (length list) z) l

flat_value : (d : List ℕ) (i : ℕ) → (flat_at d i).value.0 ≡ (placement_at d i).at.0
unfolding flat_at placement_of
flat_value d i = refl

flat_size : (d : List ℕ) (i : ℕ) → (flat_at d i).size.0 ≡ (placement_at d i).size.0
unfolding flat_at placement_of
flat_size d i = refl

flat_mark : (d : List ℕ) (i : ℕ) → (flat_at d i).named ≡ cond (ltb i (named_in d)) 1 0
unfolding flat_at placement_of
flat_mark d i = ap (λ (b : Bool). cond b 1 0) ((values-packed d).marks i)

flat_total : (d : List ℕ) (old : Layout) (room : ℕ) → list_refusal d room ≡ 0 → (left_in (list_given d room) old).values.0 ≡ values_of d
unfolding flat_layout layout_of
flat_total d old room z =
    ap (λ (l : Layout). l.values.0) ((list_told d room).left old ∙ kept (list_refusal d room) (flat_layout (layout_of d) (arguments_in d)) old z)

-- request 2026-07, of such a list
module _ (d : List ℕ) (list : List Placement) (z : list_refusal d (length list) ≡ 0) where
  abbrev rows : List Placement
  rows = filled (flat_at d) (list_count d (length list)) list

  row_value : (i : ℕ) (x : Placement) → i < arguments_in d → (get_or rows i x).value.0 ≡ (placement_at d i).at.0
  row_value i x l = ap (λ (p : Placement). p.value.0) (flat_row d list z i x l) ∙ flat_value d i

  row_size : (i : ℕ) (x : Placement) → i < arguments_in d → (get_or rows i x).size.0 ≡ (placement_at d i).size.0
  row_size i x l = ap (λ (p : Placement). p.size.0) (flat_row d list z i x l) ∙ flat_size d i

  rows_start : 0 < arguments_in d → (x : Placement) → (get_or rows 0 x).value.0 ≡ 0
  rows_start l x = row_value 0 x l ∙ (values-packed d).first

  rows-follow : (i : ℕ) → i + 1 < arguments_in d → (x : Placement) → (get_or rows (i + 1) x).value.0 ≡ (get_or rows i x).value.0 + (get_or rows i x).size.0
  rows-follow i l x = omega (arith, row_value (i + 1) x l, (values-packed d).next i, row_value i x (omega arith), row_size i x (omega arith))

  rows_end : (i : ℕ) → i + 1 ≡ arguments_in d → (x : Placement) → (get_or rows i x).value.0 + (get_or rows i x).size.0 ≡ values_of d
  rows_end i e x = omega (arith, (values-packed d).last i e, row_value i x (omega arith), row_size i x (omega arith))

  rows-marked : (i : ℕ) → i < arguments_in d → (x : Placement) → (get_or rows i x).named ≡ cond (ltb i (named_in d)) 1 0
  rows-marked i l x = ap (λ (p : Placement). p.named) (flat_row d list z i x l) ∙ flat_mark d i

lays_out_flat : (d : List ℕ) (old : Layout) (list : List Placement)
    → LaysOutFlat d old list (refusal_in (list_given d (length list))) (left_in (list_given d (length list)) old) (filled (flat_at d) (list_count d (length list)) list)
lays_out_flat d old list =
    let t = list_told d (length list) in
    record {
      summary = fills layout_read d _ _ old _ (list_refusal d (length list)) _ _ t (λ z. layout-read d (list_accepted d (length list) z)) (list_answered d (length list)) refl (wrong_type.lay_out d (length list));
      refused = λ h. none_filled (flat_at d) (list_count d (length list)) list (count_none d (length list) (λ z. h (told-number t ∙ z)));
      below = λ e i x l. flat-list-means d list i x (sym (told-number t) ∙ e) l;
      past = λ e i x l. ap (λ (n : ℕ). get_or (filled (flat_at d) n list) i x) (count-all d (length list) (sym (told-number t) ∙ e)) ∙ filled-past (flat_at d) (arguments_in d) list i x l;
      starts = λ e. rows_start d list (sym (told-number t) ∙ e);
      follows = λ e. rows-follow d list (sym (told-number t) ∙ e);
      ends = λ e i n x. rows_end d list (sym (told-number t) ∙ e) i n x ∙ sym (flat_total d old (length list) (sym (told-number t) ∙ e));
      marks = λ e. rows-marked d list (sym (told-number t) ∙ e);
    }

-- ---- moving

places-flat : (d : List ℕ) (h : ℕ) (values q y s : List ℕ) (old : Placed)
    → PlacesFlat d h values q y s old (refusal_in (placed_given (place_answer amd64 d h values (length q) (length y) (length s))))
    (left_in (placed_given (place_answer amd64 d h values (length q) (length y) (length s))) old)
    (registers_after amd64 d h values q y s) (upper_after amd64 d h values q y s) (stack_after amd64 d h values q y s)
places-flat d h values q y s old =
    let t = placed-told d h values (length q) (length y) (length s) in
    let m = placing-means d h values (length q) (length y) (length s) in
    record {
      count = fills (λ (p : Placed). p.vector.0) d _ _ old _ (place_refusal amd64 d h values (length q) (length y) (length s)) _ _ t (λ z. refl) (demand_1.layout.place_values d h values (length q) (length y) (length s)) m (wrong_type.place_values d h values (length q) (length y) (length s));
      refused = λ n. demand_1.frame.place_values d h values q y s (λ z. n (told-number t ∙ sym (decided_number _ _ m) ∙ z));
      placed = λ z. (demand_2.moving.places_all d h values q y s (sym (told-number t) ∙ z) (images_after amd64 d h values q y s)).0 refl;
    }

gathers_all : (d r y s v : List ℕ) → gather_refusal amd64 d (length v) (length r) (length y) (length s) ≡ 0 → values_after amd64 d r y s v ≡ gather (r ++ (y ++ s)) (addresses_of d)
unfolding values_after gathered_in
gathers_all d r y s v e = rw (eq-eqb (gather_refusal amd64 d (length v) (length r) (length y) (length s)) 0 e) refl

gathers_flat : (d q y s v : List ℕ) (old : Gathered)
    → GathersFlat d q y s v old (refusal_in (gathered_given (gather_answer amd64 d q y s (length v)))) (left_in (gathered_given (gather_answer amd64 d q y s (length v))) old) (values_after amd64 d q y s v)
gathers_flat d q y s v old =
    let t = gathered-told d q y s (length v) in
    let m = gathering_means d q y s (length v) in
    record {
      address = fills (λ (g : Gathered). g.hidden) d _ _ old _ (gather_refusal amd64 d (length v) (length q) (length y) (length s)) _ _ t (λ z. refl) (demand_1.layout.gather_values d q y s (length v)) m (wrong_type.gather_values d (length v) (length q) (length y) (length s));
      refused = λ n. demand_1.frame.gather_values d q y s v (λ z. n (told-number t ∙ sym (decided_number _ _ m) ∙ z));
      gathered = λ z. gathers_all d q y s v (sym (told-number t) ∙ z);
    }

-- ---- returned values

pub refusal-told : (d : List ℕ) (n : ℕ) (r : Refusal) → r ≡ refusal_for d n → r.number ≡ n
refusal-told d n r e = ap (λ (x : Refusal). x.number) e ∙ number-for d n

-- an answer that is a refusal alone
pub answered-by : (d : List ℕ) (n : ℕ) (r : Refusal) (rules : List Rule) → r ≡ refusal_for d n → Answered {X = Unit {0}} (outcome n tt) rules tt → Answered (of_refusal r) rules tt
answered-by d n r rules e a = subst (λ (k : ℕ). Answered {X = Unit {0}} (outcome k tt) rules tt) (sym (refusal-told d n r e)) a

puts-flat : (d : List ℕ) (h : ℕ) (v i y : List ℕ) → PutsFlat d h v i y (put_given (put_answer d h v (length i) (length y))) (image_after d h v i y) (returned_upper d h v i y)
puts-flat d h v i y =
    let n = put_refusal d h v (length i) (length y) in
    let t = put-told d h v (length i) (length y) in
    let m = putting-means d h v (length i) (length y) in
    record {
      answered = answered-by d n _ (put_order d h v (length i) (length y)) t (subst (λ x. Answered x (put_order d h v (length i) (length y)) tt) m (demand_1.returned.put_returned d h v (length i) (length y)));
      names = subst (Names d) (sym t) (wrong_type.put_returned d h v (length i) (length y));
      refused = λ p. demand_1.frame.put_returned d h v i y (λ z. p (refusal-told d n _ t ∙ sym (decided_number _ _ m) ∙ z));
      put = λ z. (bringing_back.puts_all d h v i y (sym (refusal-told d n _ t) ∙ z) (returned_images d h v i y)).0 refl;
    }

takes_all : (d i y v : List ℕ) → take_refusal d i y (length v) ≡ 0 → value_after d i y v ≡ return_value (return_place d) (length v) (i ++ y)
unfolding value_after
takes_all d i y v e = rw (eq-eqb (take_refusal d i y (length v)) 0 e) refl

takes-flat : (d i y v : List ℕ) (old : Gathered)
    → TakesFlat d i y v old (refusal_in (taken_given (take_answer d i y (length v)))) (left_in (taken_given (take_answer d i y (length v))) old) (value_after d i y v)
takes-flat d i y v old =
    let t = taken-told d i y (length v) in
    let m = taking-means d i y (length v) in
    record {
      address = fills (λ (g : Gathered). g.hidden) d _ _ old _ (take_refusal d i y (length v)) _ _ t (λ z. refl) (demand_1.returned.take_returned d i y (length v)) m (wrong_type.take_returned d i y (length v));
      refused = λ n. demand_1.frame.take_returned d i y v (λ z. n (told-number t ∙ sym (decided_number _ _ m) ∙ z));
      taken = λ z. takes_all d i y v (sym (told-number t) ∙ z);
    }

-- ---- station

-- what the record means at exit, where the call is accepted
station-after : {o : Result Station Refusal} {d : List ℕ} {n : ℕ} {s : Attached} → Tells o d n (flat_station s) → (old : Station) → n ≡ 0 → station_meant (left_in o old) ≡ s
station-after {n = n} {s = s} t old z = ap station_meant (t.left old ∙ kept n (flat_station s) old z) ∙ station-means s

attaches-flat : (old : Station) (seat d : List ℕ) → AttachesFlat old seat d (refusal_in (attach_given old seat d)) (left_in (attach_given old seat d) old) (attach_seat kcb (station_meant old) seat d)
unfolding station_meant
attaches-flat old seat d =
    let s = station_meant old in
    let n = attach_refusal kcb s seat d in
    let t = attach-told old seat d in
    record {
      answered = subst (λ r. Answered (of_refusal r) (attach_order s seat d) tt) (kcb-refusal d n ∙ sym t.refusal) (demand_1.walk.attach s seat d);
      names = subst (Names d) (kcb-refusal d n ∙ sym t.refusal) (wrong_type.attach s seat d);
      refused = λ p. (t.left old ∙ left n _ old (λ z. p (told-number t ∙ z)), (demand_1.frame.attach s seat d (λ z. p (told-number t ∙ z))).1);
      attached = λ z. (station-after t old (sym (told-number t) ∙ z) ∙ (demand_3.starts.attached s seat d (sym (told-number t) ∙ z)).0, (demand_3.starts.attached s seat d (sym (told-number t) ∙ z)).1);
    }

number-of : (n : ℕ) → (refusal_of n).number ≡ n
unfolding refusal_of refusal_at
number-of n = refl

type-of : (n : ℕ) → (refusal_of n).ty ≡ 0
unfolding refusal_of refusal_at
type-of n = refl

detaches-flat : (old : Station) (seat : List ℕ) → DetachesFlat old seat (refusal_in (detach_given old seat)) (left_in (detach_given old seat) old) (detach_seat (station_meant old) seat)
unfolding station_meant
detaches-flat old seat =
    let s = station_meant old in
    let n = detach_refusal s seat in
    let t = detach-told old seat in
    let told-as : (refusal_in (detach_given old seat)).number ≡ n = ap (λ (r : Refusal). r.number) t.0 ∙ number-of n in
    record {
      answered = subst (λ r. Answered (of_refusal r) (detach_order s seat) tt) (sym t.0) (demand_1.walk.detach s seat);
      names = ap (λ (r : Refusal). r.ty) t.0 ∙ type-of n;
      refused = λ p. (t.1 old ∙ left n _ old (λ z. p (told-as ∙ z)), (demand_1.frame.detach s seat (λ z. p (told-as ∙ z))).1);
      detached = λ z.
          let e = sym told-as ∙ z in
          (ap station_meant (t.1 old ∙ kept n _ old e) ∙ station-means (detach_station s seat) ∙ (demand_3.detaches s seat e).0, (demand_3.detaches s seat e).1);
    }

-- what a refused change leaves of the record: all where the detach was refused, and else the record of a freed station
change-kept : (old : Station) (seat d : List ℕ) → change_refusal kcb (station_meant old) seat d ≢ 0 → detach_refusal (station_meant old) seat ≢ 0 → left_in (change_given old seat d) (freed_station old seat) ≡ old
change-kept old seat d n h =
    let t = change-told old seat d in
    t.0.left (freed_station old seat) ∙ left (change_refusal kcb (station_meant old) seat d) _ _ n ∙ t.1 ∙ left (detach_refusal (station_meant old) seat) _ old h

change-freed : (old : Station) (seat d : List ℕ) → change_refusal kcb (station_meant old) seat d ≢ 0 → detach_refusal (station_meant old) seat ≡ 0
    → station_meant (left_in (change_given old seat d) (freed_station old seat)) ≡ detach_station (station_meant old) seat
change-freed old seat d n e =
    let t = change-told old seat d in
    ap station_meant (t.0.left (freed_station old seat) ∙ left (change_refusal kcb (station_meant old) seat d) _ _ n ∙ t.1 ∙ kept (detach_refusal (station_meant old) seat) _ old e)
    ∙ station-means (detach_station (station_meant old) seat)

-- a change that is not refused under 11 had a right seat
change-detaches : (s : Attached) (seat d : List ℕ) → change_refusal kcb s seat d ≢ 11 → s.attached ≡ true → detach_refusal s seat ≡ 0
change-detaches s seat d m a = by (wrong_seat s seat) refl
  where
    by : (b : Bool) → wrong_seat s seat ≡ b → detach_refusal s seat ≡ 0
    by true e = absurd (m (wrong_eleven kcb s seat d e))
    by false e = detach-right s seat e a

changes-flat : (old : Station) (seat d : List ℕ)
    → ChangesFlat old seat d (refusal_in (change_given old seat d)) (left_in (change_given old seat d) (freed_station old seat)) (change_seat kcb (station_meant old) seat d)
unfolding station_meant
changes-flat old seat d =
    let s = station_meant old in
    let n = change_refusal kcb s seat d in
    let t = (change-told old seat d).0 in
    let m = told-number t in
    record {
      answered = subst (λ r. Answered (of_refusal r) (change_order s seat d) tt) (kcb-refusal d n ∙ sym t.refusal) (demand_1.walk.change s seat d);
      names = subst (Names d) (kcb-refusal d n ∙ sym t.refusal) (wrong_type.change s seat d);
      eleven = λ p.
          let e = sym m ∙ p in
          let w = eleven-wrong kcb s seat d (kcb-lent d) e in
          (change-kept old seat d (λ z. omega (arith, e, z)) (wrong_refuses s seat w), (change-wrong kcb s seat d w).1);
      idle = λ p a. (change-kept old seat d (λ z. p (m ∙ z)) (idle-refuses s seat a), (change-idle kcb s seat d a (λ z. p (m ∙ z))).1);
      parted = λ p q a.
          let e = change-detaches s seat d (λ z. q (m ∙ z)) a in
          (change-freed old seat d (λ z. p (m ∙ z)) e ∙ (detached s seat e).0, (change-parts kcb s seat d e (λ z. p (m ∙ z))).1);
      changed = λ z.
          let e = demand_3.starts.changed s seat d (sym m ∙ z) in
          (station-after t (freed_station old seat) (sym m ∙ z) ∙ e.0, e.1);
    }

-- ---- walk

opens-flat : (s : Station) (seat : List ℕ) (old : Walk) → OpensFlat s seat old (refusal_in (open_given (open_answer kcb (station_meant s) seat))) (left_in (open_given (open_answer kcb (station_meant s) seat)) old)
unfolding open_walk station_meant
opens-flat s seat old =
    let x = station_meant s in
    fills walk_meant (described x seat) _ _ old _ (open_refusal kcb x seat) _ _ (open_told x seat) (λ z. walk-means (open_walk kcb x seat)) (demand_1.walk.open_walk_lem x seat) (opening-means x seat)
    (subst (Names (described x seat)) (kcb-refusal (described x seat) (open_refusal kcb x seat)) (wrong_type.open_walk_lem x seat))

steps-flat : (s : Station) (seat : List ℕ) (old : Walk) (a : Ask)
    → StepsFlat s seat old a (refusal_in (step_given s seat old a)) (left_in (step_given s seat old a) old) (step_out kcb (station_meant s) seat (walk_meant old) a)
steps-flat s seat old a =
    let x = station_meant s in
    let y = walk_meant old in
    let d = described x seat in
    let n = step_refusal kcb x seat y a in
    let t = step-told s seat old a in
    record {
      answered = subst (λ r. Answered (of_refusal r) (step_order x seat y a) tt) (kcb-refusal d n ∙ sym t.refusal) (demand_1.walk.step x seat y a);
      names = subst (Names d) (kcb-refusal d n ∙ sym t.refusal) (wrong_type.step x seat y a);
      refused = λ p. (t.left old ∙ left n _ old (λ z. p (told-number t ∙ z)), (demand_1.frame.step x seat y a (λ z. p (told-number t ∙ z))).1);
      stepped = λ z.
          let e = sym (told-number t) ∙ z in
          (ap walk_meant (t.left old ∙ kept n _ old e) ∙ walk-means (step_walk kcb x seat y a) ∙ (demand_2.steps.walk x seat y a e).0, (demand_2.steps.walk x seat y a e).1);
    }

shown_read_lem : (x : Result (Option Shown) Refusal) → shown_read (part_shown x) ≡ shown_part x
shown_read_lem (Ok (Some (Registers p))) = refl
shown_read_lem (Ok (Some (Stack p))) = refl
shown_read_lem (Ok None) = refl
shown_read_lem (Err r) = refl

shown-bytes : (x : Result (Option Shown) Refusal) (registers stack : List ℕ) → bytes_in (part_shown x) registers stack ≡ shown_bytes x registers stack
shown-bytes (Ok (Some (Registers p))) registers stack = refl
shown-bytes (Ok (Some (Stack p))) registers stack = refl
shown-bytes (Ok None) registers stack = refl
shown-bytes (Err r) registers stack = refl

shows-flat : (s : Station) (seat : List ℕ) (w : Walk) (a : Ask)
    → ShowsFlat s seat w a (shown_refusal (shown_answer kcb (station_meant s) seat (walk_meant w) a)) (part_shown (shown_answer kcb (station_meant s) seat (walk_meant w) a))
unfolding show_part walk_meant
shows-flat s seat w a =
    let x = station_meant s in
    let y = walk_meant w in
    let d = described x seat in
    let n = show_refusal kcb x seat y a in
    let t = shown-told x seat y a in
    record {
      part_of = gives_part shown_read d (show_order x seat y a) _ _ _ n _ _ t (shown_read_lem (shown_in kcb d y)) (demand_1.walk.shown_at x seat y a) (shown-means x seat y a)
          (subst (Names d) (kcb-refusal d n) (wrong_type.show x seat y a));
      bytes = λ z. shown-bytes (shown_answer kcb x seat y a) a.registers a.stack ∙ demand_3.shows.shows x seat y a (sym (refusal-told d n _ t.refusal) ∙ z);
    }

-- ---- of the contracts

-- two to five equations at once
pub along : {A B : Type 0} (P : A → B → Type 0) {a c : A} {b d : B} → a ≡ c → b ≡ d → P c d → P a b
along P {b = b} e f p = subst (λ x. P x b) (sym e) (subst (P _) (sym f) p)

pub along_three : {A B C : Type 0} (P : A → B → C → Type 0) {a c : A} {b d : B} {x y : C} → a ≡ c → b ≡ d → x ≡ y → P c d y → P a b x
along_three P {b = b} {x = x} e f g p = subst (λ z. P z b x) (sym e) (along (P _) f g p)

along_four : {A B C D : Type 0} (P : A → B → C → D → Type 0) {a c : A} {b d : B} {x y : C} {u v : D} → a ≡ c → b ≡ d → x ≡ y → u ≡ v → P c d y v → P a b x u
along_four P {b = b} {x = x} {u = u} e f g h p = subst (λ z. P z b x u) (sym e) (along_three (P _) f g h p)

along_five : {A B C D E : Type 0} (P : A → B → C → D → E → Type 0) {a c : A} {b d : B} {x y : C} {u v : D} {s t : E} → a ≡ c → b ≡ d → x ≡ y → u ≡ v → s ≡ t → P c d y v t → P a b x u s
along_five P {b = b} {x = x} {u = u} {s = s} e f g h k p = subst (λ z. P z b x u s) (sym e) (along_four (P _) f g h k p)

checks-flat : (d : List ℕ) → Checks d (refusal_for d (verdict d))
checks-flat d = record { answered = demand_1.verdict d; names = wrong_type.check d }

pub exports : Exports
exports = record {
  version = λ c r w a. told (result cb_version.ended c) a.ensured (λ f. f);
  check = λ c r w a. subst (Checks c.passed.0.now) (sym (told (result cb_check.ended c) a.ensured (λ f. f))) (checks-flat c.passed.0.now);
  type_extent = λ c r w a.
      along (Fills extent_read c.passed.0.now _ _ c.passed.1.1.0.now)
      (told (result cb_type_extent.ended c) a.ensured (λ f. f.0)) (told (extent.the_row).coded a.ensured (λ f. f.1))
      (extent_fills c.passed.0.now c.passed.1.0 c.passed.1.1.0.now);
  type_classes = λ c r w a.
      along (Fills classes_read c.passed.0.now _ _ c.passed.1.1.0.now)
      (told (result cb_type_classes.ended c) a.ensured (λ f. f.0)) (told (classes.the_row).coded a.ensured (λ f. f.1))
      (classes-fill c.passed.0.now c.passed.1.0 c.passed.1.1.0.now);
  member_run = λ c r w a.
      along (GivesPart members_read c.passed.0.now _ _)
      (told (result cb_member_run.ended c) a.ensured (λ f. f.0)) (told (part.the_row).coded a.ensured (λ f. f.1))
      (run-gives c.passed.0.now c.passed.1.0);
  member_offsets_lem = λ c r w a.
      along (OffsetsFlat c.passed.0.now c.passed.1.0 c.passed.1.1.0.now)
      (told (result cb_member_offsets.ended c) a.ensured (λ f. f.0)) (told bytes a.ensured (λ f. f.1))
      (offsets-flat c.passed.0.now c.passed.1.0 c.passed.1.1.0.now);
  layout_of_lem = λ c r w a.
      along (Fills layout_read c.passed.0.now _ _ c.passed.1.0.now)
      (told (result cb_layout_of.ended c) a.ensured (λ f. f.0)) (told (layout.the_row).coded a.ensured (λ f. f.1))
      (layout-fills c.passed.0.now c.passed.1.0.now);
  lay_out = λ c r w a.
      along_three (LaysOutFlat c.passed.0.now c.passed.1.0.now c.passed.1.1.0.now)
      (told (result cb_lay_out.ended c) a.ensured (λ f. f.0)) (told (layout.the_row).coded a.ensured (λ f. f.1.0)) (told (coded_list (placement.the_row).coded) a.ensured (λ f. f.1.1))
      (lays_out_flat c.passed.0.now c.passed.1.0.now c.passed.1.1.0.now);
  write_listing = λ c r w a. record {
    long = told (result cb_write_listing.ended c) a.ensured (λ f. f.0);
    text = told bytes a.ensured (λ f. f.2);
  };
  place_values = λ c r w a.
      along_five (PlacesFlat c.passed.0.now c.passed.1.0 c.passed.1.1.0.now c.passed.1.1.1.0.now c.passed.1.1.1.1.0.now c.passed.1.1.1.1.1.0.now c.passed.1.1.1.1.1.1.0.now)
      (told (result cb_place_values.ended c) a.ensured (λ f. f.0)) (told (placed.the_row).coded a.ensured (λ f. f.1.0)) (told bytes a.ensured (λ f. f.1.1.0)) (told bytes a.ensured (λ f. f.1.1.1.0)) (told bytes a.ensured (λ f. f.1.1.1.1))
      (places-flat c.passed.0.now c.passed.1.0 c.passed.1.1.0.now c.passed.1.1.1.0.now c.passed.1.1.1.1.0.now c.passed.1.1.1.1.1.0.now c.passed.1.1.1.1.1.1.0.now);
  gather_values = λ c r w a.
      along_three (GathersFlat c.passed.0.now c.passed.1.0.now c.passed.1.1.0.now c.passed.1.1.1.0.now c.passed.1.1.1.1.0.now c.passed.1.1.1.1.1.0.now)
      (told (result cb_gather_values.ended c) a.ensured (λ f. f.0)) (told (gathered-record.the_row).coded a.ensured (λ f. f.1.0)) (told bytes a.ensured (λ f. f.1.1))
      (gathers_flat c.passed.0.now c.passed.1.0.now c.passed.1.1.0.now c.passed.1.1.1.0.now c.passed.1.1.1.1.0.now c.passed.1.1.1.1.1.0.now);
  put_returned = λ c r w a.
      along_three (PutsFlat c.passed.0.now c.passed.1.0 c.passed.1.1.0.now c.passed.1.1.1.0.now c.passed.1.1.1.1.0.now)
      (told (result cb_put_returned.ended c) a.ensured (λ f. f.0)) (told bytes a.ensured (λ f. f.1.0)) (told bytes a.ensured (λ f. f.1.1))
      (puts-flat c.passed.0.now c.passed.1.0 c.passed.1.1.0.now c.passed.1.1.1.0.now c.passed.1.1.1.1.0.now);
  take_returned = λ c r w a.
      along_three (TakesFlat c.passed.0.now c.passed.1.0.now c.passed.1.1.0.now c.passed.1.1.1.0.now c.passed.1.1.1.1.0.now)
      (told (result cb_take_returned.ended c) a.ensured (λ f. f.0)) (told (gathered-record.the_row).coded a.ensured (λ f. f.1.0)) (told bytes a.ensured (λ f. f.1.1))
      (takes-flat c.passed.0.now c.passed.1.0.now c.passed.1.1.0.now c.passed.1.1.1.0.now c.passed.1.1.1.1.0.now);
  new_station_lem = λ c r w a. ap station_meant (told (result cb_new_station.ended c) a.ensured (λ f. f)) ∙ station-means new_station;
  attach = λ c r w a.
      along_three (AttachesFlat c.passed.0.now c.passed.1.0.now c.passed.1.1.0.now)
      (told (result cb_attach.ended c) a.ensured (λ f. f.0)) (told (station.the_row).coded a.ensured (λ f. f.1.0)) (told bytes a.ensured (λ f. f.1.1))
      (attaches-flat c.passed.0.now c.passed.1.0.now c.passed.1.1.0.now);
  detach = λ c r w a.
      along_three (DetachesFlat c.passed.0.now c.passed.1.0.now)
      (told (result cb_detach.ended c) a.ensured (λ f. f.0)) (told (station.the_row).coded a.ensured (λ f. f.1.0)) (told bytes a.ensured (λ f. f.1.1))
      (detaches-flat c.passed.0.now c.passed.1.0.now);
  change = λ c r w a.
      along_three (ChangesFlat c.passed.0.now c.passed.1.0.now c.passed.1.1.0.now)
      (told (result cb_change.ended c) a.ensured (λ f. f.0)) (told (station.the_row).coded a.ensured (λ f. f.1.0)) (told bytes a.ensured (λ f. f.1.1))
      (changes-flat c.passed.0.now c.passed.1.0.now c.passed.1.1.0.now);
  open_walk_lem = λ c r w a.
      along (OpensFlat c.passed.0.now c.passed.1.0.now c.passed.1.1.0.now)
      (told (result cb_open_walk.ended c) a.ensured (λ f. f.0)) (told (walk.the_row).coded a.ensured (λ f. f.1))
      (opens-flat c.passed.0.now c.passed.1.0.now c.passed.1.1.0.now);
  step = λ c r w a.
      let q = asking c.passed.1.1.1.0.now c.passed.1.1.1.1.0.now c.passed.1.1.1.1.1.0 c.passed.1.1.1.1.1.1.0.now in
      along_three (StepsFlat c.passed.0.now c.passed.1.0.now c.passed.1.1.0.now q)
      (told (result cb_step.ended c) a.ensured (λ f. f.0)) (told (walk.the_row).coded a.ensured (λ f. f.1.0)) (told bytes a.ensured (λ f. f.1.1))
      (steps-flat c.passed.0.now c.passed.1.0.now c.passed.1.1.0.now q);
  show = λ c r w a.
      let q = asking c.passed.1.1.1.0.now c.passed.1.1.1.1.0.now c.passed.1.1.1.1.1.0 [] in
      along (ShowsFlat c.passed.0.now c.passed.1.0.now c.passed.1.1.0.now q)
      (told (result cb_show.ended c) a.ensured (λ f. f.0)) (told (part.the_row).coded a.ensured (λ f. f.1))
      (shows-flat c.passed.0.now c.passed.1.0.now c.passed.1.1.0.now q);
}

-- ---- two calls

back : (d : List ℕ) (h : ℕ) (values r y s d' r' y' s' v : List ℕ) → h < 2 ^ 64 → place_refusal amd64 d h values (length r) (length y) (length s) ≡ 0
    → d' ≡ d → r' ≡ registers_after amd64 d h values r y s → y' ≡ upper_after amd64 d h values r y s → s' ≡ stack_after amd64 d h values r y s → length v ≡ length values
    → (gather_answer amd64 d' r' y' s' (length v) ≡ Ok (cond (hidden d) h 0)) × (values_after amd64 d' r' y' s' v ≡ values)
back d h values r y s d' r' y' s' v small p e f k g l = rw (e, f, k, g, ← passed-hidden d h) (demand_2.moving.gathers_placed d h values r y s v small p l)

-- an accepted placing is accepted by its order
placing-zero : (d : List ℕ) (h : ℕ) (values : List ℕ) (q y s : ℕ) (r : Refusal) → r ≡ refusal_in (placed_given (place_answer amd64 d h values q y s)) → r.number ≡ 0 → place_refusal amd64 d h values q y s ≡ 0
placing-zero d h values q y s r e z = sym (told-number (placed-told d h values q y s)) ∙ sym (ap (λ (x : Refusal). x.number) e) ∙ z

pub gathers_back : GathersBack
gathers_back c r w a z small e q v b k =
    let right = placing-zero c.passed.0.now c.passed.1.0 c.passed.1.1.0.now (length c.passed.1.1.1.0.now) (length c.passed.1.1.1.1.0.now) (length c.passed.1.1.1.1.1.0.now) r (told (result cb_place_values.ended c) a.ensured (λ f. f.0)) z in
    let t = back c.passed.0.now c.passed.1.0 c.passed.1.1.0.now c.passed.1.1.1.0.now c.passed.1.1.1.1.0.now c.passed.1.1.1.1.1.0.now
    e.passed.0.now e.passed.1.0.now e.passed.1.1.0.now e.passed.1.1.1.0.now e.passed.1.1.1.1.0.now small right k.description
    (k.registers ∙ told bytes a.ensured (λ f. f.1.1.0)) (k.upper ∙ told bytes a.ensured (λ f. f.1.1.1.0)) (k.stack ∙ told bytes a.ensured (λ f. f.1.1.1.1)) k.values in (
      ap (λ (x : Refusal). x.number) (told (result cb_gather_values.ended e) b.ensured (λ f. f.0) ∙ ap (λ x. refusal_in (gathered_given x)) t.0) ∙ number-of 0,
      (
        ap (λ (g : Gathered). g.hidden) (told (gathered-record.the_row).coded b.ensured (λ f. f.1.0) ∙ ap (λ x. left_in (gathered_given x) e.passed.1.1.1.1.1.0.now) t.0),
        told bytes b.ensured (λ f. f.1.1) ∙ t.1,
      ),
    )

never_same : (d : List ℕ) (h : ℕ) (values r y s d' : List ℕ) (h' : ℕ) (others q x t : List ℕ) → d' ≡ d
    → place_refusal amd64 d h values (length r) (length y) (length s) ≡ 0 → place_refusal amd64 d' h' others (length q) (length x) (length t) ≡ 0
    → registers_after amd64 d h values r y s ≡ registers_after amd64 d' h' others q x t → upper_after amd64 d h values r y s ≡ upper_after amd64 d' h' others q x t
    → stack_after amd64 d h values r y s ≡ stack_after amd64 d' h' others q x t → values ≡ others
never_same d h values r y s d' h' others q x t e p o g k l =
    demand_3.no_shared_image d h h' values others r y s q x t p (subst (λ z. place_refusal amd64 z h' others (length q) (length x) (length t) ≡ 0) e o)
    (g ∙ ap (λ (z : List ℕ). registers_after amd64 z h' others q x t) e) (k ∙ ap (λ (z : List ℕ). upper_after amd64 z h' others q x t) e)
    (l ∙ ap (λ (z : List ℕ). stack_after amd64 z h' others q x t) e)

pub never_the_same : NeverTheSame
never_the_same c e r w q v a b z y d h registers upper stack =
    never_same c.passed.0.now c.passed.1.0 c.passed.1.1.0.now c.passed.1.1.1.0.now c.passed.1.1.1.1.0.now c.passed.1.1.1.1.1.0.now
    e.passed.0.now e.passed.1.0 e.passed.1.1.0.now e.passed.1.1.1.0.now e.passed.1.1.1.1.0.now e.passed.1.1.1.1.1.0.now d
    (placing-zero _ _ _ _ _ _ r (told (result cb_place_values.ended c) a.ensured (λ f. f.0)) z)
    (placing-zero _ _ _ _ _ _ q (told (result cb_place_values.ended e) b.ensured (λ f. f.0)) y)
    (sym (told bytes a.ensured (λ f. f.1.1.0)) ∙ registers ∙ told bytes b.ensured (λ f. f.1.1.0))
    (sym (told bytes a.ensured (λ f. f.1.1.1.0)) ∙ upper ∙ told bytes b.ensured (λ f. f.1.1.1.0))
    (sym (told bytes a.ensured (λ f. f.1.1.1.1)) ∙ stack ∙ told bytes b.ensured (λ f. f.1.1.1.1))

taken_back : (d : List ℕ) (h : ℕ) (v i y d' i' y' w : List ℕ) → h < 2 ^ 64 → put_refusal d h v (length i) (length y) ≡ 0 → d' ≡ d → i' ≡ image_after d h v i y → y' ≡ returned_upper d h v i y
    → length w ≡ length v
    → (take_answer d' i' y' (length w) ≡ Ok (cond (in_memory (return_place d)) h 0)) × (value_after d' i' y' w ≡ trimmed (return_place d) v)
taken_back d h v i y d' i' y' w small p e f g l = rw (e, f, g) (bringing_back.takes_put d h v i y w small p l)

pub takes_back : TakesBack
takes_back c r w a z small e q v b k =
    let d = c.passed.0.now in
    let right = sym (refusal-told d _ _ (put-told d c.passed.1.0 c.passed.1.1.0.now (length c.passed.1.1.1.0.now) (length c.passed.1.1.1.1.0.now))) ∙ sym (ap (λ (x : Refusal). x.number) (told (result cb_put_returned.ended c) a.ensured (λ f. f.0))) ∙ z in
    let t = taken_back d c.passed.1.0 c.passed.1.1.0.now c.passed.1.1.1.0.now c.passed.1.1.1.1.0.now
    e.passed.0.now e.passed.1.0.now e.passed.1.1.0.now e.passed.1.1.1.0.now small right
    k.description (k.image ∙ told bytes a.ensured (λ f. f.1.0)) (k.upper ∙ told bytes a.ensured (λ f. f.1.1)) k.value in (
      ap (λ (x : Refusal). x.number) (told (result cb_take_returned.ended e) b.ensured (λ f. f.0) ∙ ap (λ x. refusal_in (taken_given x)) t.0) ∙ number-of 0,
      (
        ap (λ (g : Gathered). g.hidden) (told (gathered-record.the_row).coded b.ensured (λ f. f.1.0) ∙ ap (λ x. left_in (taken_given x) e.passed.1.1.1.1.0.now) t.0),
        told bytes b.ensured (λ f. f.1.1) ∙ t.1,
      ),
    )

-- ---- a history of calls

-- what the station's record means after a call that leaves it for a refusal
station-by : (n : ℕ) (x : Attached) (s : Station) → (n ≢ 0 → x ≡ station_meant s) → station_meant (leaves n (flat_station x) s) ≡ x
station-by zero x s h = station-means x
station-by (suc n) x s h = sym (h (λ e. omega (arith, e)))

attach-station : (s : Station) (seat d : List ℕ) → station_meant (left_in (attach_given s seat d) s) ≡ attach_station kcb (station_meant s) seat d
attach-station s seat d =
    ap station_meant ((attach-told s seat d).left s) ∙ station-by (attach_refusal kcb (station_meant s) seat d) (attach_station kcb (station_meant s) seat d) s (λ h. (demand_1.frame.attach (station_meant s) seat d h).0)

detach-station : (s : Station) (seat : List ℕ) → station_meant (left_in (detach_given s seat) s) ≡ detach_station (station_meant s) seat
detach-station s seat =
    ap station_meant ((detach-told s seat).1 s) ∙ station-by (detach_refusal (station_meant s) seat) (detach_station (station_meant s) seat) s (λ h. (demand_1.frame.detach (station_meant s) seat h).0)

change-station : (s : Station) (seat d : List ℕ) → station_meant (left_in (change_given s seat d) (freed_station s seat)) ≡ change_station kcb (station_meant s) seat d
unfolding change_given change_station
change-station s seat d =
    let z = detach_seat (station_meant s) seat in
    attach-station (freed_station s seat) z d ∙ ap (λ (x : Attached). attach_station kcb x z d) (freed-means s seat)

attach-number : (s : Station) (seat d : List ℕ) → (refusal_in (attach_given s seat d)).number ≡ attach_refusal kcb (station_meant s) seat d
attach-number s seat d = told-number (attach-told s seat d)

detach-number : (s : Station) (seat : List ℕ) → (refusal_in (detach_given s seat)).number ≡ detach_refusal (station_meant s) seat
detach-number s seat = ap (λ (r : Refusal). r.number) (detach-told s seat).0 ∙ number-of _

-- the walk records after one of them is written, and where what is written is what stood there
walks-after : (ws : ℕ → Walk) (i : ℕ) (v : Walk) (x : Standing) → walk_meant v ≡ x → (λ j. walk_meant (with_record ws i v j)) ≡ with_walk (λ j. walk_meant (ws j)) i x
unfolding with_walk
walks-after ws i v x e t j = by (eqb i j) t
  where
    by : (b : Bool) → walk_meant (cond b v (ws j)) ≡ cond b x (walk_meant (ws j))
    by true = e
    by false = refl

walks-kept : (ws : ℕ → Walk) (i : ℕ) → with_walk (λ j. walk_meant (ws j)) i (walk_meant (ws i)) ≡ (λ j. walk_meant (ws j))
unfolding with_walk
walks-kept ws i t j = by (eqb i j) refl t
  where
    by : (b : Bool) → eqb i j ≡ b → cond b (walk_meant (ws i)) (walk_meant (ws j)) ≡ walk_meant (ws j)
    by true e = ap (λ (m : ℕ). walk_meant (ws m)) (eqb-true i j e)
    by false e = refl

walk-by : (n : ℕ) (x : Standing) (w : Walk) → (n ≢ 0 → x ≡ walk_meant w) → walk_meant (leaves n (flat_walk x) w) ≡ x
walk-by zero x w h = walk-means x
walk-by (suc n) x w h = sym (h (λ e. omega (arith, e)))

step-walk : (s : Station) (seat : List ℕ) (w : Walk) (a : Ask) → walk_meant (left_in (step_given s seat w a) w) ≡ step_walk kcb (station_meant s) seat (walk_meant w) a
step-walk s seat w a =
    ap walk_meant ((step-told s seat w a).left w)
    ∙ walk-by (step_refusal kcb (station_meant s) seat (walk_meant w) a) (step_walk kcb (station_meant s) seat (walk_meant w) a) w (λ h. (demand_1.frame.step (station_meant s) seat (walk_meant w) a h).0)

open_walks : (s : Attached) (seat : List ℕ) (ws : ℕ → Walk) (i : ℕ)
    → (λ j. walk_meant (with_record ws i (left_in (open_given (open_answer kcb s seat)) (ws i)) j))
    ≡ leaves (open_refusal kcb s seat) (with_walk (λ j. walk_meant (ws j)) i (open_walk kcb s seat)) (λ j. walk_meant (ws j))
open_walks s seat ws i = by (open_refusal kcb s seat) (left_in (open_given (open_answer kcb s seat)) (ws i)) ((open_told s seat).left (ws i))
  where
    by : (n : ℕ) (v : Walk) → v ≡ leaves n (flat_walk (open_walk kcb s seat)) (ws i)
        → (λ j. walk_meant (with_record ws i v j)) ≡ leaves n (with_walk (λ j. walk_meant (ws j)) i (open_walk kcb s seat)) (λ j. walk_meant (ws j))
    by zero v e = walks-after ws i v (open_walk kcb s seat) (ap walk_meant e ∙ walk-means (open_walk kcb s seat))
    by (suc n) v e = walks-after ws i v (walk_meant (ws i)) (ap walk_meant e) ∙ walks-kept ws i

-- a show does not look at the out buffer
show-unseen : (s : Attached) (seat : List ℕ) (w : Standing) (a : Ask) (registers stack : List ℕ) (asked : ℕ) → registers ≡ a.registers → stack ≡ a.stack → asked ≡ a.asked
    → show_refusal kcb s seat w (asking registers stack asked []) ≡ show_refusal kcb s seat w a
unfolding show_refusal wrong_registers other_type wrong_stack
show-unseen s seat w a registers stack asked e f g = rw (e, f, g) refl

-- what a call of a C host leaves and answers is what the history's call does
attach-done : (k l : HostDesk) (d : List ℕ) (b : IsBytes d) (n : ℕ) → AttachDone k d n l → (desk_meant l ≡ call kcb (desk_meant k) (attaching d b)) × (n ≡ answer kcb (desk_meant k) (attaching d b))
attach-done k l d b n p =
    let s = p.made.passed.0.now in
    let z = p.made.passed.1.0.now in
    let e = p.made.passed.1.1.0.now in
    let station-is : station_meant p.last.0 ≡ attach_station kcb (station_meant k.station) k.seat d =
    ap station_meant (told (station.the_row).coded p.admitted.ensured (λ f. f.1.0)) ∙ attach-station s z e ∙ rw (p.station, p.seat, p.description) refl in
    let seat-is : p.last.1.0 ≡ attach_seat kcb (station_meant k.station) k.seat d = told bytes p.admitted.ensured (λ f. f.1.1) ∙ rw (p.station, p.seat, p.description) refl in (
      ap desk_meant p.left ∙ (λ j. record { station = station-is j; seat = seat-is j; walks = λ i. walk_meant (k.walks i) }),
      p.number ∙ ap (λ (r : Refusal). r.number) (told (result cb_attach.ended p.made) p.admitted.ensured (λ f. f.0)) ∙ attach-number s z e ∙ rw (p.station, p.seat, p.description) refl,
    )

detach-done : (k l : HostDesk) (n : ℕ) → DetachDone k n l → (desk_meant l ≡ call kcb (desk_meant k) detaching) × (n ≡ answer kcb (desk_meant k) detaching)
detach-done k l n p =
    let s = p.made.passed.0.now in
    let z = p.made.passed.1.0.now in
    let station-is : station_meant p.last.0 ≡ detach_station (station_meant k.station) k.seat =
    ap station_meant (told (station.the_row).coded p.admitted.ensured (λ f. f.1.0)) ∙ detach-station s z ∙ rw (p.station, p.seat) refl in
    let seat-is : p.last.1.0 ≡ detach_seat (station_meant k.station) k.seat = told bytes p.admitted.ensured (λ f. f.1.1) ∙ rw (p.station, p.seat) refl in (
      ap desk_meant p.left ∙ (λ j. record { station = station-is j; seat = seat-is j; walks = λ i. walk_meant (k.walks i) }),
      p.number ∙ ap (λ (r : Refusal). r.number) (told (result cb_detach.ended p.made) p.admitted.ensured (λ f. f.0)) ∙ detach-number s z ∙ rw (p.station, p.seat) refl,
    )

change-done : (k l : HostDesk) (d : List ℕ) (b : IsBytes d) (n : ℕ) → ChangeDone k d n l → (desk_meant l ≡ call kcb (desk_meant k) (changing d b)) × (n ≡ answer kcb (desk_meant k) (changing d b))
change-done k l d b n p =
    let s = p.made.passed.0.now in
    let z = p.made.passed.1.0.now in
    let e = p.made.passed.1.1.0.now in
    let station-is : station_meant p.last.0 ≡ change_station kcb (station_meant k.station) k.seat d =
    ap station_meant (told (station.the_row).coded p.admitted.ensured (λ f. f.1.0)) ∙ change-station s z e ∙ rw (p.station, p.seat, p.description) refl in
    let seat-is : p.last.1.0 ≡ change_seat kcb (station_meant k.station) k.seat d = told bytes p.admitted.ensured (λ f. f.1.1) ∙ rw (p.station, p.seat, p.description) refl in (
      ap desk_meant p.left ∙ (λ j. record { station = station-is j; seat = seat-is j; walks = λ i. walk_meant (k.walks i) }),
      p.number ∙ ap (λ (r : Refusal). r.number) (told (result cb_change.ended p.made) p.admitted.ensured (λ f. f.0)) ∙ told-number (change-told s z e).0
          ∙ rw (p.station, p.seat, p.description) refl,
    )

open_done : (k l : HostDesk) (i n : ℕ) → OpenDone k i n l → (desk_meant l ≡ call kcb (desk_meant k) (opening i)) × (n ≡ answer kcb (desk_meant k) (opening i))
open_done k l i n p =
    let x = station_meant k.station in
    let record_is : p.last.1.1.0 ≡ left_in (open_given (open_answer kcb x k.seat)) (k.walks i) = told (walk.the_row).coded p.admitted.ensured (λ f. f.1) ∙ rw (p.station, p.seat, p.walk) refl in
    let walks-are : (λ j. walk_meant (with_record k.walks i p.last.1.1.0 j)) ≡ leaves (open_refusal kcb x k.seat) (with_walk (λ j. walk_meant (k.walks j)) i (open_walk kcb x k.seat)) (λ j. walk_meant (k.walks j)) =
    ap {B = ℕ → Standing} (λ (v : Walk). λ (j : ℕ). walk_meant (with_record k.walks i v j)) record_is ∙ open_walks x k.seat k.walks i in
    let answer-is : p.result ≡ refusal_in (open_given (open_answer kcb x k.seat)) = told (result cb_open_walk.ended p.made) p.admitted.ensured (λ f. f.0) ∙ rw (p.station, p.seat) refl in (
      ap desk_meant p.left ∙ (λ j. record { station = x; seat = k.seat; walks = walks-are j }),
      p.number ∙ ap (λ (r : Refusal). r.number) answer-is ∙ told-number (open_told x k.seat),
    )

step-done : (k l : HostDesk) (i : ℕ) (a : Ask) (n : ℕ) → StepDone k i a n l → (desk_meant l ≡ call kcb (desk_meant k) (stepping i a)) × (n ≡ answer kcb (desk_meant k) (stepping i a))
step-done k l i a n p =
    let x = station_meant k.station in
    let record_is : p.last.1.1.0 ≡ left_in (step_given k.station k.seat (k.walks i) a) (k.walks i) = told (walk.the_row).coded p.admitted.ensured (λ f. f.1.0) ∙ rw (p.station, p.seat, p.walk, p.asked) refl in
    let answer-is : p.result ≡ refusal_in (step_given k.station k.seat (k.walks i) a) = told (result cb_step.ended p.made) p.admitted.ensured (λ f. f.0) ∙ rw (p.station, p.seat, p.walk, p.asked) refl in (
      ap desk_meant p.left
          ∙ (λ j. record { station = x; seat = k.seat; walks = walks-after k.walks i p.last.1.1.0 (step_walk kcb x k.seat (walk_meant (k.walks i)) a) (ap walk_meant record_is ∙ step-walk k.station k.seat (k.walks i) a) j }),
      p.number ∙ ap (λ (r : Refusal). r.number) answer-is ∙ told-number (step-told k.station k.seat (k.walks i) a),
    )

show-done : (k l : HostDesk) (i : ℕ) (a : Ask) (n : ℕ) → ShowDone k i a n l → (desk_meant l ≡ desk_meant k) × (n ≡ show_refusal kcb (station_meant k.station) k.seat (walk_meant (k.walks i)) a)
show-done k l i a n p =
    let q = asking p.made.passed.1.1.1.0.now p.made.passed.1.1.1.1.0.now p.made.passed.1.1.1.1.1.0 [] in
    let x = station_meant k.station in
    let y = walk_meant (k.walks i) in
    let answer-is : p.result ≡ shown_refusal (shown_answer kcb x k.seat y q) = told (result cb_show.ended p.made) p.admitted.ensured (λ f. f.0) ∙ rw (p.station, p.seat, p.walk) refl in (
      ap desk_meant p.left,
      p.number ∙ ap (λ (r : Refusal). r.number) answer-is
          ∙ refusal-told (described x k.seat) (show_refusal kcb x k.seat y q) _ (shown-told x k.seat y q).refusal
          ∙ show-unseen x k.seat y a _ _ _ p.registers p.stack p.asked,
    )

one-done : (k l : HostDesk) (c : Call) (n : ℕ) → Done k c n l → (desk_meant l ≡ call kcb (desk_meant k) c) × (n ≡ answer kcb (desk_meant k) c)
one-done k l (attaching d b) n p = attach-done k l d b n p
one-done k l detaching n p = detach-done k l n p
one-done k l (changing d b) n p = change-done k l d b n p
one-done k l (opening i) n p = open_done k l i n p
one-done k l (stepping i a) n p = step-done k l i a n p
one-done k l (showing i a) n p = show-done k l i a n p
one-done k l (numbering i a) n p = show-done k l i a n p
one-done k l (writing i w) n p =
    (ap desk_meant p.left ∙ (λ j. record { station = station_meant k.station; seat = k.seat; walks = walks-after k.walks i p.record_made w p.meant j }), p.number)

all_done : {k l : HostDesk} {cs : List Call} {ns : List ℕ} → Played k cs ns l → (desk_meant l ≡ calls kcb (desk_meant k) cs) × (ns ≡ answers kcb (desk_meant k) cs)
all_done (nothing k) = (refl, refl)
all_done (then k m l c cs n ns p ps) =
    let e = one-done k m c n p in
    let f = all_done ps in
    (f.0 ∙ ap (λ (x : Desk). calls kcb x cs) e.0, ap₂ (λ (x : ℕ) (xs : List ℕ). x ∷ xs) e.1 (f.1 ∙ ap (λ (x : Desk). answers kcb x cs) e.0))

pub plays_history : PlaysHistory
plays_history k l cs ns p = all_done p
