-- What each call of the C interface (include/callbridge.h) answers and leaves in the lent record, by the paper's numbers; and that a
-- list of flat records means the layout's placements. Assumes nothing: these are definitions.
use Rattle.std.specs.Prelude.{◌≡◌, cond, List, Result, ◌++◌, ℕ, ◌+◌, ◌<◌, ltb, length, get_or}
use Rattle.description.specs.Description.{arguments_in, kind_at, a_at, count_at, member_start, model_in}
use Rattle.form.specs.declared.Refusal.{Refusal}
use Rattle.form.specs.Reading.{refusal_of, refusal_in}
use Rattle.types.specs.Wrong.{refusal_for}
use Rattle.types.specs.Decode.{ty_at}
use Rattle.uses.specs.Uses.{uses_refusal}
use Rattle.classes.specs.declared.Class.TheVariants.{NoClass}
use Rattle.classes.specs.Classes.{code_of}
use Rattle.classify.specs.Classify.{classes_of}
use Rattle.questions.specs.Questions.{question_refusal, extent_of, extent_answer}
use Rattle.questions.specs.Runs.{classes_answer, run_answer}
use Rattle.layout.specs.Arguments.{used_at, return_place}
use Rattle.layout.specs.Verdict.{verdict}
use Rattle.layout.specs.Layout.{layout_of as whole_of, layout_answer}
use Rattle.layout.specs.Placements.{placement_at}
use Rattle.layout.specs.StackNeeds.{stack_need, stack_answer}
use Rattle.layout.specs.Lists.{list_refusal, list_count, filled}
use Rattle.moving.specs.Images.{frame_of, amd64}
use Rattle.moving.specs.Frames.{own_address}
use Rattle.tidying.specs.Answers.{tidied, length_refusal, length_answer}
use Rattle.moving.specs.Orders.{place_refusal, gather_refusal}
use Rattle.moving.specs.Answers.{place_answer, gather_answer}
use Rattle.returning.specs.Image.{returned_address}
use Rattle.returning.specs.Orders.{put_refusal, take_refusal}
use Rattle.returning.specs.Answers.{put_answer, take_answer}
use Rattle.station.specs.declared.Station.{Station as Attached}
use Rattle.station.specs.Outcome.{leaves}
use Rattle.station.specs.Paper.{kcb}
use Rattle.station.specs.Attachment.{described, attach_refusal, attach_station, detach_refusal, detach_station, change_refusal, change_station}
use Rattle.walk.specs.declared.Walk.{Walk as Standing}
use Rattle.walk.specs.Orders.{Ask, open_refusal, step_refusal, show_refusal}
use Rattle.walk.specs.Steps.{open_walk, open_answer, step_walk}
use Rattle.walk.specs.Show.{shown_in, shown_answer}
use Rattle.finishing.specs.Rest.{AskRest, finish_refusal, finish_walk}
use Rattle.flat.specs.declared.Part.{Part}
use Rattle.flat.specs.declared.Placement.{Placement}
use Rattle.flat.specs.declared.Layout.{Layout}
use Rattle.flat.specs.declared.Station.{Station}
use Rattle.flat.specs.declared.Walk.{Walk}
use Rattle.flat.specs.Records.{layout_of}
use Rattle.flat.specs.Parts.{nowhere, of_description}
use Rattle.flat.specs.Stations.{station_meant, flat_station, walk_meant, flat_walk}
use Rattle.flat.specs.Meanings.{placement_meant, layout_meant, summary_of}
use Rattle.flat.specs.StackNeeds.{flat_need}
use Rattle.callbridge.specs.Outcome.{left_in}
use Rattle.callbridge.specs.TypeCalls.{extent_given, classes_given, run_part, run_refusal}
use Rattle.callbridge.specs.LayoutCalls.{layout_given, flat_at, list_given}
use Rattle.callbridge.specs.StackCalls.{need_given}
use Rattle.callbridge.specs.TidyingCalls.{tidied_given}
use Rattle.callbridge.specs.MovingCalls.{placed_given, gathered_given}
use Rattle.callbridge.specs.ReturningCalls.{put_given, taken_given}
use Rattle.callbridge.specs.StationCalls.{attach_given, detach_given, freed_station, change_given}
use Rattle.callbridge.specs.WalkCalls.{open_given, step_given, finish_given, shown_part, shown_refusal}

-- a call about the description d answers the number n, with the type that it names; it leaves the new record where n is 0, and where it is not the record that was lent
pub record Tells {A : Type 0} (o : Result A Refusal) (d : List ℕ) (n : ℕ) (new : A) : Type 0 where
  pub refusal : refusal_in o ≡ refusal_for d n
  pub left : (old : A) → left_in o old ≡ leaves n new old

-- cb_type_extent, cb_type_classes, cb_member_run
abbrev pub ExtentTold : Type 0
ExtentTold = (d : List ℕ) (t : ℕ) → Tells (extent_given (extent_answer d t)) d (question_refusal d t) (extent_of (model_in d) (ty_at d t))

abbrev pub ClassesTold : Type 0
ClassesTold = (d : List ℕ) (t : ℕ)
    → Tells (classes_given (classes_answer d t)) d (question_refusal d t)
    (record {
      first = code_of (get_or (classes_of (model_in d) (ty_at d t)) 0 NoClass);
      second = code_of (get_or (classes_of (model_in d) (ty_at d t)) 1 NoClass);
      third = code_of (get_or (classes_of (model_in d) (ty_at d t)) 2 NoClass);
      fourth = code_of (get_or (classes_of (model_in d) (ty_at d t)) 3 NoClass);
    })

-- "or as the empty part for .. another kind"
unfoldable pub run_of : List ℕ → ℕ → Part
run_of d t = cond (ltb (kind_at d t) 2) nowhere (of_description (record { 0 = member_start d + a_at d t }) (record { 0 = count_at d t }))

-- a part is an answer: the empty part where the number is not 0
pub record TellsPart (part : Part) (r : Refusal) (d : List ℕ) (n : ℕ) (new : Part) : Type 0 where
  pub refusal : r ≡ refusal_for d n
  pub shown : part ≡ leaves n new nowhere

abbrev pub RunTold : Type 0
RunTold = (d : List ℕ) (t : ℕ) → TellsPart (run_part (run_answer d t)) (run_refusal (run_answer d t)) d (question_refusal d t) (run_of d t)

-- cb_layout_of, cb_lay_out
abbrev pub LayoutTold : Type 0
LayoutTold = (d : List ℕ) → Tells (layout_given (arguments_in d) (layout_answer d)) d (verdict d) (layout_of (whole_of d) (arguments_in d))

abbrev pub ListTold : Type 0
ListTold = (d : List ℕ) (room : ℕ) → Tells (list_given d room) d (list_refusal d room) (layout_of (whole_of d) (arguments_in d))

-- cb_needs_stack: 1 to 9, and no more
abbrev pub NeedTold : Type 0
NeedTold = (d : List ℕ) → Tells (need_given (stack_answer d)) d (uses_refusal d) (flat_need (stack_need d))

-- cb_tidy_length; cb_tidy has no record, and its contract names the number
abbrev pub TidiedTold : Type 0
TidiedTold = (d : List ℕ) → Tells (tidied_given (length_answer d)) d (length_refusal d) (record { length = record { 0 = length (tidied d) } })

-- cb_place_values, cb_gather_values
abbrev pub PlacedTold : Type 0
PlacedTold = (d : List ℕ) (h : ℕ) (values : List ℕ) (registers_length upper_length stack_length : ℕ)
    → Tells (placed_given (place_answer amd64 d h values registers_length upper_length stack_length)) d (place_refusal amd64 d h values registers_length upper_length stack_length)
    (record { vector = (used_at d (arguments_in d)).vector })

abbrev pub GatheredTold : Type 0
GatheredTold = (d r y s : List ℕ) (values_length : ℕ)
    → Tells (gathered_given (gather_answer amd64 d r y s values_length)) d (gather_refusal amd64 d values_length (length r) (length y) (length s))
    (record { hidden = own_address (frame_of d) (r ++ (y ++ s)) })

-- cb_put_returned has no record, cb_take_returned the hidden address
abbrev pub PutTold : Type 0
PutTold = (d : List ℕ) (h : ℕ) (value : List ℕ) (image_length upper_length : ℕ)
    → put_given (put_answer d h value image_length upper_length) ≡ refusal_for d (put_refusal d h value image_length upper_length)

abbrev pub TakenTold : Type 0
TakenTold = (d image upper : List ℕ) (value_length : ℕ)
    → Tells (taken_given (take_answer d image upper value_length)) d (take_refusal d image upper value_length) (record { hidden = returned_address (return_place d) (image ++ upper) })

-- cb_attach, cb_detach: of what the station means
abbrev pub AttachTold : Type 0
AttachTold = (s : Station) (seat d : List ℕ)
    → Tells (attach_given s seat d) d (attach_refusal kcb (station_meant s) seat d) (flat_station (attach_station kcb (station_meant s) seat d))

abbrev pub DetachTold : Type 0
DetachTold = (s : Station) (seat : List ℕ)
    → (refusal_in (detach_given s seat) ≡ refusal_of (detach_refusal (station_meant s) seat))
    × ((old : Station) → left_in (detach_given s seat) old ≡ leaves (detach_refusal (station_meant s) seat) (flat_station (detach_station (station_meant s) seat)) old)

-- cb_change: the same; and where it refuses, the record is left as a detach leaves it
abbrev pub ChangeTold : Type 0
ChangeTold = (s : Station) (seat d : List ℕ)
    → Tells (change_given s seat d) d (change_refusal kcb (station_meant s) seat d) (flat_station (change_station kcb (station_meant s) seat d))
    × (freed_station s seat ≡ leaves (detach_refusal (station_meant s) seat) (flat_station (detach_station (station_meant s) seat)) s)

-- cb_open_walk, cb_step, cb_finish_walk, cb_show
abbrev pub OpenTold : Type 0
OpenTold = (s : Attached) (seat : List ℕ) → Tells (open_given (open_answer kcb s seat)) (described s seat) (open_refusal kcb s seat) (flat_walk (open_walk kcb s seat))

abbrev pub StepTold : Type 0
StepTold = (s : Station) (seat : List ℕ) (w : Walk) (a : Ask)
    → Tells (step_given s seat w a) (described (station_meant s) seat) (step_refusal kcb (station_meant s) seat (walk_meant w) a)
    (flat_walk (step_walk kcb (station_meant s) seat (walk_meant w) a))

abbrev pub FinishTold : Type 0
FinishTold = (s : Station) (seat : List ℕ) (w : Walk) (a : AskRest)
    → Tells (finish_given s seat w a) (described (station_meant s) seat) (finish_refusal kcb (station_meant s) seat (walk_meant w) a)
    (flat_walk (finish_walk kcb (station_meant s) seat (walk_meant w) a))

abbrev pub ShownTold : Type 0
ShownTold = (s : Attached) (seat : List ℕ) (w : Standing) (a : Ask)
    → TellsPart (shown_part (shown_answer kcb s seat w a)) (shown_refusal (shown_answer kcb s seat w a)) (described s seat) (show_refusal kcb s seat w a)
    (shown_part (shown_in kcb (described s seat) w))

-- the entries of an accepted list mean the layout's placements, and the summary means the layout
abbrev pub ListMeans : Type 0
ListMeans = (d : List ℕ) (l : List Placement) (j : ℕ) (x : Placement) → list_refusal d (length l) ≡ 0 → j < arguments_in d
    → placement_meant (get_or (filled (flat_at d) (list_count d (length l)) l) j x) ≡ placement_at d j

abbrev pub SummaryMeans : Type 0
SummaryMeans = (d : List ℕ) (old : Layout) → verdict d ≡ 0 → layout_meant (left_in (layout_given (arguments_in d) (layout_answer d)) old) ≡ summary_of (whole_of d)
