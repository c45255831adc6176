-- The demands, of the calls that a C host makes: what is so of every outcome that the contract of an export of include/callbridge.h admits, result and everything
-- that is lent at exit. The contract is the very one that the export is proved to meet. A flat record is read by what its numbers mean (flat/specs). At the end, the
-- step from one call to condition C: a history of admitted calls is the history of its theorems. Assumes nothing: these are definitions.
use Rattle.std.specs.Prelude.{◌≡◌, ◌≢◌, true, false, cond, List, [], ◌∷◌, ◌++◌, ℕ, suc, ◌+◌, ◌-◌, ◌^◌, ◌≤◌, ◌<◌, ltb, eqb, length, get_or, take, drop, replicate}
use denote.Triple.Entry.{Res}
use denote.Triple.Clauses.{Lasts}
use Rattle.tightness.specs.Tight.{Call as Made, Admits}
use Rattle.addresses.specs.Addresses.{gather}
use Rattle.description.specs.Description.{named_in, arguments_in, kind_at, count_at, model_in}
use Rattle.form.specs.declared.Refusal.{Refusal}
use Rattle.form.specs.Order.{Rule}
use Rattle.types.specs.Size.{size_ty, align_ty}
use Rattle.types.specs.Decode.{ty_at}
use Rattle.types.specs.declared.Extent.{Extent}
use Rattle.classes.specs.declared.Class.{Class}
use Rattle.classify.specs.Classify.{classes_of}
use Rattle.layout.specs.declared.Layout.{Layout as Whole}
use Rattle.layout.specs.Arguments.{hidden, used_at, return_place}
use Rattle.layout.specs.Layout.{layout_of}
use Rattle.layout.specs.Placements.{placement_at}
use Rattle.moving.specs.Images.{addresses_of, frame_of}
use Rattle.moving.specs.Frames.{own_address, IsImage}
use Rattle.returning.specs.Image.{in_memory, return_value, returned_address, trimmed}
use Rattle.returning.specs.Statements.{IsImage as IsReturnImage}
use Rattle.station.specs.Paper.{kcb, shape_at}
use Rattle.station.specs.Attachment.{described, new_station}
use Rattle.walk.specs.Offsets.{read_at}
use Rattle.walk.specs.declared.Walk.{Walk as Standing}
use Rattle.walk.specs.Orders.{Ask, asking, offsets_of, standing}
use Rattle.walk.specs.Show.{whole, shown_in}
use Rattle.walk.specs.Steps.{moved_on, bytes_at}
use Rattle.listing.specs.Listing.{listing}
use Rattle.flat.specs.declared.Classes.{Classes}
use Rattle.flat.specs.declared.Part.{Part}
use Rattle.flat.specs.declared.Placement.{Placement}
use Rattle.flat.specs.declared.Layout.{Layout}
use Rattle.flat.specs.declared.Placed.{Placed}
use Rattle.flat.specs.declared.Gathered.{Gathered}
use Rattle.flat.specs.declared.Station.{Station}
use Rattle.flat.specs.declared.Walk.{Walk}
use Rattle.flat.specs.Numbers.{class_meant}
use Rattle.flat.specs.Meanings.{placement_meant, layout_meant, summary_of}
use Rattle.flat.specs.Parts.{nowhere}
use Rattle.flat.specs.Stations.{station_meant, walk_meant}
use Rattle.histories.specs.Calls.{Desk, Call, attaching, detaching, changing, opening, stepping, showing, numbering, writing, calls, answers}
use Rattle.callbridge.specs.contracts.cb_version
use Rattle.callbridge.specs.contracts.cb_check
use Rattle.callbridge.specs.contracts.cb_type_extent
use Rattle.callbridge.specs.contracts.cb_type_classes
use Rattle.callbridge.specs.contracts.cb_member_run
use Rattle.callbridge.specs.contracts.cb_member_offsets
use Rattle.callbridge.specs.contracts.cb_layout_of
use Rattle.callbridge.specs.contracts.cb_lay_out
use Rattle.callbridge.specs.contracts.cb_write_listing
use Rattle.callbridge.specs.contracts.cb_place_values
use Rattle.callbridge.specs.contracts.cb_gather_values
use Rattle.callbridge.specs.contracts.cb_put_returned
use Rattle.callbridge.specs.contracts.cb_take_returned
use Rattle.callbridge.specs.contracts.cb_new_station
use Rattle.callbridge.specs.contracts.cb_attach
use Rattle.callbridge.specs.contracts.cb_detach
use Rattle.callbridge.specs.contracts.cb_change
use Rattle.callbridge.specs.contracts.cb_open_walk
use Rattle.callbridge.specs.contracts.cb_step
use Rattle.callbridge.specs.contracts.cb_show
use Rattle.promises.specs.Meaning.{outcome, of_refusal, class_list, Members, run, none, Part as Shown, in_registers, in_stack, apart, shown_part, Answered}
use Rattle.promises.specs.Orders.{question_order, offsets_order, check_order, layout_order, place_order, gather_order, put_order, take_order, attach_order, detach_order, open_order, step_order, show_order, change_order}
use Rattle.promises.specs.WrongType.{Names}
use Rattle.promises.specs.Demand1.{members}
use Rattle.promises.specs.Demand2.{MembersLie}
use Rattle.promises.specs.Calls.{Ensures}

-- ---- what a call with a lent record does

-- the refusal r that it answers and the record that it leaves where `old` was lent mean an answer, by the order of refusal and with the values v; the record stays for a refusal;
-- and the type that 6 or 7 names is the lowest of the description d that breaks the rule
pub record Fills {A X : Type 0} (read : A → X) (d : List ℕ) (rules : List Rule) (v : X) (old : A) (r : Refusal) (new : A) : Type 0 where
  pub answered : Answered (outcome r.number (read new)) rules v
  pub kept : r.number ≢ 0 → new ≡ old
  pub names : Names d r

-- "the empty part for a refusal": a part is an answer
pub record GivesPart {X : Type 0} (read : Part → X) (d : List ℕ) (rules : List Rule) (v : X) (r : Refusal) (part : Part) : Type 0 where
  pub answered : Answered (outcome r.number (read part)) rules v
  pub empty : r.number ≢ 0 → part ≡ nowhere
  pub names : Names d r

-- ---- what the records mean

abbrev pub extent_read : Extent → ℕ × ℕ
extent_read e = (e.size.0, e.align.0)

abbrev pub classes_read : Classes → List Class
classes_read k = class_list (class_meant k.first) (class_meant k.second) (class_meant k.third) (class_meant k.fourth)

-- CB_DESCRIPTION: a run of members
abbrev pub members_read : Part → Members
members_read p = cond (eqb p.image 1) (run p.offset.0 p.length.0) none

abbrev pub layout_read : Layout → Whole × ℕ
layout_read l = (layout_meant l, l.arguments)

-- CB_REGISTERS, CB_STACK: where an argument lies, and its bytes there
abbrev pub shown_read : Part → Shown
shown_read p = cond (eqb p.image 2) (in_registers p.offset.0 p.length.0) (cond (eqb p.image 3) (in_stack p.offset.0 p.length.0) apart)

abbrev pub bytes_in : Part → List ℕ → List ℕ → List ℕ
bytes_in p registers stack =
    cond (eqb p.image 2) (take p.length.0 (drop p.offset.0 registers)) (cond (eqb p.image 3) (take p.length.0 (drop p.offset.0 stack)) [])

-- ---- what each call does

pub record Checks (d : List ℕ) (r : Refusal) : Type 0 where
  pub answered : Answered (of_refusal r) (check_order d) tt
  pub names : Names d r

-- cb_member_offsets: entries past the members stay, and a refused list stays
pub record OffsetsFlat (d : List ℕ) (t : ℕ) (list : List ℕ) (r : Refusal) (after : List ℕ) : Type 0 where
  pub answered : Answered (of_refusal r) (offsets_order d t (length list)) tt
  pub names : Names d r
  pub refused : r.number ≢ 0 → after ≡ list
  pub lie : r.number ≡ 0 → 2 ≤ kind_at d t → MembersLie d t (λ i. get_or after i 0)
  pub past : r.number ≡ 0 → 2 ≤ kind_at d t → (i x : ℕ) → count_at d t ≤ i → get_or after i x ≡ get_or list i x
  pub other : kind_at d t < 2 → after ≡ list

-- cb_lay_out: "Entries past A stay", and a refused list stays
pub record LaysOutFlat (d : List ℕ) (old : Layout) (list : List Placement) (r : Refusal) (new : Layout) (after : List Placement) : Type 0 where
  pub summary : Fills layout_read d (layout_order d (length list)) (summary_of (layout_of d), arguments_in d) old r new
  pub refused : r.number ≢ 0 → after ≡ list
  pub below : r.number ≡ 0 → (i : ℕ) (x : Placement) → i < arguments_in d → placement_meant (get_or after i x) ≡ placement_at d i
  pub past : r.number ≡ 0 → (i : ℕ) (x : Placement) → arguments_in d ≤ i → get_or after i x ≡ get_or list i x
  -- request 2026-07: "The records' offsets start at 0, each is the one before plus its size, and the last ends at the total", and each says whether it is named
  pub starts : r.number ≡ 0 → 0 < arguments_in d → (x : Placement) → (get_or after 0 x).value.0 ≡ 0
  pub follows : r.number ≡ 0 → (i : ℕ) → i + 1 < arguments_in d → (x : Placement) → (get_or after (i + 1) x).value.0 ≡ (get_or after i x).value.0 + (get_or after i x).size.0
  pub ends : r.number ≡ 0 → (i : ℕ) → i + 1 ≡ arguments_in d → (x : Placement) → (get_or after i x).value.0 + (get_or after i x).size.0 ≡ new.values.0
  pub marks : r.number ≡ 0 → (i : ℕ) → i < arguments_in d → (x : Placement) → (get_or after i x).named ≡ cond (ltb i (named_in d)) 1 0

-- cb_write_listing: the lister's text, and behind it what stood there
pub record Lists (d out : List ℕ) (n : ℕ) (after : List ℕ) : Type 0 where
  pub long : n ≡ length (listing d)
  pub text : after ≡ listing d ++ drop (length (listing d)) out

-- cb_place_values, cb_gather_values
pub record PlacesFlat (d : List ℕ) (h : ℕ) (values registers upper stack : List ℕ) (old : Placed) (r : Refusal) (new : Placed) (q y s : List ℕ) : Type 0 where
  pub count : Fills (λ (p : Placed). p.vector.0) d (place_order d h values (length registers) (length upper) (length stack)) (used_at d (arguments_in d)).vector.0 old r new
  pub refused : r.number ≢ 0 → (q ≡ registers) × (y ≡ upper) × (s ≡ stack)
  pub placed : r.number ≡ 0 → IsImage (frame_of d) h values (q ++ (y ++ s))

pub record GathersFlat (d registers upper stack values : List ℕ) (old : Gathered) (r : Refusal) (new : Gathered) (v : List ℕ) : Type 0 where
  pub address : Fills (λ (g : Gathered). g.hidden) d (gather_order d (length values) (length registers) (length upper) (length stack))
      (own_address (frame_of d) (registers ++ (upper ++ stack))) old r new
  pub refused : r.number ≢ 0 → v ≡ values
  pub gathered : r.number ≡ 0 → v ≡ gather (registers ++ (upper ++ stack)) (addresses_of d)

-- cb_put_returned, cb_take_returned
pub record PutsFlat (d : List ℕ) (h : ℕ) (value image upper : List ℕ) (r : Refusal) (i y : List ℕ) : Type 0 where
  pub answered : Answered (of_refusal r) (put_order d h value (length image) (length upper)) tt
  pub names : Names d r
  pub refused : r.number ≢ 0 → (i ≡ image) × (y ≡ upper)
  pub put : r.number ≡ 0 → IsReturnImage (return_place d) h value (i ++ y)

pub record TakesFlat (d image upper value : List ℕ) (old : Gathered) (r : Refusal) (new : Gathered) (v : List ℕ) : Type 0 where
  pub address : Fills (λ (g : Gathered). g.hidden) d (take_order d image upper (length value)) (returned_address (return_place d) (image ++ upper)) old r new
  pub refused : r.number ≢ 0 → v ≡ value
  pub taken : r.number ≡ 0 → v ≡ return_value (return_place d) (length value) (image ++ upper)

-- cb_attach, cb_detach: a refusal leaves every byte of the station's record, whatever it means
pub record AttachesFlat (old : Station) (seat d : List ℕ) (r : Refusal) (new : Station) (z : List ℕ) : Type 0 where
  pub answered : Answered (of_refusal r) (attach_order (station_meant old) seat d) tt
  pub names : Names d r
  pub refused : r.number ≢ 0 → (new ≡ old) × (z ≡ seat)
  pub attached : r.number ≡ 0
      → (station_meant new ≡ record { attached = true; length = record { 0 = length d }; number = suc old.number }) × (z ≡ d ++ replicate (586 - length d) 0)

pub record DetachesFlat (old : Station) (seat : List ℕ) (r : Refusal) (new : Station) (z : List ℕ) : Type 0 where
  pub answered : Answered (of_refusal r) (detach_order (station_meant old) seat) tt
  pub names : r.ty ≡ 0
  pub refused : r.number ≢ 0 → (new ≡ old) × (z ≡ seat)
  pub detached : r.number ≡ 0 → (station_meant new ≡ record { attached = false; length = record { 0 = 0 }; number = old.number }) × (z ≡ replicate 586 0)

-- cb_change (request 2026-09): a refusal leaves every byte under 11, and where nothing was attached; else what was attached has left
pub record ChangesFlat (old : Station) (seat d : List ℕ) (r : Refusal) (new : Station) (z : List ℕ) : Type 0 where
  pub answered : Answered (of_refusal r) (change_order (station_meant old) seat d) tt
  pub names : Names d r
  pub eleven : r.number ≡ 11 → (new ≡ old) × (z ≡ seat)
  pub idle : r.number ≢ 0 → (station_meant old).attached ≡ false → (new ≡ old) × (z ≡ seat)
  pub parted : r.number ≢ 0 → r.number ≢ 11 → (station_meant old).attached ≡ true
      → (station_meant new ≡ record { attached = false; length = record { 0 = 0 }; number = old.number }) × (z ≡ replicate 586 0)
  pub changed : r.number ≡ 0
      → (station_meant new ≡ record { attached = true; length = record { 0 = length d }; number = suc old.number }) × (z ≡ d ++ replicate (586 - length d) 0)

-- cb_open_walk: position N, and the offsets that the description in the seat gives there
abbrev pub OpensFlat : Station → List ℕ → Walk → Refusal → Walk → Type 0
OpensFlat s seat old r new =
    Fills walk_meant (described (station_meant s) seat) (open_order (station_meant s) seat)
    (standing kcb (described (station_meant s) seat) s.number (kcb.named (described (station_meant s) seat))) old r new

-- cb_step
pub record StepsFlat (s : Station) (seat : List ℕ) (old : Walk) (a : Ask) (r : Refusal) (new : Walk) (o : List ℕ) : Type 0 where
  pub answered : Answered (of_refusal r) (step_order (station_meant s) seat (walk_meant old) a) tt
  pub names : Names (described (station_meant s) seat) r
  pub refused : r.number ≢ 0 → (new ≡ old) × (o ≡ a.out)
  pub stepped : r.number ≡ 0
      → (walk_meant new ≡ moved_on kcb (described (station_meant s) seat) (walk_meant old)) × (o ≡ bytes_at kcb (described (station_meant s) seat) (walk_meant old) a)

-- cb_show: where the argument lies, and that its bytes lie there; none where it lies in more than one part
pub record ShowsFlat (s : Station) (seat : List ℕ) (w : Walk) (a : Ask) (r : Refusal) (part : Part) : Type 0 where
  pub part_of : GivesPart shown_read (described (station_meant s) seat) (show_order (station_meant s) seat (walk_meant w) a)
      (shown_part (shown_in kcb (described (station_meant s) seat) (walk_meant w))) r part
  pub bytes : r.number ≡ 0
      → bytes_in part a.registers a.stack
      ≡ cond (whole (read_at kcb.slot (offsets_of (walk_meant w)) (shape_at kcb (described (station_meant s) seat) w.position)) (shape_at kcb (described (station_meant s) seat) w.position))
      (bytes_at kcb (described (station_meant s) seat) (walk_meant w) a) []

-- ---- and that it does

pub record Exports : Type 2 where
  pub version : Ensures cb_version.ended (λ M 𝓤 𝓛. cb_version.clauses 𝓛) (λ c r w. r ≡ 5)
  pub check : Ensures cb_check.ended (λ M 𝓤 𝓛. cb_check.clauses 𝓛) (λ c r w. Checks c.passed.0.now r)
  pub type_extent : Ensures cb_type_extent.ended (λ M 𝓤 𝓛. cb_type_extent.clauses 𝓛)
      (λ c r w. Fills extent_read c.passed.0.now (question_order c.passed.0.now c.passed.1.0)
      (size_ty (model_in c.passed.0.now) (ty_at c.passed.0.now c.passed.1.0), align_ty (model_in c.passed.0.now) (ty_at c.passed.0.now c.passed.1.0)) c.passed.1.1.0.now r w.1.1.0)
  pub type_classes : Ensures cb_type_classes.ended (λ M 𝓤 𝓛. cb_type_classes.clauses 𝓛)
      (λ c r w. Fills classes_read c.passed.0.now (question_order c.passed.0.now c.passed.1.0) (classes_of (model_in c.passed.0.now) (ty_at c.passed.0.now c.passed.1.0))
      c.passed.1.1.0.now r w.1.1.0)
  pub member_run : Ensures cb_member_run.ended (λ M 𝓤 𝓛. cb_member_run.clauses 𝓛)
      (λ c r w. GivesPart members_read c.passed.0.now (question_order c.passed.0.now c.passed.1.0) (members c.passed.0.now c.passed.1.0) r w.1.1.0)
  pub member_offsets_lem : Ensures cb_member_offsets.ended (λ M 𝓤 𝓛. cb_member_offsets.clauses 𝓛)
      (λ c r w. OffsetsFlat c.passed.0.now c.passed.1.0 c.passed.1.1.0.now r w.1.1.0)
  pub layout_of_lem : Ensures cb_layout_of.ended (λ M 𝓤 𝓛. cb_layout_of.clauses 𝓛)
      (λ c r w. Fills layout_read c.passed.0.now (check_order c.passed.0.now) (summary_of (layout_of c.passed.0.now), arguments_in c.passed.0.now) c.passed.1.0.now r w.1.0)
  pub lay_out : Ensures cb_lay_out.ended (λ M 𝓤 𝓛. cb_lay_out.clauses 𝓛)
      (λ c r w. LaysOutFlat c.passed.0.now c.passed.1.0.now c.passed.1.1.0.now r w.1.0 w.1.1.0)
  pub write_listing : Ensures cb_write_listing.ended (λ M 𝓤 𝓛. cb_write_listing.clauses 𝓛) (λ c r w. Lists c.passed.0.now c.passed.1.0.now r w.1.0)
  pub place_values : Ensures cb_place_values.ended (λ M 𝓤 𝓛. cb_place_values.clauses 𝓛)
      (λ c r w. PlacesFlat c.passed.0.now c.passed.1.0 c.passed.1.1.0.now c.passed.1.1.1.0.now c.passed.1.1.1.1.0.now c.passed.1.1.1.1.1.0.now
      c.passed.1.1.1.1.1.1.0.now r w.1.1.1.1.1.1.0 w.1.1.1.0 w.1.1.1.1.0 w.1.1.1.1.1.0)
  pub gather_values : Ensures cb_gather_values.ended (λ M 𝓤 𝓛. cb_gather_values.clauses 𝓛)
      (λ c r w. GathersFlat c.passed.0.now c.passed.1.0.now c.passed.1.1.0.now c.passed.1.1.1.0.now c.passed.1.1.1.1.0.now c.passed.1.1.1.1.1.0.now
      r w.1.1.1.1.1.0 w.1.1.1.1.0)
  pub put_returned : Ensures cb_put_returned.ended (λ M 𝓤 𝓛. cb_put_returned.clauses 𝓛)
      (λ c r w. PutsFlat c.passed.0.now c.passed.1.0 c.passed.1.1.0.now c.passed.1.1.1.0.now c.passed.1.1.1.1.0.now r w.1.1.1.0 w.1.1.1.1.0)
  pub take_returned : Ensures cb_take_returned.ended (λ M 𝓤 𝓛. cb_take_returned.clauses 𝓛)
      (λ c r w. TakesFlat c.passed.0.now c.passed.1.0.now c.passed.1.1.0.now c.passed.1.1.1.0.now c.passed.1.1.1.1.0.now r w.1.1.1.1.0 w.1.1.1.0)
  pub new_station_lem : Ensures cb_new_station.ended (λ M 𝓤 𝓛. cb_new_station.clauses 𝓛) (λ c r w. station_meant r ≡ new_station)
  pub attach : Ensures cb_attach.ended (λ M 𝓤 𝓛. cb_attach.clauses 𝓛)
      (λ c r w. AttachesFlat c.passed.0.now c.passed.1.0.now c.passed.1.1.0.now r w.0 w.1.0)
  pub detach : Ensures cb_detach.ended (λ M 𝓤 𝓛. cb_detach.clauses 𝓛) (λ c r w. DetachesFlat c.passed.0.now c.passed.1.0.now r w.0 w.1.0)
  pub change : Ensures cb_change.ended (λ M 𝓤 𝓛. cb_change.clauses 𝓛)
      (λ c r w. ChangesFlat c.passed.0.now c.passed.1.0.now c.passed.1.1.0.now r w.0 w.1.0)
  pub open_walk_lem : Ensures cb_open_walk.ended (λ M 𝓤 𝓛. cb_open_walk.clauses 𝓛)
      (λ c r w. OpensFlat c.passed.0.now c.passed.1.0.now c.passed.1.1.0.now r w.1.1.0)
  pub step : Ensures cb_step.ended (λ M 𝓤 𝓛. cb_step.clauses 𝓛)
      (λ c r w. StepsFlat c.passed.0.now c.passed.1.0.now c.passed.1.1.0.now
      (asking c.passed.1.1.1.0.now c.passed.1.1.1.1.0.now c.passed.1.1.1.1.1.0 c.passed.1.1.1.1.1.1.0.now) r w.1.1.0 w.1.1.1.1.1.1.0)
  pub show : Ensures cb_show.ended (λ M 𝓤 𝓛. cb_show.clauses 𝓛)
      (λ c r w. ShowsFlat c.passed.0.now c.passed.1.0.now c.passed.1.1.0.now
      (asking c.passed.1.1.1.0.now c.passed.1.1.1.1.0.now c.passed.1.1.1.1.1.0 []) r w.1.1.1.1.1.1.0)

-- ---- two calls: the demand's sentences

-- an accepted placing, and a gathering on the images that it left, with a buffer as long as the values
pub record Back (c : Made cb_place_values.ended) (w : Lasts cb_place_values.ended c.lifetimes c.passed) (e : Made cb_gather_values.ended) : Type 0 where
  pub description : e.passed.0.now ≡ c.passed.0.now
  pub registers : e.passed.1.0.now ≡ w.1.1.1.0
  pub upper : e.passed.1.1.0.now ≡ w.1.1.1.1.0
  pub stack : e.passed.1.1.1.0.now ≡ w.1.1.1.1.1.0
  pub values : length e.passed.1.1.1.1.0.now ≡ length c.passed.1.1.0.now

-- B9, "Values placed and gathered back are the same bytes"
abbrev pub GathersBack : Type 2
GathersBack =
    (c : Made cb_place_values.ended) (r : Res (cb_place_values.ended).signature c.lifetimes) (w : Lasts cb_place_values.ended c.lifetimes c.passed)
    → Admits cb_place_values.ended (λ M 𝓤 𝓛. cb_place_values.clauses 𝓛) c r w → r.number ≡ 0 → c.passed.1.0 < 2 ^ 64
    → (e : Made cb_gather_values.ended) (q : Res (cb_gather_values.ended).signature e.lifetimes) (v : Lasts cb_gather_values.ended e.lifetimes e.passed)
    → Admits cb_gather_values.ended (λ M 𝓤 𝓛. cb_gather_values.clauses 𝓛) e q v → Back c w e
    → (q.number ≡ 0) × ((v.1.1.1.1.1.0.hidden ≡ cond (hidden c.passed.0.now) c.passed.1.0 0) × (v.1.1.1.1.0 ≡ c.passed.1.1.0.now))

-- C4, "different lists never give the same register and stack images", nor the same with the upper image among them: two accepted calls of placing with one description and one hidden address
abbrev pub NeverTheSame : Type 2
NeverTheSame =
    (c e : Made cb_place_values.ended) (r : Res (cb_place_values.ended).signature c.lifetimes) (w : Lasts cb_place_values.ended c.lifetimes c.passed)
    (q : Res (cb_place_values.ended).signature e.lifetimes) (v : Lasts cb_place_values.ended e.lifetimes e.passed)
    → Admits cb_place_values.ended (λ M 𝓤 𝓛. cb_place_values.clauses 𝓛) c r w → Admits cb_place_values.ended (λ M 𝓤 𝓛. cb_place_values.clauses 𝓛) e q v
    → r.number ≡ 0 → q.number ≡ 0 → e.passed.0.now ≡ c.passed.0.now → e.passed.1.0 ≡ c.passed.1.0
    → w.1.1.1.0 ≡ v.1.1.1.0 → w.1.1.1.1.0 ≡ v.1.1.1.1.0 → w.1.1.1.1.1.0 ≡ v.1.1.1.1.1.0 → c.passed.1.1.0.now ≡ e.passed.1.1.0.now

-- request 2026-02, "Putting then taking gives the same value, those six bytes apart": an accepted putting, and a taking from the images that it left
pub record TakenBack (c : Made cb_put_returned.ended) (w : Lasts cb_put_returned.ended c.lifetimes c.passed) (e : Made cb_take_returned.ended) : Type 0 where
  pub description : e.passed.0.now ≡ c.passed.0.now
  pub image : e.passed.1.0.now ≡ w.1.1.1.0
  pub upper : e.passed.1.1.0.now ≡ w.1.1.1.1.0
  pub value : length e.passed.1.1.1.0.now ≡ length c.passed.1.1.0.now

abbrev pub TakesBack : Type 2
TakesBack =
    (c : Made cb_put_returned.ended) (r : Res (cb_put_returned.ended).signature c.lifetimes) (w : Lasts cb_put_returned.ended c.lifetimes c.passed)
    → Admits cb_put_returned.ended (λ M 𝓤 𝓛. cb_put_returned.clauses 𝓛) c r w → r.number ≡ 0 → c.passed.1.0 < 2 ^ 64
    → (e : Made cb_take_returned.ended) (q : Res (cb_take_returned.ended).signature e.lifetimes) (v : Lasts cb_take_returned.ended e.lifetimes e.passed)
    → Admits cb_take_returned.ended (λ M 𝓤 𝓛. cb_take_returned.clauses 𝓛) e q v → TakenBack c w e
    → (q.number ≡ 0)
    × ((v.1.1.1.1.0.hidden ≡ cond (in_memory (return_place c.passed.0.now)) c.passed.1.0 0) × (v.1.1.1.0 ≡ trimmed (return_place c.passed.0.now) c.passed.1.1.0.now))

-- ---- a history of calls

-- what a C host keeps: a station's record, its seat, and walk records; and what that means
pub record HostDesk : Type 0 where
  pub station : Station
  pub seat : List ℕ
  pub walks : ℕ → Walk

abbrev pub desk_meant : HostDesk → Desk
desk_meant k = record { station = station_meant k.station; seat = k.seat; walks = λ i. walk_meant (k.walks i) }

-- an admitted call of cb_attach on the desk k, with the description d, answers n and leaves the desk l
pub record AttachDone (k : HostDesk) (d : List ℕ) (n : ℕ) (l : HostDesk) : Type 2 where
  pub made : Made cb_attach.ended
  pub result : Res (cb_attach.ended).signature made.lifetimes
  pub last : Lasts cb_attach.ended made.lifetimes made.passed
  pub admitted : Admits cb_attach.ended (λ M 𝓤 𝓛. cb_attach.clauses 𝓛) made result last
  pub station : made.passed.0.now ≡ k.station
  pub seat : made.passed.1.0.now ≡ k.seat
  pub description : made.passed.1.1.0.now ≡ d
  pub number : n ≡ result.number
  pub left : l ≡ record { station = last.0; seat = last.1.0; walks = k.walks }

pub record DetachDone (k : HostDesk) (n : ℕ) (l : HostDesk) : Type 2 where
  pub made : Made cb_detach.ended
  pub result : Res (cb_detach.ended).signature made.lifetimes
  pub last : Lasts cb_detach.ended made.lifetimes made.passed
  pub admitted : Admits cb_detach.ended (λ M 𝓤 𝓛. cb_detach.clauses 𝓛) made result last
  pub station : made.passed.0.now ≡ k.station
  pub seat : made.passed.1.0.now ≡ k.seat
  pub number : n ≡ result.number
  pub left : l ≡ record { station = last.0; seat = last.1.0; walks = k.walks }

pub record ChangeDone (k : HostDesk) (d : List ℕ) (n : ℕ) (l : HostDesk) : Type 2 where
  pub made : Made cb_change.ended
  pub result : Res (cb_change.ended).signature made.lifetimes
  pub last : Lasts cb_change.ended made.lifetimes made.passed
  pub admitted : Admits cb_change.ended (λ M 𝓤 𝓛. cb_change.clauses 𝓛) made result last
  pub station : made.passed.0.now ≡ k.station
  pub seat : made.passed.1.0.now ≡ k.seat
  pub description : made.passed.1.1.0.now ≡ d
  pub number : n ≡ result.number
  pub left : l ≡ record { station = last.0; seat = last.1.0; walks = k.walks }

-- the records with w under the name i
abbrev pub with_record : (ℕ → Walk) → ℕ → Walk → ℕ → Walk
with_record ws i w j = cond (eqb i j) w (ws j)

-- cb_open_walk into the record i, cb_step of it
pub record OpenDone (k : HostDesk) (i n : ℕ) (l : HostDesk) : Type 2 where
  pub made : Made cb_open_walk.ended
  pub result : Res (cb_open_walk.ended).signature made.lifetimes
  pub last : Lasts cb_open_walk.ended made.lifetimes made.passed
  pub admitted : Admits cb_open_walk.ended (λ M 𝓤 𝓛. cb_open_walk.clauses 𝓛) made result last
  pub station : made.passed.0.now ≡ k.station
  pub seat : made.passed.1.0.now ≡ k.seat
  pub walk : made.passed.1.1.0.now ≡ k.walks i
  pub number : n ≡ result.number
  pub left : l ≡ record { station = k.station; seat = k.seat; walks = with_record k.walks i last.1.1.0 }

pub record StepDone (k : HostDesk) (i : ℕ) (a : Ask) (n : ℕ) (l : HostDesk) : Type 2 where
  pub made : Made cb_step.ended
  pub result : Res (cb_step.ended).signature made.lifetimes
  pub last : Lasts cb_step.ended made.lifetimes made.passed
  pub admitted : Admits cb_step.ended (λ M 𝓤 𝓛. cb_step.clauses 𝓛) made result last
  pub station : made.passed.0.now ≡ k.station
  pub seat : made.passed.1.0.now ≡ k.seat
  pub walk : made.passed.1.1.0.now ≡ k.walks i
  pub asked : asking made.passed.1.1.1.0.now made.passed.1.1.1.1.0.now made.passed.1.1.1.1.1.0 made.passed.1.1.1.1.1.1.0.now ≡ a
  pub number : n ≡ result.number
  pub left : l ≡ record { station = k.station; seat = k.seat; walks = with_record k.walks i last.1.1.0 }

-- cb_show, which has no out buffer: it answers what the history's show and its number answer, and leaves the desk
pub record ShowDone (k : HostDesk) (i : ℕ) (a : Ask) (n : ℕ) (l : HostDesk) : Type 2 where
  pub made : Made cb_show.ended
  pub result : Res (cb_show.ended).signature made.lifetimes
  pub last : Lasts cb_show.ended made.lifetimes made.passed
  pub admitted : Admits cb_show.ended (λ M 𝓤 𝓛. cb_show.clauses 𝓛) made result last
  pub station : made.passed.0.now ≡ k.station
  pub seat : made.passed.1.0.now ≡ k.seat
  pub walk : made.passed.1.1.0.now ≡ k.walks i
  pub registers : made.passed.1.1.1.0.now ≡ a.registers
  pub stack : made.passed.1.1.1.1.0.now ≡ a.stack
  pub asked : made.passed.1.1.1.1.1.0 ≡ a.asked
  pub number : n ≡ result.number
  pub left : l ≡ k

-- the host writes a record of its own making over one of its records: no call of the bridge
pub record WriteDone (k : HostDesk) (i : ℕ) (w : Standing) (n : ℕ) (l : HostDesk) : Type 2 where
  pub record_made : Walk
  pub meant : walk_meant record_made ≡ w
  pub number : n ≡ 0
  pub left : l ≡ record { station = k.station; seat = k.seat; walks = with_record k.walks i record_made }

-- one call of a history, made by a C host
abbrev pub Done : HostDesk → Call → ℕ → HostDesk → Type 2
Done k (attaching d b) n l = AttachDone k d n l
Done k detaching n l = DetachDone k n l
Done k (changing d b) n l = ChangeDone k d n l
Done k (opening i) n l = OpenDone k i n l
Done k (stepping i a) n l = StepDone k i a n l
Done k (showing i a) n l = ShowDone k i a n l
Done k (numbering i a) n l = ShowDone k i a n l
Done k (writing i w) n l = WriteDone k i w n l

-- many, and what each answered
pub data Played : HostDesk → List Call → List ℕ → HostDesk → Type 2 where
  nothing : (k : HostDesk) → Played k [] [] k
  then : (k m l : HostDesk) (c : Call) (cs : List Call) (n : ℕ) (ns : List ℕ) → Done k c n m → Played m cs ns l → Played k (c ∷ cs) (n ∷ ns) l

-- every history of admitted calls is the history that condition C speaks of: the same desk at its end, and the same answers
abbrev pub PlaysHistory : Type 2
PlaysHistory = (k l : HostDesk) (cs : List Call) (ns : List ℕ) → Played k cs ns l → (desk_meant l ≡ calls kcb (desk_meant k) cs) × (ns ≡ answers kcb (desk_meant k) cs)
