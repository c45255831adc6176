-- Demand 2 is met: each line cites a law. Assumes nothing.
use mathlib.Core.Path.{◌≡◌, refl, ap}
use mathlib.Core.Bool.{Bool, true, false}
use mathlib.Core.List.{List, map}
use Prim.Native.Nat.{ℕ, ◌/◌, ◌%◌, ◌<◌, ◌≤◌}
use native.Mathlib.Omega.{arith}
use borrow.Author.Tests.{eq-eqb, ne_eqb}
use lib.ListN.{length, get_or}
use Rattle.description.specs.declared.Model.{Model}
use Rattle.description.specs.declared.Model.TheVariants.{Lp64, Ilp32}
use Rattle.description.specs.Description.{byte_at, arguments_in, model_in}
use Rattle.addresses.specs.Addresses.{run}
use Rattle.types.specs.Tree.{Tys, group}
use Rattle.types.specs.Basic.{basic_size, basic_align}
use Rattle.types.specs.Size.{align_ty, align_tys, size_ty, offset_after, end_of}
use Rattle.types.proofs.Sizes.{aligns-low}
use Rattle.types.proofs.Laws.{struct-end, union_end, align-divides}
use Rattle.types.proofs.Trees.{at-basic, at-array, at-group}
use Rattle.types.proofs.Table.{filled-below, filled-past, length-filled}
use Rattle.classify.proofs.Coverage.{second_none}
use Rattle.classify.proofs.Wide.{small-classes}
use Rattle.questions.specs.Offsets.{OffsetAt, offsets_count, offsets_after}
use Rattle.questions.proofs.Questions.{answered-sized}
use Rattle.questions.proofs.Runs.{answered-shaped}
use Rattle.places.specs.Shapes.{shape_of}
use Rattle.places.specs.Statements.{RoundedUp}
use Rattle.places.proofs.Offsets.{rounded-up, area-rounded}
use Rattle.places.proofs.Returning.{return_cases_lem}
use Rattle.layout.specs.declared.placements.Placement.{Placement}
use Rattle.layout.specs.Arguments.{shape_at, shapes, returned_size, used_first, used_at, area_of}
use Rattle.layout.specs.Layout.{layout_of}
use Rattle.layout.specs.Placements.{placement_at}
use Rattle.layout.proofs.Records.{values-packed}
use Rattle.layout.specs.Lists.{list_refusal, list_count}
use Rattle.layout.proofs.Arguments.{used-none}
use Rattle.layout.proofs.Layouts.{asks_at}
use Rattle.layout.proofs.Lists.{list_room}
use Rattle.layout.proofs.Verdict.{accepted-uses}
use Rattle.layout.specs.Verdict.{verdict}
use Rattle.cases.proofs.Cases.{cases_hold}
use Rattle.cases.proofs.Listings.{listings-hold}
use Rattle.moving.specs.Images.{amd64}
use Rattle.moving.proofs.Theorems.{places_all, address_unseen, gathers_placed, places_gathered, unused_unseen, twelve_exactly}
use Rattle.moving.proofs.Amd64.{amd64-ordered}
use Rattle.station.specs.Paper.{kcb}
use Rattle.walk.proofs.Steps.{step-done}
use Rattle.walk.proofs.Agreement.{none-used}
use Rattle.promises.specs.Demand2.{extents, list_after, B1Sizes, B1Offsets, B2Classes, B3Registers, B4Stack, B5Counts, B6Returns, B7Records, B8B12Moving, B13Steps, B14Cases, Demand2}
use Rattle.promises.proofs.MemberOffsets.{as_many, members-lie, offset-below, offset-past, other-stays}
use Rattle.promises.proofs.Merging.{merges}
use Rattle.promises.proofs.Classes.{class_table_lem, basic_at_lem, cleans_up, whole_memory, closes, array_at, group_at, over_eight, whole, two_or_four, wide_or_memory, all-classed}
use Rattle.promises.proofs.Wide.{wide-named, wide-unnamed, area-strict, area-plain}
use Rattle.promises.proofs.Placements.{general-count, vector-count, generals-in_row, vectors_in-row, in_registers_lem, lacks-exactly, takes_none, lowest, room, fetches, moves, hidden-is, hidden-memory}
use Rattle.places.specs.Places.{eights}

-- ---- B1

size-rounded : (m : Model) (is_union : Bool) (ts : Tys) → RoundedUp (align_tys m ts) (end_of m ts is_union 0) (size_ty m (group is_union ts))
unfolding size_ty
size-rounded m true ts = rounded-up (align_tys m ts) (end_of m ts true 0) (aligns-low m ts)
size-rounded m false ts = rounded-up (align_tys m ts) (end_of m ts false 0) (aligns-low m ts)

extents-are : (m : Model) → map (λ code. (basic_size m code, basic_align m code)) (run 0 17) ≡ extents m
unfolding basic_size basic_align
extents-are Lp64 = refl
extents-are Ilp32 = refl

b1 : B1Sizes
unfolding model_in align_ty size_ty offset_after
b1 = record {
  lp64 = λ d e. rw (ne_eqb (byte_at d 6 / 2 % 2) 1 (λ z. omega arith));
  ilp32 = λ d e. rw (eq-eqb (byte_at d 6 / 2 % 2) 1 e);
  table = extents-are;
  is_basic_lem = λ d t a. at-basic d t (answered-sized d t a);
  is_array_lem = λ d t a. at-array d t (answered-sized d t a);
  is_group = λ d t a. at-group d t (answered-sized d t a);
  array_size = λ m t n. (refl, refl);
  member = λ x a h. rounded-up a x h;
  member_end = λ x a s h. struct-end x a h s;
  union_member = λ x a. refl;
  union_end = union_end;
  size = size-rounded;
  whole = align-divides;
}

b1_offsets : B1Offsets
unfolding offsets_after
b1_offsets = record {
  many = as_many;
  lie = members-lie;
  below = offset-below;
  past = offset-past;
  other = other-stays;
  long = λ d t list. length-filled (OffsetAt d t) (offsets_count d t (length list)) list;
}

-- ---- B2

b2 : B2Classes
b2 = record {
  table = class_table_lem;
  basic_at_lem = basic_at_lem;
  merges = merges;
  cleans_up = cleans_up;
  whole_memory = whole_memory;
  closes = closes;
  array_at = array_at;
  group_at = group_at;
  over_eight = over_eight;
  whole = whole;
  small = small-classes;
  two_or_four = two_or_four;
  wide_or_memory = wide_or_memory;
  shaped = λ d t a. answered-shaped d t a;
  second = λ d t a. second_none _ _ (answered-shaped d t a);
  class_cases_lem = all-classed;
}

-- ---- B3, B4, B5, B6

b3 : B3Registers
b3 = record {
  generals = λ d v. generals-in_row d v;
  vectors = λ d v. vectors_in-row d v;
  each = λ d i v l. in_registers_lem d v i l;
  lacks = λ d i v l. lacks-exactly d v i l;
  takes_none = λ d i o v l. takes_none d v i l o;
  wide = λ d i v l. wide-named d v i l;
  unnamed = λ d i v l. wide-unnamed d v i l;
}

area-up : (d : List ℕ) → RoundedUp (layout_of d).align.0 (used_at d (arguments_in d)).stack.0 (area_of d)
unfolding layout_of used_at area_of
area-up d = area-rounded eights (used_first d) (shapes d)

b4 : B4Stack
b4 = record {
  lowest = λ d i o v l. lowest d v i l o;
  room = λ d i o v l. room d v i l o;
  area = area-up;
  area_32 = area-strict;
  area_16 = area-plain;
  first = λ d. ap (λ u. u.stack.0) (used-none d);
}

few : (d : List ℕ) → verdict d ≡ 0 → ((used_at d (arguments_in d)).general.0 ≤ 6) × ((used_at d (arguments_in d)).vector.0 ≤ 8)
few d v =
    let all = asks_at d (accepted-uses d v) (arguments_in d) (arguments_in d) (omega arith) (omega arith) in
    (all.before.general, all.before.vector)

b5 : B5Counts
unfolding layout_of
b5 = record { general = general-count; vector = vector-count; few = few }

b6 : B6Returns
unfolding layout_of returned_size
b6 = record {
  hidden_exactly = hidden-is;
  in_memory = hidden-memory;
  takes_rdi = λ d. refl;
  return_places = return_cases_lem;
  return_size = λ d e. rw e refl;
  void_size = λ d e. rw e refl;
}

-- ---- B7

count-all : (d : List ℕ) (n : ℕ) → list_refusal d n ≡ 0 → list_count d n ≡ arguments_in d
unfolding list_count
count-all d n e = rw (eq-eqb (list_refusal d n) 0 e) refl

record_below : (d : List ℕ) (list : List Placement) (i : ℕ) (x : Placement) → list_refusal d (length list) ≡ 0 → i < arguments_in d → get_or (list_after d list) i x ≡ placement_at d i
record_below d list i x e l = rw (count-all d (length list) e) (filled-below (placement_at d) (arguments_in d) list i x (list_room d (length list) e) l)

record_past : (d : List ℕ) (list : List Placement) (i : ℕ) (x : Placement) → list_refusal d (length list) ≡ 0 → arguments_in d ≤ i → get_or (list_after d list) i x ≡ get_or list i x
record_past d list i x e l = rw (count-all d (length list) e) (filled-past (placement_at d) (arguments_in d) list i x l)

b7 : B7Records
unfolding placement_at shape_at shape_of
b7 = record {
  below = record_below;
  past = record_past;
  long = λ d list. length-filled (placement_at d) (list_count d (length list)) list;
  type = λ d i. refl;
  size = λ d i. refl;
  align = λ d i. refl;
  packed = values-packed;
}

-- ---- B8 to B14

b8 : B8B12Moving
b8 = record {
  places_all = places_all amd64 amd64-ordered;
  address_unseen = address_unseen amd64 amd64-ordered;
  gathers_placed = gathers_placed amd64 amd64-ordered;
  places_gathered = places_gathered amd64 amd64-ordered;
  unused_unseen = unused_unseen amd64 amd64-ordered;
  twelve_exactly = twelve_exactly amd64 amd64-ordered;
}

b13 : B13Steps
b13 = record {
  walk = λ s seat w a. step-done kcb s seat w a;
  starts = none-used;
  fetches = λ d i v n l. fetches d v i l n;
  moves = λ d i v l. moves d v i l;
}

b14 : B14Cases
b14 = record { layouts = cases_hold; texts = listings-hold }

pub demand_2 : Demand2
demand_2 = record {
  sizes = b1;
  offsets = b1_offsets;
  classes = b2;
  registers = b3;
  stack = b4;
  counts = b5;
  returns_places = b6;
  records = b7;
  moving = b8;
  steps = b13;
  cases_hold = b14;
}
