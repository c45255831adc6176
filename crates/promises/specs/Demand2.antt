-- Demand 2, "Condition B, layout. Reason: modules are built by ordinary compilers, and both sides must agree without talking": "Sizes, classes,
-- argument and return places and each walk step are those of the System V AMD64 supplement, LP64, as narrowed in document 01. Values placed and
-- gathered back are the same bytes. Images gathered and placed again, with their own hidden address, are the same images exactly when their unused
-- bytes are zero and each _Bool argument's byte is 0 or 1." Request 2026-06: "Demands 2 and 3 count the second image among the images". Each statement is a
-- type, under the label of docs/CONTRACTS.md; proofs/Demand2.antt proves `Demand2`. Assumes nothing: these are definitions.
use Rattle.std.specs.Prelude.{◌≡◌, ◌↔◌, ◌⊎◌, Bool, true, false, cond, not, ◌&&◌, ◌||◌, List, [], ◌∷◌, map, ℕ, zero, suc, ◌+◌, ◌*◌, ◌/◌, ◌%◌, ◌≤◌, ◌<◌, ltb, eqb, length, get_or, set, Ok, Result}
use Rattle.addresses.specs.Addresses.{run}
use Rattle.description.specs.declared.Model.{Model}
use Rattle.description.specs.declared.Model.TheVariants.{Lp64, Ilp32}
use Rattle.description.specs.Description.{byte_at, named_in, arguments_in, return_in, kind_at, a_at, count_at, member_at, argument_at, model_in}
use Rattle.types.specs.Tree.{Ty, basic, array, Tys, none, more, group}
use Rattle.types.specs.Basic.{basic_size, basic_align}
use Rattle.types.specs.Size.{align_ty, align_tys, size_ty, offset_after, end_after, end_of, widest}
use Rattle.types.specs.Offsets.{member_offsets, members_of, count}
use Rattle.types.specs.Decode.{tys_from, ty_at}
use Rattle.classes.specs.declared.Class.{Class}
use Rattle.classes.specs.declared.Class.TheVariants.{NoClass, Integer, Sse, SseUp, X87, X87Up, ComplexX87, Memory}
use Rattle.classes.specs.Classes.{same, is_x87, no_classes, merge_of, merge_all}
use Rattle.classes.specs.CleanUp.{any_memory, memory_of, clean_up}
use Rattle.classes.specs.Ups.{UpsFollow, on_stack as goes_on_stack}
use Rattle.classify.specs.Classify.{own, closed, classes_at, is_aggregate, eightbytes_of, shown, memory, classes_of}
use Rattle.classify.specs.Vectors.{vector}
use Rattle.classify.specs.Cases.{Case as ClassCase, case as class_case, cases as class_cases}
use Rattle.classify.specs.Coverage.{ClassesCover}
use Rattle.questions.specs.Questions.{question_refusal}
use Rattle.questions.specs.Offsets.{offsets_refusal, OffsetAt, offsets_after}
use Rattle.places.specs.declared.Register.{Register}
use Rattle.places.specs.declared.Register.TheVariants.{Wide}
use Rattle.places.specs.declared.ReturnPlace.TheVariants.{Memory as InMemory}
use Rattle.places.specs.Cases.{ReturnCase, returns, return_cases}
use Rattle.places.specs.Returns.{return_of, hidden_for}
use Rattle.places.specs.Places.{eights, Place, in_registers, on_stack}
use Rattle.places.specs.Recorded.{place_of}
use Rattle.places.specs.Statements.{LowestOffset, RoundedUp, Lacks, Fit, general_number, vector_number, numbers_in, kind_in}
use Rattle.layout.specs.declared.placements.Placement.{Placement}
use Rattle.layout.specs.Arguments.{shape_at, is_void, return_classes, return_place, hidden, used_first, used_at, area_of}
use Rattle.layout.specs.Verdict.{verdict}
use Rattle.layout.specs.Layout.{layout_of, layout_answer}
use Rattle.layout.specs.Placements.{placement_at}
use Rattle.layout.specs.Statements.{ValuesPacked}
use Rattle.layout.specs.Lists.{list_refusal, list_count, filled}
use Rattle.cases.specs.Cases.{Case, cases}
use Rattle.listing.specs.Listing.{listing}
use Rattle.cases.specs.Listings.{listings}
use Rattle.moving.specs.Images.{amd64}
use Rattle.moving.specs.Statements.{PlacesAll, AddressUnseen, GathersPlaced, PlacesGathered, UnusedUnseen, TwelveExactly}
use Rattle.station.specs.declared.Station.{Station}
use Rattle.station.specs.Paper.{kcb}
use Rattle.station.specs.Attachment.{described}
use Rattle.walk.specs.declared.Walk.{Walk}
use Rattle.walk.specs.Offsets.{walk_at, source_in, read_at, step}
use Rattle.walk.specs.Orders.{Ask, step_refusal}
use Rattle.walk.specs.Steps.{moved_on, bytes_at, step_walk, step_out}
use Rattle.layout.specs.declared.Layout.{Layout}
use Rattle.form.specs.declared.Refusal.{Refusal}

-- ---- B1: sizes and alignments, which `type_size`, `type_align` and every record give

-- the table, code by code: size and alignment, in document 01's model and in that of request 2026-11, "Pointers (code 15) become 4 bytes, alignment 4";
-- and request 2026-06, "Code 16 is __m256: size and alignment 32"
abbrev pub extents : Model → List (ℕ × ℕ)
extents Lp64 =
    (1, 1) ∷ (1, 1) ∷ (2, 2) ∷ (4, 4) ∷ (8, 8) ∷ (16, 16) ∷ (4, 4) ∷ (8, 8) ∷ (16, 16) ∷ (16, 16) ∷ (8, 8) ∷ (16, 16) ∷ (8, 4) ∷ (16, 8) ∷ (32, 16) ∷ (8, 8)
    ∷ (32, 32) ∷ []
extents Ilp32 =
    (1, 1) ∷ (1, 1) ∷ (2, 2) ∷ (4, 4) ∷ (8, 8) ∷ (16, 16) ∷ (4, 4) ∷ (8, 8) ∷ (16, 16) ∷ (16, 16) ∷ (8, 8) ∷ (16, 16) ∷ (8, 4) ∷ (16, 8) ∷ (32, 16) ∷ (4, 4)
    ∷ (32, 32) ∷ []

pub record B1Sizes : Type 0 where
  -- request 2026-11: "Bit 1 of byte 6 selects" ILP32. What follows is of any model, and what is said of a description d is of its own
  pub lp64 : (d : List ℕ) → byte_at d 6 / 2 % 2 ≡ 0 → model_in d ≡ Lp64
  pub ilp32 : (d : List ℕ) → byte_at d 6 / 2 % 2 ≡ 1 → model_in d ≡ Ilp32
  pub table : (m : Model) → map (λ code. (basic_size m code, basic_align m code)) (run 0 17) ≡ extents m
  -- what a type number means, by its record's kind
  pub is_basic_lem : (d : List ℕ) (t : ℕ) → question_refusal d t ≡ 0 → kind_at d t ≡ 0 → ty_at d t ≡ basic (a_at d t)
  pub is_array_lem : (d : List ℕ) (t : ℕ) → question_refusal d t ≡ 0 → kind_at d t ≡ 1 → ty_at d t ≡ array (ty_at d (a_at d t)) (count_at d t)
  pub is_group : (d : List ℕ) (t : ℕ) → question_refusal d t ≡ 0 → 2 ≤ kind_at d t
      → ty_at d t ≡ group (eqb (kind_at d t) 3) (tys_from (ty_at d) d (a_at d t) (count_at d t))
  -- "An array takes its element's alignment"
  pub array_size : (m : Model) (t : Ty) (n : ℕ) → (size_ty m (array t n) ≡ size_ty m t * n) × (align_ty m (array t n) ≡ align_ty m t)
  -- "A struct member has the lowest aligned offset after the one before": of the end so far and the member's alignment
  pub member : (end align : ℕ) → 0 < align → RoundedUp align end (offset_after false end align)
  pub member_end : (end align size : ℕ) → 0 < align → end_after false end align size ≡ offset_after false end align + size
  -- "A union's members are at 0"
  pub union_member : (end align : ℕ) → offset_after true end align ≡ 0
  pub union_end : (m : Model) (ts : Tys) → end_of m ts true 0 ≡ widest m ts
  -- "size is rounded up to the alignment", of a union, or else of a struct
  pub size : (m : Model) (is_union : Bool) (ts : Tys) → RoundedUp (align_tys m ts) (end_of m ts is_union 0) (size_ty m (group is_union ts))
  pub whole : (m : Model) (t : Ty) → size_ty m t % align_ty m t ≡ 0

-- where the members of a struct or a union lie, which `member_offsets` gives: member i is of this type
abbrev pub member_ty : List ℕ → ℕ → ℕ → Ty
member_ty d t i = ty_at d (member_at d (a_at d t + i))

-- o says where each lies
pub record MembersLie (d : List ℕ) (t : ℕ) (o : ℕ → ℕ) : Type 0 where
  -- "A struct member has the lowest aligned offset after the one before"
  pub first : kind_at d t ≡ 2 → o 0 ≡ 0
  pub next : kind_at d t ≡ 2 → (i : ℕ) → i + 1 < count_at d t → RoundedUp (align_ty (model_in d) (member_ty d t (i + 1))) (o i + size_ty (model_in d) (member_ty d t i)) (o (i + 1))
  -- "A union's members are at 0"
  pub union : kind_at d t ≡ 3 → (i : ℕ) → i < count_at d t → o i ≡ 0
  -- each is aligned, and ends within the type
  pub aligned : (i : ℕ) → i < count_at d t → o i % align_ty (model_in d) (member_ty d t i) ≡ 0
  pub within : (i : ℕ) → i < count_at d t → o i + size_ty (model_in d) (member_ty d t i) ≤ size_ty (model_in d) (ty_at d t)

pub record B1Offsets : Type 0 where
  -- there are as many offsets as members, which 11 is decided by: `count`, and the number in the type's record
  pub many : (d : List ℕ) (t : ℕ) → question_refusal d t ≡ 0 → 2 ≤ kind_at d t
      → (length (member_offsets (model_in d) (ty_at d t)) ≡ count_at d t) × (count (members_of (ty_at d t)) ≡ count_at d t)
  pub lie : (d : List ℕ) (t : ℕ) → question_refusal d t ≡ 0 → 2 ≤ kind_at d t → MembersLie d t (OffsetAt d t)
  -- what an accepted list holds at exit: an offset for each member, and behind them what stood there; a basic type and an array have no members
  pub below : (d : List ℕ) (t : ℕ) (list : List ℕ) (i x : ℕ) → offsets_refusal d t (length list) ≡ 0 → 2 ≤ kind_at d t → i < count_at d t
      → get_or (offsets_after d t list) i x ≡ OffsetAt d t i
  pub past : (d : List ℕ) (t : ℕ) (list : List ℕ) (i x : ℕ) → offsets_refusal d t (length list) ≡ 0 → 2 ≤ kind_at d t → count_at d t ≤ i
      → get_or (offsets_after d t list) i x ≡ get_or list i x
  pub other : (d : List ℕ) (t : ℕ) (list : List ℕ) → kind_at d t < 2 → offsets_after d t list ≡ list
  pub long : (d : List ℕ) (t : ℕ) (list : List ℕ) → length (offsets_after d t list) ≡ length list

-- ---- B2: classes, which `type_classes` gives

-- the table's column "Classes", code by code, of the type by itself; request 2026-06 for code 16, "classes SSE and three SSEUP"
abbrev pub class_table : List (List Class)
class_table =
    (Integer ∷ NoClass ∷ []) ∷ (Integer ∷ NoClass ∷ []) ∷ (Integer ∷ NoClass ∷ []) ∷ (Integer ∷ NoClass ∷ []) ∷ (Integer ∷ NoClass ∷ []) ∷ (Integer ∷ Integer ∷ [])
    ∷ (Sse ∷ NoClass ∷ []) ∷ (Sse ∷ NoClass ∷ []) ∷ (X87 ∷ X87Up ∷ []) ∷ (Sse ∷ SseUp ∷ []) ∷ (Sse ∷ NoClass ∷ []) ∷ (Sse ∷ SseUp ∷ [])
    ∷ (Sse ∷ NoClass ∷ []) ∷ (Sse ∷ Sse ∷ []) ∷ (ComplexX87 ∷ NoClass ∷ []) ∷ (Integer ∷ NoClass ∷ [])
    ∷ (Sse ∷ SseUp ∷ SseUp ∷ SseUp ∷ []) ∷ []

-- the same as pieces, each with the offset at which it begins: "as a struct of two" gives complex float a second piece at 4 and complex double one at 8
abbrev pub pieces : List (List (ℕ × Class))
pieces =
    ((0, Integer) ∷ []) ∷ ((0, Integer) ∷ []) ∷ ((0, Integer) ∷ []) ∷ ((0, Integer) ∷ []) ∷ ((0, Integer) ∷ []) ∷ ((0, Integer) ∷ (8, Integer) ∷ [])
    ∷ ((0, Sse) ∷ []) ∷ ((0, Sse) ∷ []) ∷ ((0, X87) ∷ (8, X87Up) ∷ []) ∷ ((0, Sse) ∷ (8, SseUp) ∷ []) ∷ ((0, Sse) ∷ []) ∷ ((0, Sse) ∷ (8, SseUp) ∷ [])
    ∷ ((0, Sse) ∷ (4, Sse) ∷ []) ∷ ((0, Sse) ∷ (8, Sse) ∷ []) ∷ ((0, ComplexX87) ∷ []) ∷ ((0, Integer) ∷ [])
    ∷ ((0, Sse) ∷ (8, SseUp) ∷ (16, SseUp) ∷ (24, SseUp) ∷ []) ∷ []

-- of n eightbytes, each starting as NO_CLASS: each piece in the eightbyte that it lies in, the type lying at offset o
abbrev pub pieces_at : ℕ → ℕ → List (ℕ × Class) → List Class
pieces_at n o [] = no_classes n
pieces_at n o (p ∷ ps) = merge_all (set (no_classes n) ((o + p.0) / 8) p.1) (pieces_at n o ps)

-- "Merging, first rule that fits: equal; one NO_CLASS gives the other; one MEMORY gives MEMORY; one INTEGER gives INTEGER; one of X87, X87UP,
-- COMPLEX_X87 gives MEMORY; else SSE": each rule where none before it fits
abbrev pub ruled : Class → Bool
ruled c = same c NoClass || (same c Memory || (same c Integer || is_x87 c))

pub record Merges (a b : Class) : Type 0 where
  pub equal : same a b ≡ true → merge_of a b ≡ a
  pub none : same a NoClass ≡ true → merge_of a b ≡ b
  pub memory : same a Memory ≡ true → merge_of a b ≡ Memory
  pub integer : (same a Integer && not (same b Memory)) ≡ true → merge_of a b ≡ Integer
  pub x87 : (is_x87 a && not (same a b || (same b NoClass || same b Integer))) ≡ true → merge_of a b ≡ Memory
  pub sse : not (same a b || (ruled a || ruled b)) ≡ true → merge_of a b ≡ Sse
  pub either_way : merge_of a b ≡ merge_of b a

-- the class before eightbyte i, NO_CLASS before the first; and an X87UP there that X87 does not precede
abbrev pub before : List Class → ℕ → Class
before cs i = get_or (NoClass ∷ cs) i NoClass

pub record UpAlone (cs : List Class) (i : ℕ) : Type 0 where
  pub up : same (get_or cs i NoClass) X87Up ≡ true
  pub alone : same (before cs i) X87 ≡ false

-- an SSEUP that neither SSE nor SSEUP precedes
abbrev pub loose : List Class → ℕ → Bool
loose cs i = same (get_or cs i NoClass) SseUp && not (same (before cs i) Sse || same (before cs i) SseUp)

-- "Then, in order: any MEMORY makes the whole MEMORY; X87UP not preceded by X87 makes the whole MEMORY; SSEUP not preceded by SSE or SSEUP becomes
-- SSE": each rule where none before it does; the whole is MEMORY with NO_CLASS behind it
pub record CleansUp (cs : List Class) : Type 0 where
  pub memory : any_memory cs ≡ true → clean_up cs ≡ memory_of cs
  pub up_alone_lem : any_memory cs ≡ false → (i : ℕ) → UpAlone cs i → clean_up cs ≡ memory_of cs
  pub settles : any_memory cs ≡ false → ((i : ℕ) → UpAlone cs i → ⊥) → (i : ℕ) → loose cs i ≡ true → get_or (clean_up cs) i NoClass ≡ Sse
  pub stays : any_memory cs ≡ false → ((i : ℕ) → UpAlone cs i → ⊥) → (i : ℕ) → loose cs i ≡ false → get_or (clean_up cs) i NoClass ≡ get_or cs i NoClass
  pub ups : UpsFollow (clean_up cs)

-- 000, 5(c), in request 2026-06's words: "after merging, any aggregate over two eightbytes whose first isn't SSE, or with a later one that isn't SSEUP, is
-- MEMORY". The aggregate has s bytes and lies at offset o of a whole with these classes: its own eightbytes are looked at
pub record Closes (o s : ℕ) (cs : List Class) : Type 0 where
  pub first : 16 < s → same (get_or (own o s cs) 0 NoClass) Sse ≡ false → closed o s cs ≡ memory_of cs
  pub later : 16 < s → (i : ℕ) → suc i < length (own o s cs) → same (get_or (own o s cs) (suc i) NoClass) SseUp ≡ false → closed o s cs ≡ memory_of cs
  -- the others are cleaned up, and so are those of one or two eightbytes
  pub vector : same (get_or (own o s cs) 0 NoClass) Sse ≡ true → ((i : ℕ) → suc i < length (own o s cs) → same (get_or (own o s cs) (suc i) NoClass) SseUp ≡ true)
      → closed o s cs ≡ clean_up cs
  pub small : s ≤ 16 → closed o s cs ≡ clean_up cs

-- classes merged one after the other, from left to right
abbrev pub merged_in : List Class → List (List Class) → List Class
merged_in sofar [] = sofar
merged_in sofar (cs ∷ rest) = merged_in (merge_all sofar cs) rest

-- where the elements of an array lie, n of s bytes each, the first at o
abbrev pub element_offsets : ℕ → ℕ → ℕ → List ℕ
element_offsets s zero o = []
element_offsets s (suc n) o = o ∷ element_offsets s n (o + s)

-- the classes of each member of a union, or else of a struct, at its own offset in a whole of n eightbytes; the aggregate lies at o, and those before end at x
unfoldable pub member_classes : Model → ℕ → Bool → Tys → ℕ → ℕ → List (List Class)
member_classes m n u none o x = []
member_classes m n u (more t ts) o x =
    classes_at m n t (o + offset_after u x (align_ty m t)) ∷ member_classes m n u ts o (end_after u x (align_ty m t) (size_ty m t))

-- what the definitions say of a case's type
abbrev pub classed : ClassCase → ClassCase
classed (class_case t cs) = class_case t (classes_of Lp64 t)

pub record B2Classes : Type 0 where
  -- the table, code by code; and a basic type wherever it lies
  pub table : (m : Model) → map (λ code. classes_of m (basic code)) (run 0 17) ≡ class_table
  pub basic_at_lem : (m : Model) (n code o : ℕ) → code < 17 → classes_at m n (basic code) o ≡ pieces_at n o (get_or pieces code [])
  pub merges : (a b : Class) → Merges a b
  pub cleans_up : (cs : List Class) → CleansUp cs
  pub whole_memory : (a : Class) (cs : List Class) → memory_of (a ∷ cs) ≡ Memory ∷ no_classes (length cs)
  pub closes : (o s : ℕ) (cs : List Class) → Closes o s cs
  -- "A type's classes come from its members', each at its offset in the whole, and theirs again from the types they name; an inner aggregate is cleaned up
  -- before it merges": an array's elements and a struct's or union's members, in their order, each with what these equations give it
  pub array_at : (m : Model) (n : ℕ) (t : Ty) (count o : ℕ)
      → classes_at m n (array t count) o ≡ closed o (size_ty m (array t count)) (merged_in (no_classes n) (map (classes_at m n t) (element_offsets (size_ty m t) count o)))
  pub group_at : (m : Model) (n : ℕ) (u : Bool) (ts : Tys) (o : ℕ)
      → classes_at m n (group u ts) o ≡ closed o (size_ty m (group u ts)) (merged_in (no_classes n) (member_classes m n u ts o 0))
  -- "over eight eightbytes is MEMORY": an aggregate. Otherwise the whole has its own eightbytes, two at least
  pub over_eight : (m : Model) (t : Ty) → is_aggregate t ≡ true → 64 < size_ty m t → classes_of m t ≡ memory
  pub whole : (m : Model) (t : Ty) → (is_aggregate t && ltb 64 (size_ty m t)) ≡ false → classes_of m t ≡ shown (classes_at m (eightbytes_of m t) t 0)
  pub small : (m : Model) (t : Ty) → size_ty m t ≤ 16 → classes_of m t ≡ classes_at m 2 t 0
  -- there are two classes, or the four of one vector register; and an aggregate over two eightbytes is MEMORY, or such a vector of 32 bytes
  pub two_or_four : (d : List ℕ) (t : ℕ) → question_refusal d t ≡ 0
      → (length (classes_of (model_in d) (ty_at d t)) ≡ 2) ⊎ (classes_of (model_in d) (ty_at d t) ≡ vector)
  pub wide_or_memory : (d : List ℕ) (t : ℕ) → question_refusal d t ≡ 0 → is_aggregate (ty_at d t) ≡ true → 16 < size_ty (model_in d) (ty_at d t)
      → (classes_of (model_in d) (ty_at d t) ≡ memory) ⊎ ((classes_of (model_in d) (ty_at d t) ≡ vector) × (size_ty (model_in d) (ty_at d t) ≡ 32))
  -- each byte of a value that goes in registers lies in an eightbyte that has a class, and there is no class behind it
  pub shaped : (d : List ℕ) (t : ℕ) → question_refusal d t ≡ 0 → ClassesCover (classes_of (model_in d) (ty_at d t)) (size_ty (model_in d) (ty_at d t))
  -- "A lone class .. with NO_CLASS second"
  pub second : (d : List ℕ) (t : ℕ) → question_refusal d t ≡ 0 → goes_on_stack (classes_of (model_in d) (ty_at d t)) ≡ false
      → (get_or (classes_of (model_in d) (ty_at d t)) 1 NoClass ≡ NoClass) ↔ (size_ty (model_in d) (ty_at d t) ≤ 8)
  -- the types of P2 to P6 and P9, those that request 2026-06 names, and others that a wrong bridge gets wrong
  pub class_cases_lem : map classed class_cases ≡ class_cases

-- ---- B3: "INTEGER takes the next of rdi .. r9; SSE the next of xmm0..xmm7 .. If any eightbyte finds no register, the whole argument goes on the
-- stack and takes none"

-- the place in the record of argument i, and the places in all records
abbrev pub place_at : List ℕ → ℕ → Place
place_at d i = place_of (placement_at d i).place

unfoldable pub places_from : List ℕ → ℕ → ℕ → List Place
places_from d i zero = []
places_from d i (suc n) = place_at d i ∷ places_from d (i + 1) n

abbrev pub all_places : List ℕ → List Place
all_places d = places_from d 0 (arguments_in d)

-- the classes of argument i
abbrev pub classes_at_place : List ℕ → ℕ → List Class
classes_at_place d i = classes_of (model_in d) (ty_at d (argument_at d i))

pub record B3Registers : Type 0 where
  -- the general registers in all records are the next ones, in order, from where the hidden address leaves off; and so are the vector registers
  pub generals : (d : List ℕ) → verdict d ≡ 0 → numbers_in general_number (all_places d) ≡ run (cond (hidden d) 1 0) (length (numbers_in general_number (all_places d)))
  pub vectors : (d : List ℕ) → verdict d ≡ 0 → numbers_in vector_number (all_places d) ≡ run 0 (length (numbers_in vector_number (all_places d)))
  -- an argument in registers has one for each eightbyte, in eightbyte order, of the kind that its class asks for
  pub each : (d : List ℕ) (i : ℕ) → verdict d ≡ 0 → i < arguments_in d → (rs : List Register) → place_at d i ≡ in_registers rs
      → (map kind_in rs ≡ (shape_at d i).kinds) × Fit (used_at d i) (shape_at d i).kinds
  -- it is on the stack exactly where its class sends it there, or where some eightbyte finds no register
  pub lacks : (d : List ℕ) (i : ℕ) → verdict d ≡ 0 → i < arguments_in d → ((o : ℕ) × (place_at d i ≡ on_stack o)) ↔ Lacks (used_at d i) (shape_at d i).kinds
  -- and then it takes no register
  pub takes_none : (d : List ℕ) (i o : ℕ) → verdict d ≡ 0 → i < arguments_in d → place_at d i ≡ on_stack o
      → ((used_at d (i + 1)).general ≡ (used_at d i).general) × ((used_at d (i + 1)).vector ≡ (used_at d i).vector)
  -- request 2026-06: "A named argument of these four classes takes one vector register"
  pub wide : (d : List ℕ) (i : ℕ) → verdict d ≡ 0 → i < arguments_in d → classes_at_place d i ≡ vector → i < named_in d → (used_at d i).vector.0 < 8
      → (place_at d i ≡ in_registers (Wide (used_at d i).vector ∷ [])) × ((used_at d (i + 1)).vector.0 ≡ (used_at d i).vector.0 + 1)
  -- "an unnamed one, structures included, is always on the stack"
  pub unnamed : (d : List ℕ) (i : ℕ) → verdict d ≡ 0 → i < arguments_in d → classes_at_place d i ≡ vector → named_in d ≤ i → (o : ℕ) × (place_at d i ≡ on_stack o)

-- ---- B4: stack offsets

-- an argument that is aligned to 32 is on the stack
pub record StrictOn (d : List ℕ) : Type 0 where
  pub argument : ℕ
  pub offset : ℕ
  pub there : argument < arguments_in d
  pub on : place_at d argument ≡ on_stack offset
  pub strict : (placement_at d argument).align.0 ≡ 32

pub record B4Stack : Type 0 where
  -- "the lowest offset, after the one before, that is a multiple of 8 and of its alignment"
  pub lowest : (d : List ℕ) (i o : ℕ) → verdict d ≡ 0 → i < arguments_in d → place_at d i ≡ on_stack o
      → LowestOffset eights (used_at d i).stack.0 (placement_at d i).align.0 o
  -- "the room it takes is rounded up to 8"
  pub room : (d : List ℕ) (i o : ℕ) → verdict d ≡ 0 → i < arguments_in d → place_at d i ≡ on_stack o
      → RoundedUp 8 (o + (placement_at d i).size.0) (used_at d (i + 1)).stack.0
  -- "The area is rounded up to 16. Offset 0 is the lowest address"; request 2026-06: "an area with a 32-byte aligned argument on it is rounded up to 32".
  -- Which of the two it is, the layout says
  pub area : (d : List ℕ) → RoundedUp (layout_of d).align.0 (used_at d (arguments_in d)).stack.0 (area_of d)
  pub area_32 : (d : List ℕ) → verdict d ≡ 0 → StrictOn d → (layout_of d).align.0 ≡ 32
  pub area_16 : (d : List ℕ) → verdict d ≡ 0 → (StrictOn d → ⊥) → (layout_of d).align.0 ≡ 16
  pub first : (d : List ℕ) → (used_at d 0).stack.0 ≡ 0

-- ---- B5: "A made-up vector or register count: demand 2, where it equals the registers in the places"

pub record B5Counts : Type 0 where
  pub general : (d : List ℕ) → verdict d ≡ 0 → (layout_of d).used.general.0 ≡ cond (hidden d) 1 0 + length (numbers_in general_number (all_places d))
  pub vector : (d : List ℕ) → verdict d ≡ 0 → (layout_of d).used.vector.0 ≡ length (numbers_in vector_number (all_places d))
  pub few : (d : List ℕ) → verdict d ≡ 0 → ((layout_of d).used.general.0 ≤ 6) × ((layout_of d).used.vector.0 ≤ 8)

-- ---- B6: "If the return type's class is MEMORY, a hidden address takes rdi first", and the return places

abbrev pub returned : ReturnCase → ReturnCase
returned (returns cs h p) = returns cs (hidden_for cs) (return_of cs)

pub record B6Returns : Type 0 where
  pub hidden_exactly : (d : List ℕ) → (hidden d ≡ true) ↔ ((is_void d ≡ false) × (same (get_or (return_classes d) 0 NoClass) Memory ≡ true))
  pub in_memory : (d : List ℕ) → (hidden d ≡ true) ↔ (return_place d ≡ InMemory)
  pub takes_rdi : (d : List ℕ) → (used_first d).general.0 ≡ cond (hidden d) 1 0
  -- "rax, rdx; xmm0, xmm1; xmm0 and its upper half; X87 st0; COMPLEX_X87 st0 and st1"; and the four classes of an __m256 in one vector register
  pub return_places : map returned return_cases ≡ return_cases
  -- the size of the returned value is its type's; void has none
  pub return_size : (d : List ℕ) → is_void d ≡ false → (layout_of d).returned.0 ≡ size_ty (model_in d) (ty_at d (return_in d))
  pub void_size : (d : List ℕ) → is_void d ≡ true → (layout_of d).returned.0 ≡ 0

-- ---- B7: "One placement record for each argument goes into the list the caller lends: type, size, alignment, and either its registers in
-- eightbyte order or its stack offset. Entries past A stay": the list as it is at exit

abbrev pub list_after : List ℕ → List Placement → List Placement
list_after d list = filled (placement_at d) (list_count d (length list)) list

pub record B7Records : Type 0 where
  pub below : (d : List ℕ) (list : List Placement) (i : ℕ) (x : Placement) → list_refusal d (length list) ≡ 0 → i < arguments_in d
      → get_or (list_after d list) i x ≡ placement_at d i
  pub past : (d : List ℕ) (list : List Placement) (i : ℕ) (x : Placement) → list_refusal d (length list) ≡ 0 → arguments_in d ≤ i
      → get_or (list_after d list) i x ≡ get_or list i x
  pub long : (d : List ℕ) (list : List Placement) → length (list_after d list) ≡ length list
  pub type : (d : List ℕ) (i : ℕ) → (placement_at d i).ty ≡ argument_at d i
  pub size : (d : List ℕ) (i : ℕ) → (placement_at d i).size.0 ≡ size_ty (model_in d) (ty_at d (argument_at d i))
  pub align : (d : List ℕ) (i : ℕ) → (placement_at d i).align.0 ≡ align_ty (model_in d) (ty_at d (argument_at d i))
  -- request 2026-07: the offset of each value, and the mark
  pub packed : (d : List ℕ) → ValuesPacked d

-- ---- B8 to B12: placing and gathering, which moving/specs/Statements.antt states, of any layout, of what the two calls answer and leave

pub record B8B12Moving : Type 0 where
  -- B8: each value byte is at its place, the hidden address in rdi where it is used, and every other byte is zero, whatever stood there
  pub places_all : PlacesAll amd64
  -- "and is otherwise not looked at"
  pub address_unseen : AddressUnseen amd64
  -- B9: "Values placed and gathered back are the same bytes"
  pub gathers_placed : GathersPlaced amd64
  -- B10: "Images gathered and placed again, with their own hidden address, are the same images exactly when their unused bytes are zero and each
  -- _Bool argument's byte is 0 or 1", and, request 2026-11, "images placed again under demand 2 need one below" 2^32 in ILP32
  pub places_gathered : PlacesGathered amd64
  -- B11: "looks at no unused byte"
  pub unused_unseen : UnusedUnseen amd64
  -- B12, where 27 does not refuse the address: "A _Bool argument's byte must be 0 or 1; one inside an aggregate may be anything"
  pub twelve_exactly : TwelveExactly amd64

-- ---- B13: each walk step is that of 3.5.7, and fetches where the layout places

pub record B13Steps : Type 0 where
  -- an accepted step leaves the record with the offsets that 3.5.7 moves on to, and the bytes that lie where 3.5.7 fetches
  pub walk : (s : Station) (seat : List ℕ) (w : Walk) (a : Ask) → step_refusal kcb s seat w a ≡ 0
      → (step_walk kcb s seat w a ≡ moved_on kcb (described s seat) w) × (step_out kcb s seat w a ≡ bytes_at kcb (described s seat) w a)
  -- "With none used they are 0, 48 and 0"
  pub starts : walk_at (record { general = record { 0 = 0 }; vector = record { 0 = 0 }; stack = record { 0 = 0 }; strict = false }) ≡ record { general = 0; vector = 48; overflow = 0 }
  -- before an unnamed argument i, 3.5.7 reads where the record of argument i says that it lies; behind any argument it moves on to where the layout goes on
  pub fetches : (d : List ℕ) (i : ℕ) → verdict d ≡ 0 → named_in d ≤ i → i < arguments_in d → read_at eights (walk_at (used_at d i)) (shape_at d i) ≡ source_in (place_at d i)
  pub moves : (d : List ℕ) (i : ℕ) → verdict d ≡ 0 → i < arguments_in d → step eights (walk_at (used_at d i)) (shape_at d i) ≡ walk_at (used_at d (i + 1))

-- ---- B14: "The cases above are proved of the definitions by a single theorem over a list of them"

-- what the definitions say of a case's bytes, the layout and all records, and what the paper says
abbrev pub derived : Case → Result Layout Refusal × List Placement
derived c = (layout_answer c.bytes, map (placement_at c.bytes) (run 0 (arguments_in c.bytes)))

abbrev pub stated : Case → Result Layout Refusal × List Placement
stated c = (Ok c.laid, c.records)

pub record B14Cases : Type 0 where
  -- the lister's case, P1 to P11 and those of request 2026-06, 000's figure 3.32 with its __m256 among them, from description bytes
  pub layouts : map derived cases ≡ map stated cases
  -- the same as the lister prints them, byte for byte
  pub texts : map (λ (c : Case). listing c.bytes) cases ≡ listings

pub record Demand2 : Type 0 where
  pub sizes : B1Sizes
  pub offsets : B1Offsets
  pub classes : B2Classes
  pub registers : B3Registers
  pub stack : B4Stack
  pub counts : B5Counts
  pub returns_places : B6Returns
  pub records : B7Records
  pub moving : B8B12Moving
  pub steps : B13Steps
  pub cases_hold : B14Cases
