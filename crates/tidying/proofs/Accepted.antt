-- The tidy form of an accepted description is accepted. Assumes nothing.
use mathlib.Core.Path.{◌≡◌, refl, sym, ap, subst, ◌∙◌}
use mathlib.Core.Bool.{Bool, true, false, cond, not, ◌&&◌, ◌||◌}
use mathlib.Core.List.{List, [], ◌∷◌, ◌++◌, map}
use Prim.Native.Nat.{ℕ, zero, suc, ◌+◌, ◌*◌, ◌-◌, ◌≤◌, ◌<◌}
use native.Mathlib.Omega.{arith}
use borrow.Author.Tests.{le-ltb, lt-leb, eq-eqb, ne_eqb}
use lib.Dec.{eqb, ltb, leb}
use lib.ListN.{length, length-append, length-map}
use Rattle.description.specs.Description.{byte_at, types_in, flags_in, variadic_in, named_in, arguments_in, return_in, members_in, length_stated, kind_at, a_at, count_at, member_at, argument_at, model_in}
use Rattle.form.specs.Search.{first_from}
use Rattle.form.specs.Conditions.{too_short, wrong_mark, wrong_version, wrong_counts, wrong_length, wrong_record, broken_record, broken_basic, broken_array, broken_run, high_member}
use Rattle.form.proofs.Form.{or_none, accepted-exactly, accepted-counts}
use Rattle.types.specs.Tree.{Ty, Tys, basic, array, struct, union, none, more, group}
use Rattle.types.specs.Size.{size_ty}
use Rattle.types.specs.Decode.{tys_from, ty_at}
use Rattle.types.specs.Large.{large, too_large}
use Rattle.types.specs.Asks.{Sized}
use Rattle.types.proofs.Records.{View, v0, v1, v2, view}
use Rattle.types.proofs.Trees.{sized-ruled, at-basic, at-array, at-group}
use Rattle.types.proofs.Large.{accepted-form, accepted-small, accepted-sized}
use Rattle.uses.specs.Uses.{wrong_number, wrong_return, wrong_argument, wrong_use, narrow, narrow_argument, narrow_unnamed, uses_refusal}
use Rattle.uses.proofs.Uses.{accepted-types, accepted-typed, accepted-argument, accepted-return, accepted-wide, right-below}
use Rattle.layout.specs.Arguments.{is_void, area_of}
use Rattle.layout.specs.Verdict.{verdict}
use Rattle.layout.proofs.Verdict.{no_ten, accepted-uses, accepted-area}
use Rattle.tidying.specs.Call.{Returned, void, returned, Call, returned_by, call_of}
use Rattle.tidying.specs.Numbering.{index_of, table_of}
use Rattle.tidying.specs.Ordered.{at, AllBelow, Below}
use Rattle.tidying.specs.Tidy.{start_of, members_of, many_of, separate, kind_of, second_of, count_of, records_of, numbers_of, runs_of, return_number, head_of, tidy_by, tidy_of}
use Rattle.tidying.proofs.Tables.{at-index}
use Rattle.tidying.proofs.Reached.{ReturnNumbered, return_index, table-right}
use Rattle.tidying.proofs.Bytes.{length-records, length_runs, types-tidy, flags-tidy, named-tidy, arguments-tidy, return_tidy, members-tidy, kind-tidy, second-tidy, count-tidy, member-tidy, argument-tidy}
use Rattle.tidying.proofs.Decoded.{type-said, numbered-at, call-said}
use Rattle.tidying.proofs.Laid.{many-call, flags-call, named-call, argument-call, area-call, model-flags, model-call}
use Rattle.tidying.proofs.Known.{Known, table-known, table-no_more}

first-all : (f : ℕ → Bool) (k n : ℕ) → ((j : ℕ) → k ≤ j → j < k + n → f j ≡ false) → first_from f k n ≡ k + n
unfolding first_from
first-all f k zero h = omega arith
first-all f k (suc n) h = rw (h k (omega arith) (omega arith)) (first-all f (k + 1) n (λ j p q. h j (omega arith) (omega arith)) ∙ omega arith)

-- ---- what a type of an accepted description is sure of

unfoldable pub Fine : Ty → Type 0
Fine (basic c) = c < 17
Fine (array t n) = (1 ≤ n) × (n ≤ 4096)
Fine (struct ts) = 1 ≤ many_of ts
Fine (union ts) = 1 ≤ many_of ts

narrow_ty : Ty → Bool
narrow_ty (basic c) = leb c 2 || eqb c 6
narrow_ty (array t n) = false
narrow_ty (struct ts) = false
narrow_ty (union ts) = false

pub many-from : (f : ℕ → Ty) (d : List ℕ) (i n : ℕ) → many_of (tys_from f d i n) ≡ n
unfolding tys_from
many-from f d i zero = refl
many-from f d i (suc n) = ap suc (many-from f d (i + 1) n)

fine_group : (u : Bool) (ts : Tys) → 1 ≤ many_of ts → Fine (group u ts)
unfolding Fine
fine_group true ts h = h
fine_group false ts h = h

module _ (d : List ℕ) (k : ℕ) (s : Sized (model_in d) d k) where
  fine_at : Fine (ty_at d k)
  unfolding Fine
  fine_at = by (view (kind_at d k))
    where
      by : View (kind_at d k) → Fine (ty_at d k)
      by (v0 e) = rw (at-basic d k s e) ((sized-ruled d k s).code e)
      by (v1 e) = rw (at-array d k s e) ((sized-ruled d k s).elements e)
      by (v2 e) =
          rw (at-group d k s e)
          (fine_group (eqb (kind_at d k) 3) (tys_from (ty_at d) d (a_at d k) (count_at d k)) (omega (arith, many-from (ty_at d) d (a_at d k) (count_at d k), (sized-ruled d k s).members e)))

  group-no_array : (u : Bool) (ts : Tys) → eqb (kind_of (group u ts)) 1 ≡ false
  group-no_array true ts = refl
  group-no_array false ts = refl

  group-wide : (u : Bool) (ts : Tys) → narrow_ty (group u ts) ≡ false
  unfolding narrow_ty
  group-wide true ts = refl
  group-wide false ts = refl

  array_at : eqb (kind_of (ty_at d k)) 1 ≡ eqb (kind_at d k) 1
  array_at = by (view (kind_at d k))
    where
      by : View (kind_at d k) → eqb (kind_of (ty_at d k)) 1 ≡ eqb (kind_at d k) 1
      by (v0 e) = rw (at-basic d k s e, e)
      by (v1 e) = rw (at-array d k s e, e)
      by (v2 e) =
          rw (at-group d k s e) (group-no_array (eqb (kind_at d k) 3) (tys_from (ty_at d) d (a_at d k) (count_at d k)) ∙ sym (ne_eqb (kind_at d k) 1 (omega arith)))

  narrow_at : narrow d k ≡ narrow_ty (ty_at d k)
  unfolding narrow narrow_ty
  narrow_at = by (view (kind_at d k))
    where
      by : View (kind_at d k) → narrow d k ≡ narrow_ty (ty_at d k)
      by (v0 e) = rw (at-basic d k s e, e)
      by (v1 e) = rw (at-array d k s e, e)
      by (v2 e) =
          rw (at-group d k s e) (rw (ne_eqb (kind_at d k) 0 (omega arith)) (sym (group-wide (eqb (kind_at d k) 3) (tys_from (ty_at d) d (a_at d k) (count_at d k)))))

-- ---- the tidy bytes of a call

pub start-next : (l : List Ty) (k : ℕ) → k < length l → start_of l k + many_of (members_of (at l k)) ≤ separate l
unfolding separate
start-next [] k h = absurd (omega arith)
start-next (t ∷ l) zero h = omega arith
start-next (t ∷ l) (suc k) h = omega (arith, start-next l k (omega arith))

numbers-below : (table : List Ty) (k : ℕ) (ts : Tys) (j : ℕ) → j < many_of ts → AllBelow table k ts → byte_at (numbers_of table ts) j < k
unfolding numbers_of AllBelow
numbers-below table k none j h p = absurd (omega arith)
numbers-below table k (more t ts) zero h p = p.0
numbers-below table k (more t ts) (suc j) h p = numbers-below table k ts j (omega arith) p.1

pub length-tidy : (table : List Ty) (c : Call) → length (tidy_by table c) ≡ 11 + 4 * length table + separate table + length c.arguments
unfolding tidy_by
length-tidy table c =
    length-append (head_of table c) (records_of table 0 table ++ (runs_of table table ++ map (index_of table) c.arguments))
    ∙ omega (
      arith,
      length-append (records_of table 0 table) (runs_of table table ++ map (index_of table) c.arguments),
      length-append (runs_of table table) (map (index_of table) c.arguments),
      length-records table 0 table,
      length_runs table table,
      length-map c.arguments (index_of table),
    )

module _ (table : List Ty) (c : Call) where
  mark-tidy : wrong_mark (tidy_by table c) ≡ false
  unfolding wrong_mark tidy_by
  mark-tidy = refl

  version-tidy : wrong_version (tidy_by table c) ≡ false
  unfolding wrong_version tidy_by
  version-tidy = refl

  short-tidy : too_short (tidy_by table c) ≡ false
  unfolding too_short
  short-tidy = le-ltb (length (tidy_by table c)) 11 (omega (arith, length-tidy table c))

  length-right_tidy : wrong_length (tidy_by table c) ≡ false
  unfolding wrong_length
  length-right_tidy =
      let e : length (tidy_by table c) ≡ length_stated (tidy_by table c) = length-tidy table c ∙ rw (types-tidy table c, members-tidy table c, arguments-tidy table c) in
      rw (eq-eqb (length (tidy_by table c)) (length_stated (tidy_by table c)) e)

-- the record of type k
module _ (d : List ℕ) (table : List Ty) (k m : ℕ) where
  run-right : (ts : Tys) → 1 ≤ many_of ts → m + many_of ts ≤ members_in d → ((j : ℕ) → j < many_of ts → member_at d (m + j) ≡ byte_at (numbers_of table ts) j) → AllBelow table k ts
      → broken_run d k m (many_of ts) ≡ false
  unfolding broken_run
  run-right ts some room said low =
      let f : first_from (high_member d k) m (many_of ts) ≡ m + many_of ts = first-all (high_member d k) m (many_of ts) (λ j p q. high j p q) in
      rw (ne_eqb (many_of ts) 0 (omega arith), le-ltb (members_in d) (m + many_of ts) room, le-ltb (first_from (high_member d k) m (many_of ts)) (m + many_of ts) (omega (arith, f)))
    where
      high : (j : ℕ) → m ≤ j → j < m + many_of ts → leb k (member_at d j) ≡ false
      high j p q =
          let e : m + (j - m) ≡ j = omega arith in
          lt-leb k (member_at d j) (omega (arith, rw e at (said (j - m) (omega arith)), numbers-below table k ts (j - m) (omega arith) low))

  record_right : (t : Ty) → kind_at d k ≡ kind_of t → a_at d k ≡ second_of table m t → count_at d k ≡ count_of t → m + many_of (members_of t) ≤ members_in d
      → ((j : ℕ) → j < many_of (members_of t) → member_at d (m + j) ≡ byte_at (numbers_of table (members_of t)) j) → Below table k t → Fine t → broken_record d k ≡ false
  unfolding broken_record Below Fine broken_basic broken_array
  record_right (basic c) e a n r h p f = rw (e, a, n, lt-leb 17 c f)
  record_right (array t x) e a n r h p f = rw (e, a, n, lt-leb k (index_of table t) p, ne_eqb x 0 (omega (arith, f.0)), le-ltb 4096 x f.1)
  record_right (struct ts) e a n r h p f = rw (e, a, n) (run-right ts f r h p)
  record_right (union ts) e a n r h p f = rw (e, a, n) (run-right ts f r h p)

counts_same : (d e : List ℕ) → types_in e ≤ 64 → arguments_in e ≡ arguments_in d → flags_in e ≡ flags_in d → named_in e ≡ named_in d → wrong_counts d ≡ false → wrong_counts e ≡ false
unfolding wrong_counts variadic_in
counts_same d e h a v n w = rw (le-ltb 64 (types_in e) h, a, v, n) (or_none (ltb 64 (types_in d)) _ w).1

not_large : (e d : List ℕ) (k n : ℕ) → model_in e ≡ model_in d → ty_at e k ≡ ty_at d n → size_ty (model_in d) (ty_at d n) ≤ 4096 → large (model_in e) e k ≡ false
unfolding large
not_large e d k n m h l = rw (m, h) (le-ltb 4096 (size_ty (model_in d) (ty_at d n)) l)

-- ---- of an accepted description

module _ (d : List ℕ) (right : uses_refusal d ≡ 0) where
  table : List Ty
  table = table_of (call_of d)

  e : List ℕ
  e = tidy_by (table_of (call_of d)) (call_of d)

  pub types-low : length (table_of (call_of d)) ≤ 64
  types-low = omega (arith, table-no_more d right, accepted-counts d (accepted-form d (accepted-types d right)))

  known : (k : ℕ) → k < length (table_of (call_of d)) → Known d (at (table_of (call_of d)) k)
  known = table-known d right

  pub fine : (k : ℕ) → k < length (table_of (call_of d)) → Fine (at (table_of (call_of d)) k)
  fine k l = let n = known k l in rw (← n.is) (fine_at d n.number (accepted-sized d (accepted-types d right) n.number n.below))

  types-e : types_in e ≡ length (table_of (call_of d))
  unfolding e
  types-e = types-tidy (table_of (call_of d)) (call_of d)

  short-e : too_short e ≡ false
  unfolding e
  short-e = short-tidy (table_of (call_of d)) (call_of d)

  mark-e : wrong_mark e ≡ false
  unfolding e
  mark-e = mark-tidy (table_of (call_of d)) (call_of d)

  version-e : wrong_version e ≡ false
  unfolding e
  version-e = version-tidy (table_of (call_of d)) (call_of d)

  length-e : wrong_length e ≡ false
  unfolding e
  length-e = length-right_tidy (table_of (call_of d)) (call_of d)

  four : wrong_counts e ≡ false
  unfolding e
  four =
      counts_same d (tidy_by (table_of (call_of d)) (call_of d)) (omega (arith, types-low, types-tidy (table_of (call_of d)) (call_of d))) (arguments-tidy (table_of (call_of d)) (call_of d) ∙ many-call d) (flags-tidy (table_of (call_of d)) (call_of d) ∙ flags-call d) (named-tidy (table_of (call_of d)) (call_of d) ∙ named-call d)
      ((accepted-exactly d).0 (accepted-form d (accepted-types d right))).1.1.1.0

  six : wrong_record e ≡ false
  unfolding wrong_record e
  six =
      let f = first-all (broken_record e) 0 (types_in e) (λ j p q. one j (omega (arith, q, types-tidy (table_of (call_of d)) (call_of d)))) in
      le-ltb (first_from (broken_record e) 0 (types_in e)) (types_in e) (omega (arith, f))
    where
      one : (k : ℕ) → k < length (table_of (call_of d)) → broken_record e k ≡ false
      one k l =
          record_right e (table_of (call_of d)) k (start_of (table_of (call_of d)) k) (at (table_of (call_of d)) k)
          (kind-tidy (table_of (call_of d)) (call_of d) k l) (second-tidy (table_of (call_of d)) (call_of d) k l) (count-tidy (table_of (call_of d)) (call_of d) k l)
          (omega (arith, members-tidy (table_of (call_of d)) (call_of d), start-next (table_of (call_of d)) k l))
          (member-tidy (table_of (call_of d)) (call_of d) k l) ((table-right (call_of d)).ordered.parts k l) (fine k l)

  large-none : too_large (model_in e) e ≡ false
  unfolding too_large e
  large-none =
      let f = first-all (large (model_in e) e) 0 (types_in e) (λ j p q. one j (omega (arith, q, types-tidy (table_of (call_of d)) (call_of d)))) in
      le-ltb (first_from (large (model_in e) e) 0 (types_in e)) (types_in e) (omega (arith, f))
    where
      one : (k : ℕ) → k < length (table_of (call_of d)) → large (model_in e) e k ≡ false
      one k l =
          let n = known k l in
          not_large (tidy_by (table_of (call_of d)) (call_of d)) d k n.number (model-flags (tidy_by (table_of (call_of d)) (call_of d)) d (flags-tidy (table_of (call_of d)) (call_of d) ∙ flags-call d))
          (type-said (table_of (call_of d)) (table-right (call_of d)).ordered (call_of d) k l ∙ sym n.is) (accepted-small d (accepted-types d right) n.number n.below)

  -- a number in the tidy form
  module _ (t : Ty) (l : index_of (table_of (call_of d)) t < length (table_of (call_of d))) where
    same_kind : kind_at e (index_of (table_of (call_of d)) t) ≡ kind_of t
    unfolding e
    same_kind = kind-tidy (table_of (call_of d)) (call_of d) (index_of (table_of (call_of d)) t) l ∙ ap kind_of (at-index (table_of (call_of d)) t l)

    number-right : eqb (kind_of t) 1 ≡ false → wrong_number e (index_of (table_of (call_of d)) t) ≡ false
    unfolding wrong_number
    number-right h =
        rw (lt-leb (types_in e) (index_of (table_of (call_of d)) t) (omega (arith, l, low)), same_kind, h)
      where
        low : types_in e ≡ length (table_of (call_of d))
        low = types-e

    narrow-right : narrow e (index_of (table_of (call_of d)) t) ≡ narrow_ty t
    unfolding narrow narrow_ty e
    narrow-right = by t same_kind (second-tidy (table_of (call_of d)) (call_of d) (index_of (table_of (call_of d)) t) l ∙ ap (second_of (table_of (call_of d)) (start_of (table_of (call_of d)) (index_of (table_of (call_of d)) t))) (at-index (table_of (call_of d)) t l))
      where
        by : (s : Ty) → kind_at e (index_of (table_of (call_of d)) t) ≡ kind_of s → a_at e (index_of (table_of (call_of d)) t) ≡ second_of (table_of (call_of d)) (start_of (table_of (call_of d)) (index_of (table_of (call_of d)) t)) s
            → narrow e (index_of (table_of (call_of d)) t) ≡ narrow_ty s
        by (basic c) k a = rw (k, a)
        by (array s n) k a = rw k
        by (struct ss) k a = rw k
        by (union ss) k a = rw k

  -- what 8 says of a number in the description
  passed : (k : ℕ) → wrong_number d k ≡ false → k < types_in d → eqb (kind_of (ty_at d k)) 1 ≡ false
  unfolding wrong_number
  passed k h l = array_at d k (accepted-sized d (accepted-types d right) k l) ∙ (or_none (leb (types_in d) k) _ h).1

  argument-number : (j : ℕ) → j < arguments_in d → argument_at e j ≡ index_of (table_of (call_of d)) (ty_at d (argument_at d j))
  unfolding e
  argument-number j l = argument-tidy (table_of (call_of d)) (call_of d) j (omega (arith, many-call d)) ∙ ap (index_of (table_of (call_of d))) (argument-call d j l)

  argument-there : (j : ℕ) → j < arguments_in d → index_of (table_of (call_of d)) (ty_at d (argument_at d j)) < length (table_of (call_of d))
  argument-there j l = rw (← argument-call d j l) (numbered-at (table_of (call_of d)) (call_of d).arguments j (omega (arith, many-call d)) (table-right (call_of d)).arguments)

  arguments-e : arguments_in e ≡ arguments_in d
  unfolding e
  arguments-e = arguments-tidy (table_of (call_of d)) (call_of d) ∙ many-call d

  named-e : named_in e ≡ named_in d
  unfolding e
  named-e = named-tidy (table_of (call_of d)) (call_of d) ∙ named-call d

  return_is : (x : Returned) → (call_of d).returns ≡ x → return_in e ≡ return_number (table_of (call_of d)) x
  unfolding e
  return_is x q = return_tidy (table_of (call_of d)) (call_of d) ∙ ap (return_number (table_of (call_of d))) q

  return_there : (t : Ty) → (call_of d).returns ≡ returned t → index_of (table_of (call_of d)) t < length (table_of (call_of d))
  return_there t q = return_index (table_of (call_of d)) t (subst (λ (x : Returned). ReturnNumbered (table_of (call_of d)) x) q (table-right (call_of d)).returns)

  returns-by : (b : Bool) → eqb (return_in d) 255 ≡ b → (call_of d).returns ≡ cond b void (returned (ty_at d (return_in d)))
  unfolding call_of returned_by is_void
  returns-by b q = rw q

  return_right : wrong_return e ≡ false
  unfolding wrong_return
  return_right = by (eqb (return_in d) 255) refl
    where
      and-false : (b : Bool) → (b && false) ≡ false
      and-false true = refl
      and-false false = refl

      by : (b : Bool) → eqb (return_in d) 255 ≡ b → wrong_return e ≡ false
      by true q = rw (return_is void (returns-by true q))
      by false q =
          let t = returns-by false q in
          rw (return_is (returned (ty_at d (return_in d))) t, number-right (ty_at d (return_in d)) (return_there (ty_at d (return_in d)) t) (passed (return_in d) (accepted-return d right q) (right-below d (return_in d) (accepted-return d right q))))
          (and-false (not (eqb (index_of (table_of (call_of d)) (ty_at d (return_in d))) 255)))

  eight : wrong_use e ≡ false
  unfolding wrong_use
  eight =
      let f = first-all (wrong_argument e) 0 (arguments_in e) (λ j p q. one j (omega (arith, q, arguments-e))) in
      rw (return_right) (le-ltb (first_from (wrong_argument e) 0 (arguments_in e)) (arguments_in e) (omega (arith, f)))
    where
      one : (j : ℕ) → j < arguments_in d → wrong_number e (argument_at e j) ≡ false
      one j l = rw (argument-number j l) (number-right (ty_at d (argument_at d j)) (argument-there j l) (passed (argument_at d j) (accepted-argument d right j l) ((accepted-typed d right).below j l)))

  nine : narrow_unnamed e ≡ false
  unfolding narrow_unnamed
  nine =
      let f = first-all (narrow_argument e) (named_in e) (arguments_in e - named_in e) (λ j p q. one j (omega (arith, p, named-e)) (omega (arith, p, q, arguments-e))) in
      le-ltb (first_from (narrow_argument e) (named_in e) (arguments_in e - named_in e)) (arguments_in e) (omega (arith, f))
    where
      one : (j : ℕ) → named_in d ≤ j → j < arguments_in d → narrow e (argument_at e j) ≡ false
      one j n l =
          rw (argument-number j l)
          (narrow-right (ty_at d (argument_at d j)) (argument-there j l)
          ∙ sym (narrow_at d (argument_at d j) (accepted-sized d (accepted-types d right) (argument_at d j) ((accepted-typed d right).below j l)))
          ∙ accepted-wide d right j n l)

  none-nine : uses_refusal e ≡ 0
  unfolding uses_refusal
  none-nine = rw (short-e, mark-e, version-e, four, length-e, six, large-none, eight, nine)

  -- none of 1 to 9
  pub tidy-uses : uses_refusal (tidy_of (call_of d)) ≡ 0
  unfolding tidy_of e
  tidy-uses = none-nine

  -- what the tidy bytes say is the same call
  pub tidy-call : call_of (tidy_of (call_of d)) ≡ call_of d
  tidy-call = call-said (call_of d) (omega (arith, types-low))

  pub tidy-area : area_of (tidy_of (call_of d)) ≡ area_of d
  tidy-area = area-call (tidy_of (call_of d)) ∙ rw (model-call (tidy_of (call_of d)) d tidy-call, tidy-call) (sym (area-call d))

-- "the tidy form" of an accepted description is accepted
pub tidy-accepted : (d : List ℕ) → verdict d ≡ 0 → verdict (tidy_of (call_of d)) ≡ 0
tidy-accepted d h =
    no_ten (tidy_of (call_of d)) (tidy-uses d (accepted-uses d h)) (omega (arith, tidy-area d (accepted-uses d h), accepted-area d h))
