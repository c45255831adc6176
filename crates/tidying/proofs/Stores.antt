-- Writing the tidy bytes one after the other. Assumes nothing.
use mathlib.Core.Path.{◌≡◌, refl, sym, ap, ◌∙◌}
use mathlib.Core.Bool.{Bool, true, false}
use mathlib.Core.List.{List, [], ◌∷◌, ◌++◌, append_assoc}
use Prim.Native.Nat.{ℕ, zero, suc, ◌+◌, ◌*◌, ◌/◌, ◌%◌, ◌≤◌, ◌<◌}
use native.Mathlib.Numerals.{add-one}
use native.Mathlib.Omega.{arith}
use borrow.Author.Tests.{eq-eqb, eqb-true, not-false, lt-ltb, le-ltb}
use lib.Dec.{eqb, leb}
use Rattle.std.proofs.lemmas.List.{append-nil, length-take-le, length-drop}
use lib.ListN.{length, get_or, take, drop}
use borrow.Rule.Slice.PartMut.{put_mid, same_len_mid}
use Rattle.std.proofs.lemmas.Slice.{take-put_mid}
use lib.Seq.{take-suc, take_all}
use Rattle.description.specs.Description.{byte_at, types_in, arguments_in, kind_at, a_at, count_at, member_at, argument_at, Whole, model_in}
use Rattle.types.specs.Tree.{Ty, Tys, basic, array, group}
use Rattle.types.specs.Decode.{tys_from, ty_at}
use Rattle.types.specs.Asks.{Sized}
use Rattle.types.proofs.Records.{View, v0, v1, v2, view}
use Rattle.types.proofs.Trees.{sized-ruled, at-basic, at-array, at-group}
use Rattle.types.proofs.Large.{accepted-form, accepted-sized}
use Rattle.form.specs.Conditions.{broken_record, broken_basic}
use Rattle.form.proofs.Form.{or_none, accepted-counts, accepted-whole}
use Rattle.uses.specs.Uses.{uses_refusal}
use Rattle.uses.proofs.Uses.{accepted-types, accepted-typed}
use Rattle.tidying.specs.Call.{call_of}
use Rattle.tidying.specs.Numbering.{index_of, table_of}
use Rattle.tidying.specs.Ordered.{at}
use Rattle.tidying.specs.Tidy.{start_of, members_of, many_of, separate, kind_of, second_of, count_of, numbers_of, return_number, tidy_by, tidy_of}
use Rattle.tidying.specs.Asks.{Has, Numbers, AllNumbered, Written, Stands, run_length, AskRun, second_at}
use Rattle.tidying.proofs.Bytes.{types-tidy, members-tidy, kind-tidy, second-tidy, low-tidy, high-tidy, member-tidy, argument-tidy}
use Rattle.tidying.proofs.Laid.{many-call, flags-call, named-call, argument-call}
use Rattle.tidying.proofs.Accepted.{length-tidy, many-from, start-next}
use Rattle.tidying.proofs.Numbers.{tabled-length, tabled-at, numbers-few, numbers-low}
use Rattle.tidying.proofs.Completing.{kind-top, kind-is, count-is}

-- a part more
take-part : (bytes part : List ℕ) (from : ℕ) → from + length part ≤ length bytes → ((i : ℕ) → i < length part → get_or part i 0 ≡ get_or bytes (from + i) 0) → take (from + length part) bytes ≡ take from bytes ++ part
take-part bytes [] from l h = let q : from + 0 ≡ from = omega arith in rw (q, append-nil (take from bytes))
take-part bytes (x ∷ part) from l h =
    let q : from + suc (length part) ≡ from + 1 + length part = omega arith in
    let z : x ≡ get_or bytes from 0 = h 0 (omega arith) ∙ (let p : from + 0 ≡ from = omega arith in rw p) in
    rw q (take-part bytes part (from + 1) (omega (arith, l)) (λ i m. h (suc i) (omega arith) ∙ (let p : from + suc i ≡ from + 1 + i = omega arith in rw p))
    ∙ rw (add-one from, take-suc bytes from 0 (omega (arith, l)), ← z) (append_assoc (take from bytes) (x ∷ []) part))

pub write_part : (bytes out part : List ℕ) (from k m : ℕ) → Written bytes from out → Stands bytes part from → length part ≡ k → m ≡ from + k → Written bytes m (put_mid from k out part)
write_part bytes out part from k m w h e q = record {
  size = same_len_mid from k out part (e ∙ sym (length-take-le k (drop from out) (omega (arith, length-drop from out, e, w.size, h.room)))) ∙ w.size;
  same =
      take-put_mid from k out part m (omega (arith, q, e)) (omega (arith, w.size, h.room))
      ∙ rw w.same (sym (take-part bytes part from h.room h.same) ∙ (let z : from + length part ≡ m = omega (arith, e, q) in rw z));
}

-- how long a part is
pub part_length : (out : List ℕ) (from k n : ℕ) → from + k ≤ length out → n ≡ k → length (take n (drop from out)) ≡ k
part_length out from k n l e = rw e (length-take-le k (drop from out) (omega (arith, length-drop from out, l)))

pub write_none : (bytes out : List ℕ) → length out ≡ length bytes → Written bytes 0 out
write_none bytes out e = record { size = e; same = refl }

pub write_all : (bytes out : List ℕ) (from : ℕ) → Written bytes from out → from ≡ length bytes → out ≡ bytes
write_all bytes out from w e =
    sym (take_all from out (omega (arith, e, w.size))) ∙ w.same ∙ take_all from bytes (omega (arith, e))

basic-count : (d : List ℕ) (k : ℕ) → kind_at d k ≡ 0 → broken_record d k ≡ false → count_at d k ≡ 0
unfolding broken_record broken_basic
basic-count d k e h = eqb-true (count_at d k) 0 (not-false _ (or_none (leb 17 (a_at d k)) _ (rw (eq-eqb (kind_at d k) 0 e) at h)).1)

numbers-at : (d : List ℕ) (table : List Ty) (a n i : ℕ) → i < n → byte_at (numbers_of table (tys_from (ty_at d) d a n)) i ≡ index_of table (ty_at d (member_at d (a + i)))
unfolding numbers_of tys_from
numbers-at d table a zero i h = absurd (omega arith)
numbers-at d table a (suc n) zero h = let q : a + 0 ≡ a = omega arith in rw q
numbers-at d table a (suc n) (suc i) h = let q : a + suc i ≡ a + 1 + i = omega arith in rw q (numbers-at d table (a + 1) n i (omega arith))

-- ---- what stands where in the tidy bytes, in terms of the numbers

module _ (d new old : List ℕ) (n : ℕ) (all : AllNumbered d new old n) where
  s : Numbers d new old n
  s = all.numbers

  table : List Ty
  table = table_of (call_of d)

  whole : Whole d
  whole = accepted-whole d (accepted-form d (accepted-types d all.numbers.right))

  pub write_many : length (table_of (call_of d)) ≡ n
  write_many = ap length (sym all.is) ∙ tabled-length d old n

  pub write_low : (n ≤ 64) × ((types_in d ≤ 64) × (arguments_in d ≤ 64))
  write_low = (omega (arith, numbers-few d new old n all.numbers, numbers-low d new old n all.numbers), (numbers-low d new old n all.numbers, omega (arith, accepted-counts d (accepted-form d (accepted-types d all.numbers.right)))))

  pub write_length : length (tidy_of (call_of d)) ≡ 11 + 4 * n + separate (table_of (call_of d)) + arguments_in d
  unfolding tidy_of
  write_length = length-tidy (table_of (call_of d)) (call_of d) ∙ omega (arith, write_many, many-call d)

  -- a numbered type
  pub number_at : (k : ℕ) → k < types_in d → Has new k → get_or new k 0 ≡ index_of (table_of (call_of d)) (ty_at d k)
  number_at k l h = (all.numbers.news k l h).0 ∙ ap (λ (t : List Ty). index_of t (ty_at d k)) all.is

  pub number_small : (k : ℕ) → k < types_in d → Has new k → get_or new k 0 < 64
  number_small k l h = omega (arith, all.numbers.news k l h, write_low)

  -- argument i
  pub argument-small : (i : ℕ) → i < arguments_in d → (argument_at d i < 64) × (get_or new (argument_at d i) 0 < 64)
  argument-small i l =
      let b = (accepted-typed d all.numbers.right).below i l in
      (omega (arith, b, write_low), number_small (argument_at d i) b (all.arguments i l))

  pub argument-byte : (i : ℕ) → i < arguments_in d → get_or new (argument_at d i) 0 ≡ byte_at (tidy_of (call_of d)) (11 + 4 * n + separate (table_of (call_of d)) + i)
  unfolding tidy_of argument_at
  argument-byte i l =
      number_at (argument_at d i) ((accepted-typed d all.numbers.right).below i l) (all.arguments i l)
      ∙ ap (index_of (table_of (call_of d))) (sym (argument-call d i l))
      ∙ sym (argument-tidy (table_of (call_of d)) (call_of d) i (omega (arith, l, many-call d)))
      ∙ rw (types-tidy (table_of (call_of d)) (call_of d), members-tidy (table_of (call_of d)) (call_of d), write_many)

  -- record j
  module _ (j : ℕ) (l : j < n) where
    known : get_or old j 0 < types_in d
    known = all.numbers.olds j l

    sized : Sized (model_in d) d (get_or old j 0)
    sized = accepted-sized d (accepted-types d all.numbers.right) (get_or old j 0) known

    pub old-is : at (table_of (call_of d)) j ≡ ty_at d (get_or old j 0)
    old-is = rw (← all.is) (tabled-at d old n j l)

    pub old-low : (get_or old j 0 < types_in d) × (get_or old j 0 < 64)
    old-low = (known, omega (arith, known, write_low))

    in_table : j < length (table_of (call_of d))
    in_table = omega (arith, l, write_many)

    -- the kind
    pub kind-byte : kind_at d (get_or old j 0) ≡ byte_at (tidy_of (call_of d)) (11 + 4 * j)
    unfolding tidy_of kind_at
    kind-byte = kind-is d (get_or old j 0) sized ∙ ap kind_of (sym old-is) ∙ sym (kind-tidy (table_of (call_of d)) (call_of d) j in_table)

    -- the run
    pub many_is : 2 ≤ kind_at d (get_or old j 0) → count_at d (get_or old j 0) ≡ many_of (members_of (at (table_of (call_of d)) j))
    many_is two = rw (old-is, at-group d (get_or old j 0) sized two) (sym (group-many (eqb (kind_at d (get_or old j 0)) 3) (tys_from (ty_at d) d (a_at d (get_or old j 0)) (count_at d (get_or old j 0))) ∙ many-from (ty_at d) d (a_at d (get_or old j 0)) (count_at d (get_or old j 0))))
      where
        group-many : (u : Bool) (ts : Tys) → many_of (members_of (group u ts)) ≡ many_of ts
        group-many true ts = refl
        group-many false ts = refl

    pub many-none : kind_at d (get_or old j 0) < 2 → many_of (members_of (at (table_of (call_of d)) j)) ≡ 0
    many-none low = by (view (kind_at d (get_or old j 0)))
      where
        by : View (kind_at d (get_or old j 0)) → many_of (members_of (at (table_of (call_of d)) j)) ≡ 0
        by (v0 e) = rw (old-is, at-basic d (get_or old j 0) sized e)
        by (v1 e) = rw (old-is, at-array d (get_or old j 0) sized e)
        by (v2 e) = absurd (omega (arith, e, low))

    pub run_room : start_of (table_of (call_of d)) j + many_of (members_of (at (table_of (call_of d)) j)) ≤ separate (table_of (call_of d))
    run_room = start-next (table_of (call_of d)) j in_table

    -- its second byte
    pub second-basic : kind_at d (get_or old j 0) ≡ 0 → a_at d (get_or old j 0) ≡ byte_at (tidy_of (call_of d)) (11 + 4 * j + 1)
    unfolding tidy_of a_at
    second-basic e =
        let q : at (table_of (call_of d)) j ≡ basic (a_at d (get_or old j 0)) = old-is ∙ at-basic d (get_or old j 0) sized e in
        sym (second-tidy (table_of (call_of d)) (call_of d) j in_table ∙ rw q)

    element-has : kind_at d (get_or old j 0) ≡ 1 → Has new (a_at d (get_or old j 0))
    element-has e = (all.numbers.parts (get_or old j 0) known (all.numbers.done j l)).element e

    element-known : kind_at d (get_or old j 0) ≡ 1 → a_at d (get_or old j 0) < types_in d
    element-known e = omega (arith, known, (sized-ruled d (get_or old j 0) sized).element e)

    pub element-small : kind_at d (get_or old j 0) ≡ 1 → (a_at d (get_or old j 0) < 64) × (get_or new (a_at d (get_or old j 0)) 0 < 64)
    element-small e = (omega (arith, element-known e, write_low), number_small (a_at d (get_or old j 0)) (element-known e) (element-has e))

    pub second-array : kind_at d (get_or old j 0) ≡ 1 → get_or new (a_at d (get_or old j 0)) 0 ≡ byte_at (tidy_of (call_of d)) (11 + 4 * j + 1)
    unfolding tidy_of a_at
    second-array e =
        let q : at (table_of (call_of d)) j ≡ array (ty_at d (a_at d (get_or old j 0))) (count_at d (get_or old j 0)) = old-is ∙ at-array d (get_or old j 0) sized e in
        number_at (a_at d (get_or old j 0)) (element-known e) (element-has e) ∙ sym (second-tidy (table_of (call_of d)) (call_of d) j in_table ∙ rw q)

    pub second_group : 2 ≤ kind_at d (get_or old j 0) → start_of (table_of (call_of d)) j ≡ byte_at (tidy_of (call_of d)) (11 + 4 * j + 1)
    unfolding tidy_of a_at
    second_group two =
        let q : at (table_of (call_of d)) j ≡ group (eqb (kind_at d (get_or old j 0)) 3) (tys_from (ty_at d) d (a_at d (get_or old j 0)) (count_at d (get_or old j 0))) = old-is ∙ at-group d (get_or old j 0) sized two in
        sym (second-tidy (table_of (call_of d)) (call_of d) j in_table ∙ rw q (second-of (eqb (kind_at d (get_or old j 0)) 3) (tys_from (ty_at d) d (a_at d (get_or old j 0)) (count_at d (get_or old j 0)))))
      where
        second-of : (u : Bool) (ts : Tys) → second_of (table_of (call_of d)) (start_of (table_of (call_of d)) j) (group u ts) ≡ start_of (table_of (call_of d)) j
        second-of true ts = refl
        second-of false ts = refl

    -- its count
    pub count_same : count_at d (get_or old j 0) ≡ count_of (at (table_of (call_of d)) j)
    count_same = by (view (kind_at d (get_or old j 0)))
      where
        by : View (kind_at d (get_or old j 0)) → count_at d (get_or old j 0) ≡ count_of (at (table_of (call_of d)) j)
        by (v0 e) = rw (old-is, at-basic d (get_or old j 0) sized e) (no_count e)
          where
            no_count : kind_at d (get_or old j 0) ≡ 0 → count_at d (get_or old j 0) ≡ 0
            no_count e = basic-count d (get_or old j 0) e (sized.right (get_or old j 0) (omega arith))
        by (v1 e) = rw old-is (count-is d (get_or old j 0) sized (omega (arith, e)))
        by (v2 e) = rw old-is (count-is d (get_or old j 0) sized (omega (arith, e)))

    pub low_byte : count_at d (get_or old j 0) % 256 ≡ byte_at (tidy_of (call_of d)) (11 + 4 * j + 2)
    unfolding tidy_of
    low_byte = rw count_same (sym (low-tidy (table_of (call_of d)) (call_of d) j in_table))

    pub high_byte : count_at d (get_or old j 0) / 256 ≡ byte_at (tidy_of (call_of d)) (11 + 4 * j + 3)
    unfolding tidy_of
    high_byte = rw count_same (sym (high-tidy (table_of (call_of d)) (call_of d) j in_table))

    -- its members
    module _ (two : 2 ≤ kind_at d (get_or old j 0)) where
      members-are : members_of (at (table_of (call_of d)) j) ≡ tys_from (ty_at d) d (a_at d (get_or old j 0)) (count_at d (get_or old j 0))
      members-are = rw (old-is, at-group d (get_or old j 0) sized two) (grouped (eqb (kind_at d (get_or old j 0)) 3) (tys_from (ty_at d) d (a_at d (get_or old j 0)) (count_at d (get_or old j 0))))
        where
          grouped : (u : Bool) (ts : Tys) → members_of (group u ts) ≡ ts
          grouped true ts = refl
          grouped false ts = refl

      pub member-small : (i : ℕ) → i < count_at d (get_or old j 0) → (member_at d (a_at d (get_or old j 0) + i) < 64) × (get_or new (member_at d (a_at d (get_or old j 0) + i)) 0 < 64)
      member-small i m =
          let b : member_at d (a_at d (get_or old j 0) + i) < types_in d = omega (arith, known, (sized-ruled d (get_or old j 0) sized).member two (a_at d (get_or old j 0) + i) (omega arith) (omega arith)) in
          (omega (arith, b, write_low), number_small (member_at d (a_at d (get_or old j 0) + i)) b ((all.numbers.parts (get_or old j 0) known (all.numbers.done j l)).member two (a_at d (get_or old j 0) + i) (omega arith) (omega arith)))

      pub member-byte : (i : ℕ) → i < count_at d (get_or old j 0) → get_or new (member_at d (a_at d (get_or old j 0) + i)) 0 ≡ byte_at (tidy_of (call_of d)) (11 + 4 * n + start_of (table_of (call_of d)) j + i)
      unfolding tidy_of member_at
      member-byte i m =
          let b : member_at d (a_at d (get_or old j 0) + i) < types_in d = omega (arith, known, (sized-ruled d (get_or old j 0) sized).member two (a_at d (get_or old j 0) + i) (omega arith) (omega arith)) in
          let h = (all.numbers.parts (get_or old j 0) known (all.numbers.done j l)).member two (a_at d (get_or old j 0) + i) (omega arith) (omega arith) in
          let q : 11 + 4 * n + start_of (table_of (call_of d)) j + i ≡ 11 + 4 * n + (start_of (table_of (call_of d)) j + i) = omega arith in
          number_at (member_at d (a_at d (get_or old j 0) + i)) b h
          ∙ sym (numbers-at d (table_of (call_of d)) (a_at d (get_or old j 0)) (count_at d (get_or old j 0)) i m)
          ∙ ap (λ (ts : Tys). byte_at (numbers_of (table_of (call_of d)) ts) i) (sym members-are)
          ∙ sym (member-tidy (table_of (call_of d)) (call_of d) j in_table i (omega (arith, m, many_is two)))
          ∙ rw (types-tidy (table_of (call_of d)) (call_of d), write_many, q)

-- ---- what the functions ask

pub run_none : (d : List ℕ) (k : ℕ) → kind_at d k < 2 → run_length d k ≡ 0
unfolding run_length
run_none d k h = rw (lt-ltb (kind_at d k) 2 h)

pub run-some : (d : List ℕ) (k : ℕ) → 2 ≤ kind_at d k → run_length d k ≡ count_at d k
unfolding run_length
run-some d k h = rw (le-ltb (kind_at d k) 2 h)

start-suc : (l : List Ty) (j : ℕ) → j < length l → start_of l (suc j) ≡ start_of l j + many_of (members_of (at l j))
unfolding separate
start-suc [] j h = absurd (omega arith)
start-suc (t ∷ l) zero h = omega arith
start-suc (t ∷ l) (suc j) h = omega (arith, start-suc l j (omega arith))

start-step : (l : List Ty) (j : ℕ) → j < length l → start_of l (j + 1) ≡ start_of l j + many_of (members_of (at l j))
start-step l j h = rw (add-one j) (start-suc l j h)

start-end : (l : List Ty) (j : ℕ) → j ≡ length l → start_of l j ≡ separate l
start-end l j e = rw (take_all j l (omega (arith, e)))

-- these bytes of a record stand there
four_stand : (bytes : List ℕ) (from a b c e : ℕ) → from + 4 ≤ length bytes → a ≡ byte_at bytes from → b ≡ byte_at bytes (from + 1) → c ≡ byte_at bytes (from + 2) → e ≡ byte_at bytes (from + 3)
    → Stands bytes (a ∷ b ∷ c ∷ e ∷ []) from
four_stand bytes from a b c e l p q r s = record { room = l; same = by }
  where
    by : (i : ℕ) → i < 4 → get_or (a ∷ b ∷ c ∷ e ∷ []) i 0 ≡ get_or bytes (from + i) 0
    by zero h = let z : from + 0 ≡ from = omega arith in rw z p
    by (suc zero) h = q
    by (suc (suc zero)) h = r
    by (suc (suc (suc zero))) h = s
    by (suc (suc (suc (suc i)))) h = absurd (omega arith)

eleven_stand : (bytes : List ℕ) (a b c e f g h i j k l : ℕ) → 11 ≤ length bytes
    → a ≡ byte_at bytes 0 → b ≡ byte_at bytes 1 → c ≡ byte_at bytes 2 → e ≡ byte_at bytes 3 → f ≡ byte_at bytes 4 → g ≡ byte_at bytes 5
    → h ≡ byte_at bytes 6 → i ≡ byte_at bytes 7 → j ≡ byte_at bytes 8 → k ≡ byte_at bytes 9 → l ≡ byte_at bytes 10
    → Stands bytes (a ∷ b ∷ c ∷ e ∷ f ∷ g ∷ h ∷ i ∷ j ∷ k ∷ l ∷ []) 0
eleven_stand bytes a b c e f g h i j k l long p0 p1 p2 p3 p4 p5 p6 p7 p8 p9 p10 = record { room = omega (arith, long); same = by }
  where
    by : (m : ℕ) → m < 11 → get_or (a ∷ b ∷ c ∷ e ∷ f ∷ g ∷ h ∷ i ∷ j ∷ k ∷ l ∷ []) m 0 ≡ get_or bytes (0 + m) 0
    by zero q = p0
    by (suc zero) q = p1
    by (suc (suc zero)) q = p2
    by (suc (suc (suc zero))) q = p3
    by (suc (suc (suc (suc zero)))) q = p4
    by (suc (suc (suc (suc (suc zero))))) q = p5
    by (suc (suc (suc (suc (suc (suc zero)))))) q = p6
    by (suc (suc (suc (suc (suc (suc (suc zero))))))) q = p7
    by (suc (suc (suc (suc (suc (suc (suc (suc zero)))))))) q = p8
    by (suc (suc (suc (suc (suc (suc (suc (suc (suc zero))))))))) q = p9
    by (suc (suc (suc (suc (suc (suc (suc (suc (suc (suc zero)))))))))) q = p10
    by (suc (suc (suc (suc (suc (suc (suc (suc (suc (suc (suc m))))))))))) q = absurd (omega arith)

-- ---- the second byte of a record

module _ (d new : List ℕ) (k m : ℕ) where
  pub second-high : 1 < kind_at d k → m ≡ second_at d new k m
  unfolding second_at
  second-high h = rw (lt-ltb 1 (kind_at d k) h)

  pub second-zero : kind_at d k ≡ 0 → a_at d k ≡ second_at d new k m
  unfolding second_at
  second-zero e = rw e

  pub second-one : kind_at d k ≡ 1 → get_or new (a_at d k) 0 ≡ second_at d new k m
  unfolding second_at
  second-one e = rw e

module _ (d : List ℕ) (right : uses_refusal d ≡ 0) where
  pub right_whole : Whole d
  right_whole = accepted-whole d (accepted-form d (accepted-types d right))

  pub right_few : types_in d ≤ 64
  right_few = omega (arith, accepted-counts d (accepted-form d (accepted-types d right)))

  module _ (k : ℕ) (known : k < types_in d) where
    sized-k : Sized (model_in d) d k
    sized-k = accepted-sized d (accepted-types d right) k known

    pub kind-byte_low : kind_at d k < 256
    kind-byte_low = omega (arith, kind-top d k sized-k)

    pub element_low : kind_at d k ≡ 1 → a_at d k < 64
    element_low e = omega (arith, right_few, known, (sized-ruled d k sized-k).element e)

-- ---- what the functions ask and leave

module _ (d new old : List ℕ) (n : ℕ) (all : AllNumbered d new old n) where
  run_is : (j : ℕ) → j < n → View (kind_at d (get_or old j 0)) → run_length d (get_or old j 0) ≡ many_of (members_of (at (table_of (call_of d)) j))
  run_is j l (v0 e) = run_none d (get_or old j 0) (omega (arith, e)) ∙ sym (many-none d new old n all j l (omega (arith, e)))
  run_is j l (v1 e) = run_none d (get_or old j 0) (omega (arith, e)) ∙ sym (many-none d new old n all j l (omega (arith, e)))
  run_is j l (v2 e) = run-some d (get_or old j 0) e ∙ many_is d new old n all j l e

  pub sum-none : start_of (table_of (call_of d)) 0 ≡ 0
  unfolding separate
  sum-none = refl

  pub sum-next : (j x y : ℕ) → j < n → x ≡ start_of (table_of (call_of d)) j → y ≡ run_length d (get_or old j 0) → x + y ≡ start_of (table_of (call_of d)) (j + 1)
  sum-next j x y l a b = omega (arith, a, b, run_is j l (view (kind_at d (get_or old j 0))), start-step (table_of (call_of d)) j (omega (arith, l, write_many d new old n all)))

  pub sum-end : (j x : ℕ) → j ≡ n → x ≡ start_of (table_of (call_of d)) j → x ≡ separate (table_of (call_of d))
  sum-end j x e a = a ∙ start-end (table_of (call_of d)) j (e ∙ sym (write_many d new old n all))

  pub sum-low : (j : ℕ) → j < n → start_of (table_of (call_of d)) j + run_length d (get_or old j 0) ≤ separate (table_of (call_of d))
  sum-low j l = omega (arith, run_is j l (view (kind_at d (get_or old j 0))), run_room d new old n all j l)

  -- the record of number j
  pub record_stands : (j m v : ℕ) → j < n → m ≡ start_of (table_of (call_of d)) j → v ≡ second_at d new (get_or old j 0) m
      → Stands (tidy_of (call_of d)) (kind_at d (get_or old j 0) ∷ v ∷ (count_at d (get_or old j 0) % 256) ∷ (count_at d (get_or old j 0) / 256) ∷ []) (11 + 4 * j)
  record_stands j m v l e q =
      four_stand (tidy_of (call_of d)) (11 + 4 * j) (kind_at d (get_or old j 0)) v (count_at d (get_or old j 0) % 256) (count_at d (get_or old j 0) / 256)
      (omega (arith, l, write_length d new old n all)) (kind-byte d new old n all j l) (q ∙ by (view (kind_at d (get_or old j 0)))) (low_byte d new old n all j l) (high_byte d new old n all j l)
    where
      by : View (kind_at d (get_or old j 0)) → second_at d new (get_or old j 0) m ≡ byte_at (tidy_of (call_of d)) (11 + 4 * j + 1)
      by (v0 z) = rw (← second-zero d new (get_or old j 0) m z) (second-basic d new old n all j l z)
      by (v1 z) = rw (← second-one d new (get_or old j 0) m z) (second-array d new old n all j l z)
      by (v2 z) = rw (← second-high d new (get_or old j 0) m z) (e ∙ second_group d new old n all j l z)

  -- the members of number j
  pub run-ask : (j : ℕ) → j < n → AskRun d (a_at d (get_or old j 0)) (run_length d (get_or old j 0))
  run-ask j l = by (view (kind_at d (get_or old j 0)))
    where
      none : kind_at d (get_or old j 0) < 2 → AskRun d (a_at d (get_or old j 0)) (run_length d (get_or old j 0))
      none h =
          let z = run_none d (get_or old j 0) h in
          record { whole = right_whole d all.numbers.right; fits = λ i m. absurd (omega (arith, z, m)); below = λ i m. absurd (omega (arith, z, m)) }

      by : View (kind_at d (get_or old j 0)) → AskRun d (a_at d (get_or old j 0)) (run_length d (get_or old j 0))
      by (v0 z) = none (omega (arith, z))
      by (v1 z) = none (omega (arith, z))
      by (v2 z) =
          rw (run-some d (get_or old j 0) z)
          (record {
            whole = right_whole d all.numbers.right;
            fits = λ i m. omega (arith, m, (sized-ruled d (get_or old j 0) (accepted-sized d (accepted-types d all.numbers.right) (get_or old j 0) (all.numbers.olds j l))).run z);
            below = λ i m. (member-small d new old n all j l z i m).0;
          })

  pub run_stands : (j from : ℕ) (part : List ℕ) → j < n → from ≡ 11 + 4 * n + start_of (table_of (call_of d)) j → length part ≡ run_length d (get_or old j 0)
      → ((i : ℕ) → i < length part → get_or part i 0 ≡ get_or new (member_at d (a_at d (get_or old j 0) + i)) 0) → Stands (tidy_of (call_of d)) part from
  run_stands j from part l e q h = record {
    room = omega (arith, e, q, write_length d new old n all, sum-low j l);
    same = λ i m. h i m ∙ by i (omega (arith, m, q)) (view (kind_at d (get_or old j 0)));
  }
    where
      by : (i : ℕ) → i < run_length d (get_or old j 0) → View (kind_at d (get_or old j 0)) → get_or new (member_at d (a_at d (get_or old j 0) + i)) 0 ≡ get_or (tidy_of (call_of d)) (from + i) 0
      by i m (v0 z) = absurd (omega (arith, m, run_none d (get_or old j 0) (omega (arith, z))))
      by i m (v1 z) = absurd (omega (arith, m, run_none d (get_or old j 0) (omega (arith, z))))
      by i m (v2 z) = rw e (member-byte d new old n all j l z i (omega (arith, m, run-some d (get_or old j 0) z)))

  -- the arguments
  pub arguments-ask : (i : ℕ) → i < arguments_in d → argument_at d i < 64
  arguments-ask i l = (argument-small d new old n all i l).0

  pub arguments_stand : (part : List ℕ) → length part ≡ arguments_in d → ((i : ℕ) → i < length part → get_or part i 0 ≡ get_or new (argument_at d i) 0)
      → Stands (tidy_of (call_of d)) part (11 + 4 * n + separate (table_of (call_of d)))
  arguments_stand part q h = record {
    room = omega (arith, q, write_length d new old n all);
    same = λ i m. h i m ∙ argument-byte d new old n all i (omega (arith, m, q));
  }

  -- the header
  pub head_stands : (members returns : ℕ) → members ≡ separate (table_of (call_of d)) → returns ≡ return_number (table_of (call_of d)) (call_of d).returns
      → Stands (tidy_of (call_of d)) (75 ∷ 67 ∷ 66 ∷ 1 ∷ 0 ∷ n ∷ byte_at d 6 ∷ byte_at d 7 ∷ byte_at d 8 ∷ returns ∷ members ∷ []) 0
  unfolding tidy_of tidy_by
  head_stands members returns em er =
      eleven_stand (tidy_of (call_of d)) 75 67 66 1 0 n (byte_at d 6) (byte_at d 7) (byte_at d 8) returns members (omega (arith, write_length d new old n all))
      refl refl refl refl refl (sym (write_many d new old n all)) (sym (flags-call d)) (sym (named-call d)) (sym (many-call d)) er em
