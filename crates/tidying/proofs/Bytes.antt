-- Where the tidy bytes hold what. Assumes nothing.
use mathlib.Core.Path.{◌≡◌, refl, sym, ap, ◌∙◌}
use mathlib.Core.List.{List, [], ◌∷◌, ◌++◌, append_assoc, map}
use Prim.Native.Nat.{ℕ, zero, suc, ◌+◌, ◌*◌, ◌/◌, ◌%◌, ◌≤◌, ◌<◌}
use native.Mathlib.Omega.{arith}
use lib.ListN.{length, drop, length-append, get_or-append}
use lib.Seq.{get_or-append-add, get_or-drop, drop-append-add, drop-append-le, drop-cons}
use Rattle.description.specs.Description.{byte_at, types_in, flags_in, named_in, arguments_in, return_in, members_in, kind_at, a_at, count_at, member_at, argument_at}
use Rattle.types.specs.Tree.{Ty, Tys, basic, none, more}
use Rattle.tidying.specs.Call.{Call}
use Rattle.tidying.specs.Numbering.{index_of}
use Rattle.tidying.specs.Ordered.{at}
use Rattle.tidying.specs.Tidy.{members_of, many_of, separate, start_of, kind_of, second_of, count_of, records_of, numbers_of, runs_of, return_number, head_of, tidy_by}

pub length-records : (table : List Ty) (m : ℕ) (l : List Ty) → length (records_of table m l) ≡ 4 * length l
unfolding records_of
length-records table m [] = refl
length-records table m (t ∷ l) = omega (arith, length-records table (m + many_of (members_of t)) l)

pub length-numbers : (table : List Ty) (ts : Tys) → length (numbers_of table ts) ≡ many_of ts
unfolding numbers_of
length-numbers table none = refl
length-numbers table (more t ts) = ap suc (length-numbers table ts)

pub length_runs : (table l : List Ty) → length (runs_of table l) ≡ separate l
unfolding runs_of separate
length_runs table [] = refl
length_runs table (t ∷ l) = length-append (numbers_of table (members_of t)) (runs_of table l) ∙ omega (arith, length-numbers table (members_of t), length_runs table l)

pub drop-records : (table : List Ty) (m : ℕ) (l : List Ty) (k : ℕ) → k ≤ length l → drop (4 * k) (records_of table m l) ≡ records_of table (m + start_of l k) (drop k l)
unfolding records_of separate
drop-records table m l zero h = let q : m + 0 ≡ m = omega arith in rw q
drop-records table m [] (suc k) h = absurd (omega arith)
drop-records table m (t ∷ l) (suc k) h =
    let q : 4 * suc k ≡ suc (suc (suc (suc (4 * k)))) = omega arith in
    let p : m + (many_of (members_of t) + start_of l k) ≡ m + many_of (members_of t) + start_of l k = omega arith in
    rw (q, p) (drop-records table (m + many_of (members_of t)) l k (omega arith))

pub drop-runs : (table l : List Ty) (k : ℕ) → k ≤ length l → drop (start_of l k) (runs_of table l) ≡ runs_of table (drop k l)
unfolding runs_of separate
drop-runs table l zero h = refl
drop-runs table [] (suc k) h = absurd (omega arith)
drop-runs table (t ∷ l) (suc k) h =
    rw (← length-numbers table (members_of t)) (drop-append-add (numbers_of table (members_of t)) (runs_of table l) (start_of l k) ∙ drop-runs table l k (omega arith))

separate-take : (l : List Ty) (k : ℕ) → start_of l k ≤ separate l
unfolding separate
separate-take l zero = omega arith
separate-take [] (suc k) = omega arith
separate-take (t ∷ l) (suc k) = omega (arith, separate-take l k)

start-low : (table : List Ty) (k : ℕ) → start_of table k ≤ length (runs_of table table)
start-low table k = omega (arith, length_runs table table, separate-take table k)

run-byte : (table : List Ty) (t : Ty) (l : List Ty) (later : List ℕ) (j : ℕ) → j < many_of (members_of t) → byte_at (runs_of table (t ∷ l) ++ later) j ≡ byte_at (numbers_of table (members_of t)) j
unfolding runs_of
run-byte table t l later j h =
    rw (append_assoc (numbers_of table (members_of t)) (runs_of table l) later) (get_or-append (numbers_of table (members_of t)) (runs_of table l ++ later) 0 j (omega (arith, length-numbers table (members_of t))))

map_at : (f : Ty → ℕ) (l : List Ty) (j : ℕ) → j < length l → byte_at (map f l) j ≡ f (at l j)
map_at f [] j h = absurd (omega arith)
map_at f (t ∷ l) zero h = refl
map_at f (t ∷ l) (suc j) h = map_at f l j (omega arith)

module _ (table : List Ty) (c : Call) where
  -- the bytes behind the header, behind the records, and behind the members
  rest : List ℕ
  rest = records_of table 0 table ++ (runs_of table table ++ map (index_of table) c.arguments)

  behind-head : (i : ℕ) → byte_at (tidy_by table c) (11 + i) ≡ byte_at rest i
  unfolding tidy_by rest
  behind-head i = get_or-append-add (head_of table c) rest i 0

  pub types-tidy : types_in (tidy_by table c) ≡ length table
  unfolding tidy_by
  types-tidy = refl

  pub flags-tidy : flags_in (tidy_by table c) ≡ c.flags
  unfolding tidy_by
  flags-tidy = refl

  pub named-tidy : named_in (tidy_by table c) ≡ c.named
  unfolding tidy_by
  named-tidy = refl

  pub arguments-tidy : arguments_in (tidy_by table c) ≡ length c.arguments
  unfolding tidy_by
  arguments-tidy = refl

  pub return_tidy : return_in (tidy_by table c) ≡ return_number table c.returns
  unfolding tidy_by
  return_tidy = refl

  pub members-tidy : members_in (tidy_by table c) ≡ separate table
  unfolding tidy_by
  members-tidy = refl

  -- byte j of record k
  module _ (k : ℕ) (l : k < length table) where
    record_byte : (j : ℕ) → j < 4 → byte_at (tidy_by table c) (11 + 4 * k + j) ≡ byte_at (records_of table (start_of table k) (at table k ∷ drop (suc k) table)) j
    unfolding rest
    record_byte j h =
        let q : 11 + 4 * k + j ≡ 11 + (4 * k + j) = omega arith in
        let p : start_of table k ≡ 0 + start_of table k = omega arith in
        rw (q, p, ← drop-cons table k (basic 0) l)
        (behind-head (4 * k + j)
        ∙ get_or-append (records_of table 0 table) (runs_of table table ++ map (index_of table) c.arguments) 0 (4 * k + j) (omega (arith, length-records table 0 table))
        ∙ sym (get_or-drop (4 * k) (records_of table 0 table) j 0)
        ∙ ap (λ (x : List ℕ). byte_at x j) (drop-records table 0 table k (omega arith)))

    pub kind-tidy : kind_at (tidy_by table c) k ≡ kind_of (at table k)
    unfolding kind_at records_of
    kind-tidy = let q : 11 + 4 * k ≡ 11 + 4 * k + 0 = omega arith in rw q (record_byte 0 (omega arith))

    pub second-tidy : a_at (tidy_by table c) k ≡ second_of table (start_of table k) (at table k)
    unfolding a_at records_of
    second-tidy = record_byte 1 (omega arith)

    pub count-tidy : count_at (tidy_by table c) k ≡ count_of (at table k)
    unfolding count_at records_of
    count-tidy =
        let q : 11 + 4 * k + 2 + 1 ≡ 11 + 4 * k + 3 = omega arith in
        rw (q, record_byte 2 (omega arith), record_byte 3 (omega arith)) (omega arith)

    pub low-tidy : byte_at (tidy_by table c) (11 + 4 * k + 2) ≡ count_of (at table k) % 256
    unfolding records_of
    low-tidy = record_byte 2 (omega arith)

    pub high-tidy : byte_at (tidy_by table c) (11 + 4 * k + 3) ≡ count_of (at table k) / 256
    unfolding records_of
    high-tidy = record_byte 3 (omega arith)

    -- member j of type k
    pub member-tidy : (j : ℕ) → j < many_of (members_of (at table k)) → member_at (tidy_by table c) (start_of table k + j) ≡ byte_at (numbers_of table (members_of (at table k))) j
    unfolding member_at rest
    member-tidy j h =
        let q : 11 + 4 * length table + (start_of table k + j) ≡ 11 + (4 * length table + (start_of table k + j)) = omega arith in
        rw (types-tidy, q)
        (behind-head (4 * length table + (start_of table k + j))
        ∙ rw (← length-records table 0 table)
        (get_or-append-add (records_of table 0 table) (runs_of table table ++ map (index_of table) c.arguments) (start_of table k + j) 0
        ∙ sym (get_or-drop (start_of table k) (runs_of table table ++ map (index_of table) c.arguments) j 0)
        ∙ run))
      where
        run : byte_at (drop (start_of table k) (runs_of table table ++ map (index_of table) c.arguments)) j ≡ byte_at (numbers_of table (members_of (at table k))) j
        run =
            rw (drop-append-le (start_of table k) (runs_of table table) (map (index_of table) c.arguments) (start-low table k), drop-runs table table k (omega arith), drop-cons table k (basic 0) l)
            (run-byte table (at table k) (drop (suc k) table) (map (index_of table) c.arguments) j h)

  -- argument j
  pub argument-tidy : (j : ℕ) → j < length c.arguments → argument_at (tidy_by table c) j ≡ index_of table (at c.arguments j)
  unfolding argument_at rest
  argument-tidy j h =
      let q : 11 + 4 * length table + separate table + j ≡ 11 + (4 * length table + (separate table + j)) = omega arith in
      rw (types-tidy, members-tidy, q)
      (behind-head (4 * length table + (separate table + j))
      ∙ rw (← length-records table 0 table, ← length_runs table table)
      (get_or-append-add (records_of table 0 table) (runs_of table table ++ map (index_of table) c.arguments) (length (runs_of table table) + j) 0
      ∙ get_or-append-add (runs_of table table) (map (index_of table) c.arguments) j 0
      ∙ map_at (index_of table) c.arguments j h))
