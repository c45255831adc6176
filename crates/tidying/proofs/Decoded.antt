-- The tidy bytes of a call say that call again. Assumes nothing.
use mathlib.Core.Path.{◌≡◌, refl, ap, ap₂, ◌∙◌}
use mathlib.Core.List.{List, [], ◌∷◌}
use Prim.Native.Nat.{ℕ, zero, suc, ◌+◌, ◌≤◌, ◌<◌}
use native.Mathlib.Omega.{arith}
use borrow.Author.Tests.{ne_eqb}
use lib.Dec.{eqb}
use lib.ListN.{length}
use Rattle.description.specs.Description.{byte_at, return_in, kind_at, a_at, count_at, member_at, argument_at}
use Rattle.types.specs.Tree.{Ty, Tys, basic, array, struct, union, none, more}
use Rattle.types.specs.Decode.{tys_from, written_by, ty_by, ty_at}
use Rattle.layout.specs.Arguments.{is_void}
use Rattle.tidying.specs.Call.{Returned, void, returned, Call, trees_from, returned_by, call_of}
use Rattle.tidying.specs.Numbering.{index_of, table_of}
use Rattle.tidying.specs.Ordered.{at, AllBelow, Below, Ordered}
use Rattle.tidying.specs.Tidy.{start_of, members_of, many_of, kind_of, second_of, count_of, numbers_of, return_number, tidy_by, tidy_of}
use Rattle.tidying.proofs.Tables.{at-index}
use Rattle.tidying.proofs.Reached.{Numbered, ReturnNumbered, return_index, Table, table-right}
use Rattle.tidying.proofs.Bytes.{flags-tidy, named-tidy, arguments-tidy, return_tidy, kind-tidy, second-tidy, count-tidy, member-tidy, argument-tidy}

-- a run that holds the numbers of members says those members, where f says what is below k
members-said : (table : List Ty) (f : ℕ → Ty) (d : List ℕ) (k : ℕ) → k ≤ length table → ((j : ℕ) → j < k → f j ≡ at table j) → (ts : Tys) (i : ℕ)
    → ((j : ℕ) → j < many_of ts → member_at d (i + j) ≡ byte_at (numbers_of table ts) j) → AllBelow table k ts → tys_from f d i (many_of ts) ≡ ts
unfolding tys_from numbers_of AllBelow
members-said table f d k b s none i h p = refl
members-said table f d k b s (more t ts) i h p =
    let q : i + 0 ≡ i = omega arith in
    let e : member_at d i ≡ index_of table t = rw q at (h 0 (omega arith)) in
    ap₂ more (rw e (s (index_of table t) p.0 ∙ at-index table t (omega (arith, p.0))))
    (members-said table f d k b s ts (i + 1) (λ j l. let z : i + 1 + j ≡ i + suc j = omega arith in rw z (h (suc j) (omega arith))) p.1)

-- a record that holds what a type is says the type
module _ (table : List Ty) (f : ℕ → Ty) (d : List ℕ) (k m : ℕ) (b : k ≤ length table) (s : (j : ℕ) → j < k → f j ≡ at table j) where
  record_said : (t : Ty) → kind_at d k ≡ kind_of t → a_at d k ≡ second_of table m t → count_at d k ≡ count_of t
      → ((j : ℕ) → j < many_of (members_of t) → member_at d (m + j) ≡ byte_at (numbers_of table (members_of t)) j) → Below table k t
      → written_by (eqb (kind_at d k) 0) (eqb (kind_at d k) 1) f d k ≡ t
  unfolding Below
  record_said (basic c) e a n h p = rw (e, a)
  record_said (array t x) e a n h p = rw (e, a, n) (ap (λ (y : Ty). array y x) (s (index_of table t) p ∙ at-index table t (omega (arith, p))))
  record_said (struct ts) e a n h p = rw (e, a, n) (ap struct (members-said table f d k b s ts m h p))
  record_said (union ts) e a n h p = rw (e, a, n) (ap union (members-said table f d k b s ts m h p))

module _ (table : List Ty) (o : Ordered table) (c : Call) where
  said : (n k : ℕ) → k < n → k < length table → ty_by n (tidy_by table c) k ≡ at table k
  unfolding ty_by
  said zero k h l = absurd (omega arith)
  said (suc n) k h l =
      record_said table (ty_by n (tidy_by table c)) (tidy_by table c) k (start_of table k) (omega arith) (λ j q. said n j (omega arith) (omega arith)) (at table k)
      (kind-tidy table c k l) (second-tidy table c k l) (count-tidy table c k l) (member-tidy table c k l) (o.parts k l)

  -- type k of the tidy bytes
  pub type-said : (k : ℕ) → k < length table → ty_at (tidy_by table c) k ≡ at table k
  unfolding ty_at
  type-said k l = said (suc k) k (omega arith) l

  pub index_said : (t : Ty) → index_of table t < length table → ty_at (tidy_by table c) (index_of table t) ≡ t
  index_said t h = type-said (index_of table t) h ∙ at-index table t h

pub numbered-at : (table l : List Ty) (j : ℕ) → j < length l → Numbered table l → index_of table (at l j) < length table
unfolding Numbered
numbered-at table [] j h p = absurd (omega arith)
numbered-at table (t ∷ l) zero h p = p.0
numbered-at table (t ∷ l) (suc j) h p = numbered-at table l j (omega arith) p.1

trees_said : (d : List ℕ) (l : List Ty) (i : ℕ) → ((j : ℕ) → j < length l → ty_at d (argument_at d (i + j)) ≡ at l j) → trees_from d i (length l) ≡ l
unfolding trees_from
trees_said d [] i h = refl
trees_said d (t ∷ l) i h =
    let q : i + 0 ≡ i = omega arith in
    ap₂ ◌∷◌ (rw q at (h 0 (omega arith))) (trees_said d l (i + 1) (λ j m. let z : i + 1 + j ≡ i + suc j = omega arith in rw z (h (suc j) (omega arith))))

module _ (table : List Ty) (c : Call) (r : Table c table) (few : length table ≤ 255) where
  returned-said : (x : Returned) → return_in (tidy_by table c) ≡ return_number table x → ReturnNumbered table x → returned_by (tidy_by table c) ≡ x
  unfolding returned_by is_void
  returned-said void e p = rw e
  returned-said (returned t) e p =
      let h = return_index table t p in
      rw (e, ne_eqb (index_of table t) 255 (omega (arith, h))) (ap returned (index_said table r.ordered c t h))

  arguments-said : trees_from (tidy_by table c) 0 (length c.arguments) ≡ c.arguments
  arguments-said =
      trees_said (tidy_by table c) c.arguments 0 (λ j l.
      let z : 0 + j ≡ j = omega arith in
      rw (z, argument-tidy table c j l) (index_said table r.ordered c (at c.arguments j) (numbered-at table c.arguments j l r.arguments)))

  pub said-by : call_of (tidy_by table c) ≡ c
  unfolding call_of
  said-by = rw (flags-tidy table c, named-tidy table c, arguments-tidy table c, returned-said c.returns (return_tidy table c) r.returns, arguments-said)

-- decoding the tidy bytes of a call gives the call
pub call-said : (c : Call) → length (table_of c) ≤ 255 → call_of (tidy_of c) ≡ c
unfolding tidy_of
call-said c few = said-by (table_of c) c (table-right c) few
