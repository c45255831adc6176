-- What the table of a tidy form is sure of, read from its bytes. Assumes nothing.
use Rattle.std.specs.Prelude.{Err, Ok}
use mathlib.Core.Path.{◌≡◌, refl, sym, ap, ◌∙◌}
use mathlib.Core.Bool.{Bool, true, false, cond}
use mathlib.Core.List.{List, [], ◌∷◌}
use Prim.Native.Nat.{ℕ, zero, suc, ◌+◌, ◌≤◌, ◌<◌}
use native.Mathlib.Omega.{arith}
use borrow.Author.Tests.{eqb-true}
use lib.Dec.{ltb, eqb}
use lib.ListN.{length}
use Rattle.description.specs.Description.{types_in, kind_at, a_at}
use Rattle.form.proofs.Form.{accepted-counts}
use Rattle.types.specs.Tree.{Ty, basic, array, struct, union}
use Rattle.types.specs.Decode.{ty_at}
use Rattle.types.specs.Wrong.{refusal_for}
use Rattle.types.proofs.Large.{accepted-form}
use Rattle.units.specs.declared.Bytes.{Bytes}
use Rattle.uses.proofs.Uses.{accepted-types}
use Rattle.layout.proofs.Verdict.{accepted-uses}
use Rattle.tidying.specs.Call.{Call, call_of}
use Rattle.tidying.specs.Numbering.{index_of, table_of}
use Rattle.tidying.specs.Ordered.{at, Ordered}
use Rattle.tidying.specs.Tidy.{start_of, members_of, many_of, separate, kind_of, second_of, count_of, tidy_by, tidy_of}
use Rattle.tidying.specs.Asks.{run_length}
use Rattle.tidying.specs.Answers.{tidied, length_refusal, length_answer}
use Rattle.tidying.specs.Statements.{runs_before, TidyTable, Tidiable}
use Rattle.tidying.proofs.Reached.{table-right}
use Rattle.tidying.proofs.Bytes.{types-tidy, members-tidy, kind-tidy, second-tidy, count-tidy}
use Rattle.tidying.proofs.Decoded.{type-said}
use Rattle.tidying.proofs.Known.{table-no_more}
use Rattle.tidying.proofs.Accepted.{length-tidy, types-low, tidy-call}
use Rattle.tidying.proofs.Laid.{many-call}
use Rattle.tidying.proofs.Answering.{length-accepted, length-few}

start-more : (l : List Ty) (k : ℕ) → k < length l → start_of l (suc k) ≡ start_of l k + many_of (members_of (at l k))
unfolding separate
start-more [] k h = absurd (omega arith)
start-more (t ∷ l) zero h = omega arith
start-more (t ∷ l) (suc k) h = omega (arith, start-more l k (omega arith))

start-all : (l : List Ty) → start_of l (length l) ≡ separate l
unfolding separate
start-all [] = refl
start-all (t ∷ l) = omega (arith, start-all l)

-- the members of a type, by its kind and count
run-of : (t : Ty) → cond (ltb (kind_of t) 2) 0 (count_of t) ≡ many_of (members_of t)
run-of (basic c) = refl
run-of (array t n) = refl
run-of (struct ts) = refl
run-of (union ts) = refl

second_group : (table : List Ty) (m : ℕ) (t : Ty) → 2 ≤ kind_of t → second_of table m t ≡ m
second_group table m (basic c) h = absurd (omega arith)
second_group table m (array t n) h = absurd (omega arith)
second_group table m (struct ts) h = refl
second_group table m (union ts) h = refl

module _ (table : List Ty) (o : Ordered table) (c : Call) where
  before : (k : ℕ) → k ≤ length table → runs_before (tidy_by table c) k ≡ start_of table k
  unfolding runs_before run_length separate
  before zero h = refl
  before (suc k) h =
      rw (kind-tidy table c k h, count-tidy table c k h, run-of (at table k)) (ap (λ (n : ℕ). n + many_of (members_of (at table k))) (before k (omega arith)) ∙ sym (start-more table k h))

  once : (i j : ℕ) → i < length table → j < length table → ty_at (tidy_by table c) i ≡ ty_at (tidy_by table c) j → i ≡ j
  once i j l m e = sym (o.once i l) ∙ ap (index_of table) (sym (type-said table o c i l) ∙ e ∙ type-said table o c j m) ∙ o.once j m

  runs : (k : ℕ) → k < length table → 2 ≤ kind_at (tidy_by table c) k → a_at (tidy_by table c) k ≡ runs_before (tidy_by table c) k
  runs k l h = second-tidy table c k l ∙ second_group table (start_of table k) (at table k) (omega (arith, h, kind-tidy table c k l)) ∙ sym (before k (omega arith))

pub tidy-table : (d : List ℕ) → Tidiable d → TidyTable d
unfolding tidy_of
tidy-table d t =
    let right = accepted-uses d t.accepted in
    let table = table_of (call_of d) in
    let o = (table-right (call_of d)).ordered in
    let many : types_in (tidied d) ≡ length table = types-tidy table (call_of d) in
    record {
      reached = ap (λ (c : Call). length (table_of c)) (tidy-call d right) ∙ sym many;
      room = omega (arith, many, table-no_more d right);
      once = λ i j l m e. once table o (call_of d) i j (omega (arith, l, many)) (omega (arith, m, many)) e;
      runs = λ k l h. runs table o (call_of d) k (omega (arith, l, many)) h;
      members = members-tidy table (call_of d) ∙ sym (start-all table) ∙ sym (before table o (call_of d) (length table) (omega arith)) ∙ ap (runs_before (tidied d)) (sym many);
    }

-- "at most 586"
pub tidied-short : (d : List ℕ) → Tidiable d → length (tidied d) ≤ 586
unfolding tidy_of
tidied-short d t =
    let right = accepted-uses d t.accepted in
    omega (arith, length-tidy (table_of (call_of d)) (call_of d), types-low d right, t.room, many-call d, accepted-counts d (accepted-form d (accepted-types d right)))

answered : (d : List ℕ) (b : Bool) → eqb (length_refusal d) 0 ≡ b → length_answer d ≡ cond b (Ok (record { 0 = length (tidied d) })) (Err (refusal_for d (length_refusal d)))
unfolding length_answer
answered d b q = rw q

pub answer-short : (d : List ℕ) (n : Bytes) → length_answer d ≡ Ok n → n.0 ≤ 586
answer-short d n e = by (eqb (length_refusal d) 0) refl
  where
    by : (b : Bool) → eqb (length_refusal d) 0 ≡ b → n.0 ≤ 586
    by true q =
        let z = eqb-true (length_refusal d) 0 q in
        let s : Ok n ≡ Ok (record { 0 = length (tidied d) }) = sym e ∙ answered d true q in
        let f : n.0 ≡ length (tidied d) = cc in
        omega (arith, f, tidied-short d (record { accepted = length-accepted d z; room = length-few d z }))
    by false q = absurd (let s : Ok n ≡ Err (refusal_for d (length_refusal d)) = sym e ∙ answered d false q in let f : ◌≡◌ {A = ℕ} 0 1 = cc in omega arith)
