-- The members as code holds them are the runs of the rows, one behind the other. Assumes nothing.
use mathlib.Core.Path.{◌≡◌, refl, sym, ap, ap₂, ◌∙◌}
use mathlib.Core.List.{List, [], ◌∷◌, ◌++◌, append_assoc, append-nil}
use Prim.Native.Nat.{ℕ, zero, suc, ◌+◌, ◌≤◌}
use native.Mathlib.Omega.{arith}
use lib.ListN.{length, get_or, take, drop}
use Rattle.collecting.specs.Rows.{Row, run_of, members_in, runs_in}
use Rattle.collecting.specs.Arrays.{row_by, row_at, rows_at, Standing}
use Rattle.collecting.proofs.Rows.{part, part_length}
use Rattle.collecting.proofs.Adding.{members_step}

runs_append : (xs ys : List Row) → runs_in (xs ++ ys) ≡ runs_in xs ++ runs_in ys
unfolding runs_in
runs_append [] ys = refl
runs_append (x ∷ xs) ys = ap (λ (l : List ℕ). run_of x ++ l) (runs_append xs ys) ∙ sym (append_assoc (run_of x) (runs_in xs) (runs_in ys))

runs-snoc : (xs : List Row) (y : Row) → runs_in (xs ++ y ∷ []) ≡ runs_in xs ++ run_of y
unfolding runs_in
runs-snoc xs y = runs_append xs (y ∷ []) ∙ ap (λ (l : List ℕ). runs_in xs ++ l) (append-nil (run_of y))

-- the run of a row: none, or the part that it names
data Run (kind s c : ℕ) (x : List ℕ) : Type 0 where
  none : run_of (row_by kind s c x) ≡ [] → Run kind s c x
  some : 2 ≤ kind → run_of (row_by kind s c x) ≡ x → Run kind s c x

run-of : (kind s c : ℕ) (x : List ℕ) → kind ≤ 3 → Run kind s c x
unfolding row_by
run-of zero s c x h = none refl
run-of (suc zero) s c x h = none refl
run-of (suc (suc zero)) s c x h = some (omega arith) refl
run-of (suc (suc (suc zero))) s c x h = some (omega arith) refl
run-of (suc (suc (suc (suc k)))) s c x h = absurd (omega arith)

take_more : (a c : ℕ) (x : List ℕ) → take (a + c) x ≡ take a x ++ take c (drop a x)
take_more zero c x = let z : 0 + c ≡ c = omega arith in rw z refl
take_more (suc a) c [] = let z : suc a + c ≡ suc (a + c) = omega arith in rw z (nil c)
  where
    nil : (c : ℕ) → ◌≡◌ {A = List ℕ} [] (take c [])
    nil zero = refl
    nil (suc c) = refl
take_more (suc a) c (y ∷ x) = let z : suc a + c ≡ suc (a + c) = omega arith in rw z (ap (λ (l : List ℕ). y ∷ l) (take_more a c x))

module _ (K S C M : List ℕ) (n m : ℕ) (s : Standing K S C M n m) where
  runs_to : (k : ℕ) → k ≤ n → runs_in (rows_at K S C M k) ≡ take (members_in (rows_at K S C M k)) M
  unfolding rows_at runs_in members_in
  runs_to zero h = refl
  runs_to (suc k) h = by (run-of (get_or K k 0) (get_or S k 0) (get_or C k 0) (part M (get_or S k 0) (get_or C k 0)) (s.held.low k (omega (arith, h)))) (runs_to k (omega (arith, h))) (members_step K S C M k)
    where
      by : Run (get_or K k 0) (get_or S k 0) (get_or C k 0) (part M (get_or S k 0) (get_or C k 0)) → runs_in (rows_at K S C M k) ≡ take (members_in (rows_at K S C M k)) M
          → members_in (rows_at K S C M k ++ row_at K S C M k ∷ []) ≡ members_in (rows_at K S C M k) + length (run_of (row_at K S C M k))
          → runs_in (rows_at K S C M k ++ row_at K S C M k ∷ []) ≡ take (members_in (rows_at K S C M k ++ row_at K S C M k ∷ [])) M
      by (none e) r q =
          let z : members_in (rows_at K S C M k ++ row_at K S C M k ∷ []) ≡ members_in (rows_at K S C M k) = q ∙ ap (λ (l : List ℕ). members_in (rows_at K S C M k) + length l) e ∙ omega arith in
          runs-snoc (rows_at K S C M k) (row_at K S C M k) ∙ ap₂ (λ (x y : List ℕ). x ++ y) r e ∙ append-nil (take (members_in (rows_at K S C M k)) M) ∙ ap (λ (x : ℕ). take x M) (sym z)
      by (some g e) r q =
          let c : length (run_of (row_at K S C M k)) ≡ get_or C k 0 = ap length e ∙ part_length M (get_or S k 0) (get_or C k 0) (s.held.run k (omega (arith, h)) g) in
          let p = s.place k (omega (arith, h)) g in
          let z : members_in (rows_at K S C M k ++ row_at K S C M k ∷ []) ≡ members_in (rows_at K S C M k) + get_or C k 0 = q ∙ ap (λ (x : ℕ). members_in (rows_at K S C M k) + x) c in
          runs-snoc (rows_at K S C M k) (row_at K S C M k) ∙ ap₂ (λ (x y : List ℕ). x ++ y) r (e ∙ ap (λ (a : ℕ). part M a (get_or C k 0)) p)
          ∙ sym (take_more (members_in (rows_at K S C M k)) (get_or C k 0) M) ∙ ap (λ (x : ℕ). take x M) (sym z)

  -- the runs are the first m members
  pub runs-are : runs_in (rows_at K S C M n) ≡ take m M
  runs-are = runs_to n (omega arith) ∙ ap (λ (x : ℕ). take x M) (sym s.total)
