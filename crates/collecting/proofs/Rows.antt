-- What the functions over rows cite. Assumes nothing.
use mathlib.Core.Path.{◌≡◌, refl, sym, ap, ap₂, ◌∙◌}
use mathlib.Core.Bool.{Bool, true, false, cond, ◌&&◌}
use mathlib.Core.List.{List, [], ◌∷◌, ◌++◌}
use mathlib.Core.Logic.{◌⊎◌, inl, inr}
use Prim.Native.Nat.{ℕ, zero, suc, ◌+◌, ◌≤◌, ◌<◌}
use native.Mathlib.Nat.{eq-or-lt_of_le}
use native.Mathlib.Omega.{arith}
use borrow.Author.Tests.{eq-eqb, ne_eqb}
use lib.Dec.{eqb}
use lib.ListN.{length, get_or, take, drop, length-append, length-drop, drop_of_length-le}
use lib.Seq.{drop-cons, length-take-le, get_or-take, get_or-drop, take-append-le, take-length}
use Rattle.collecting.specs.Rows.{Row, same_numbers, same_row, find}
use Rattle.collecting.specs.Arrays.{row_by, row_at, rows_at, Held, Given}

-- ---- runs

runs-step : (x y : List ℕ) (i : ℕ) → i < length x → i < length y → same_numbers (drop i x) (drop i y) ≡ (eqb (get_or x i 0) (get_or y i 0) && same_numbers (drop (suc i) x) (drop (suc i) y))
unfolding same_numbers
runs-step x y i p q = ap₂ same_numbers (drop-cons x i 0 p) (drop-cons y i 0 q)

abbrev pub part : List ℕ → ℕ → ℕ → List ℕ
part members a n = take n (drop a members)

pub part_length : (members : List ℕ) (a n : ℕ) → a + n ≤ length members → length (part members a n) ≡ n
part_length members a n h = length-take-le n (drop a members) (omega (arith, h, length-drop a members))

part-get : (members : List ℕ) (a n i : ℕ) → i < n → get_or (part members a n) i 0 ≡ get_or members (a + i) 0
part-get members a n i h = get_or-take n (drop a members) i 0 h ∙ get_or-drop a members i 0

module _ (members : List ℕ) (a : ℕ) (run : List ℕ) (room : a + length run ≤ length members) where
  pub runs_same : (i : ℕ) → i < length run → get_or members (a + i) 0 ≡ get_or run i 0
      → same_numbers (drop (i + 1) (part members a (length run))) (drop (i + 1) run) ≡ same_numbers (drop i (part members a (length run))) (drop i run)
  runs_same i h e =
      let z : i + 1 ≡ suc i = omega arith in
      rw z (sym (runs-step (part members a (length run)) run i (omega (arith, h, part_length members a (length run) room)) h ∙ rw (eq-eqb (get_or (part members a (length run)) i 0) (get_or run i 0) (part-get members a (length run) i h ∙ e)) refl))

  pub runs_other : (i : ℕ) → i < length run → (get_or members (a + i) 0 ≡ get_or run i 0 → ⊥) → same_numbers (drop i (part members a (length run))) (drop i run) ≡ false
  runs_other i h d =
      runs-step (part members a (length run)) run i (omega (arith, h, part_length members a (length run) room)) h
      ∙ rw (ne_eqb (get_or (part members a (length run)) i 0) (get_or run i 0) (λ e. d (sym (part-get members a (length run) i h) ∙ e))) refl

  pub runs-end : (i : ℕ) → length run ≤ i → same_numbers (drop i (part members a (length run))) (drop i run) ≡ true
  unfolding same_numbers
  runs-end i h = ap₂ same_numbers (drop_of_length-le (part members a (length run)) {i = i} (omega (arith, h, part_length members a (length run) room))) (drop_of_length-le run {i = i} h)

numbers-length : (x y : List ℕ) → (length x ≡ length y → ⊥) → same_numbers x y ≡ false
unfolding same_numbers
numbers-length [] [] h = absurd (h refl)
numbers-length [] (y ∷ ys) h = refl
numbers-length (x ∷ xs) [] h = refl
numbers-length (x ∷ xs) (y ∷ ys) h = by (eqb x y) (numbers-length xs ys (λ e. h (ap suc e)))
  where
    by : (b : Bool) → same_numbers xs ys ≡ false → (b && same_numbers xs ys) ≡ false
    by true e = e
    by false e = refl

-- ---- one row

pub row_kinds : (j k s t c d : ℕ) (x y : List ℕ) → j ≤ 3 → k ≤ 3 → (j ≡ k → ⊥) → same_row (row_by j s c x) (row_by k t d y) ≡ false
unfolding row_by same_row
row_kinds zero zero s t c d x y p q h = absurd (h refl)
row_kinds zero (suc zero) s t c d x y p q h = refl
row_kinds zero (suc (suc zero)) s t c d x y p q h = refl
row_kinds zero (suc (suc (suc zero))) s t c d x y p q h = refl
row_kinds zero (suc (suc (suc (suc k)))) s t c d x y p q h = absurd (omega arith)
row_kinds (suc zero) zero s t c d x y p q h = refl
row_kinds (suc zero) (suc zero) s t c d x y p q h = absurd (h refl)
row_kinds (suc zero) (suc (suc zero)) s t c d x y p q h = refl
row_kinds (suc zero) (suc (suc (suc zero))) s t c d x y p q h = refl
row_kinds (suc zero) (suc (suc (suc (suc k)))) s t c d x y p q h = absurd (omega arith)
row_kinds (suc (suc zero)) zero s t c d x y p q h = refl
row_kinds (suc (suc zero)) (suc zero) s t c d x y p q h = refl
row_kinds (suc (suc zero)) (suc (suc zero)) s t c d x y p q h = absurd (h refl)
row_kinds (suc (suc zero)) (suc (suc (suc zero))) s t c d x y p q h = refl
row_kinds (suc (suc zero)) (suc (suc (suc (suc k)))) s t c d x y p q h = absurd (omega arith)
row_kinds (suc (suc (suc zero))) zero s t c d x y p q h = refl
row_kinds (suc (suc (suc zero))) (suc zero) s t c d x y p q h = refl
row_kinds (suc (suc (suc zero))) (suc (suc zero)) s t c d x y p q h = refl
row_kinds (suc (suc (suc zero))) (suc (suc (suc zero))) s t c d x y p q h = absurd (h refl)
row_kinds (suc (suc (suc zero))) (suc (suc (suc (suc k)))) s t c d x y p q h = absurd (omega arith)
row_kinds (suc (suc (suc (suc j)))) k s t c d x y p q h = absurd (omega arith)

pub row_basic : (s t c d : ℕ) (x y : List ℕ) → same_row (row_by 0 s c x) (row_by 0 t d y) ≡ eqb s t
unfolding row_by same_row
row_basic s t c d x y = refl

and-true : (b : Bool) → (b && true) ≡ b
and-true true = refl
and-true false = refl

and-false : (b : Bool) → (b && false) ≡ false
and-false true = refl
and-false false = refl

pub row_array : (s t c d : ℕ) (x y : List ℕ) → c ≡ d → same_row (row_by 1 s c x) (row_by 1 t d y) ≡ eqb s t
unfolding row_by same_row
row_array s t c d x y e = rw (eq-eqb c d e) (and-true (eqb s t))

pub row_group : (k s t c d : ℕ) (x y : List ℕ) → 2 ≤ k → k ≤ 3 → same_row (row_by k s c x) (row_by k t d y) ≡ same_numbers x y
unfolding row_by same_row
row_group zero s t c d x y h m = absurd (omega arith)
row_group (suc zero) s t c d x y h m = absurd (omega arith)
row_group (suc (suc zero)) s t c d x y h m = refl
row_group (suc (suc (suc zero))) s t c d x y h m = refl
row_group (suc (suc (suc (suc k)))) s t c d x y h m = absurd (omega arith)

pub row_counts : (k s t c d : ℕ) (x y : List ℕ) → 1 ≤ k → k ≤ 3 → (c ≡ d → ⊥) → (2 ≤ k → c ≡ length x) → (2 ≤ k → d ≡ length y) → same_row (row_by k s c x) (row_by k t d y) ≡ false
unfolding row_by same_row
row_counts zero s t c d x y l m h p q = absurd (omega arith)
row_counts (suc zero) s t c d x y l m h p q = rw (ne_eqb c d h) (and-false (eqb s t))
row_counts (suc (suc k)) s t c d x y l m h p q = row_group (suc (suc k)) s t c d x y (omega arith) m ∙ numbers-length x y (λ e. h (p (omega arith) ∙ e ∙ sym (q (omega arith))))

-- ---- all rows

find-snoc : (xs : List Row) (y r : Row) → find xs r ≡ length xs → find (xs ++ y ∷ []) r ≡ length xs + cond (same_row y r) 0 1
unfolding find
find-snoc [] y r e = by (same_row y r)
  where
    by : (b : Bool) → cond b 0 (suc 0) ≡ 0 + cond b 0 1
    by true = refl
    by false = refl
find-snoc (x ∷ xs) y r e = by (same_row x r) e (find-snoc xs y r)
  where
    by : (b : Bool) → cond b 0 (suc (find xs r)) ≡ suc (length xs) → (find xs r ≡ length xs → find (xs ++ y ∷ []) r ≡ length xs + cond (same_row y r) 0 1) → cond b 0 (suc (find (xs ++ y ∷ []) r)) ≡ suc (length xs) + cond (same_row y r) 0 1
    by true e rec = absurd (omega (arith, e))
    by false e rec = let z : find xs r ≡ length xs = omega (arith, e) in let w = rec z in omega (arith, w)

find-early : (xs ys : List Row) (r : Row) → find xs r < length xs → find (xs ++ ys) r ≡ find xs r
unfolding find
find-early [] ys r h = absurd (omega arith)
find-early (x ∷ xs) ys r h = by (same_row x r) h (find-early xs ys r)
  where
    by : (b : Bool) → cond b 0 (suc (find xs r)) < suc (length xs) → (find xs r < length xs → find (xs ++ ys) r ≡ find xs r) → cond b 0 (suc (find (xs ++ ys) r)) ≡ cond b 0 (suc (find xs r))
    by true h rec = refl
    by false h rec = ap suc (rec (omega arith))

module _ (kinds seconds counts members : List ℕ) where
  pub rows-length : (n : ℕ) → length (rows_at kinds seconds counts members n) ≡ n
  unfolding rows_at
  rows-length zero = refl
  rows-length (suc n) = let h = rows-length n in omega (arith, h, length-append (rows_at kinds seconds counts members n) (row_at kinds seconds counts members n ∷ []))

  -- the step back is a smaller count: the arrays stay as they are
  pub rows_back : (m n : ℕ) → m ≤ n → take m (rows_at kinds seconds counts members n) ≡ rows_at kinds seconds counts members m
  unfolding rows_at
  rows_back m zero h = let z : m ≡ 0 = omega (arith, h) in rw z refl
  rows_back m (suc n) h = by (eq-or-lt_of_le {n = m} {m = suc n} h) (rows_back m n)
    where
      by : (m ≡ suc n) ⊎ (m < suc n) → (m ≤ n → take m (rows_at kinds seconds counts members n) ≡ rows_at kinds seconds counts members m)
          → take m (rows_at kinds seconds counts members n ++ row_at kinds seconds counts members n ∷ []) ≡ rows_at kinds seconds counts members m
      by (inl e) rec = rw e (ap (λ (k : ℕ). take k (rows_at kinds seconds counts members (suc n))) (sym (rows-length (suc n))) ∙ take-length (rows_at kinds seconds counts members (suc n)))
      by (inr l) rec = take-append-le m (rows_at kinds seconds counts members n) (row_at kinds seconds counts members n ∷ []) (omega (arith, l, rows-length n)) ∙ rec (omega (arith, l))

  module _ (r : Row) where
    pub find_none : (n : ℕ) → ((i : ℕ) → i < n → same_row (row_at kinds seconds counts members i) r ≡ false) → find (rows_at kinds seconds counts members n) r ≡ n
    unfolding rows_at find
    find_none zero h = refl
    find_none (suc n) h =
        let e = find_none n (λ i l. h i (omega arith)) in
        let l = rows-length n in
        find-snoc (rows_at kinds seconds counts members n) (row_at kinds seconds counts members n) r (e ∙ sym l) ∙ rw (h n (omega arith)) (omega (arith, l))

    pub find-here : (n j : ℕ) → j < n → ((i : ℕ) → i < j → same_row (row_at kinds seconds counts members i) r ≡ false) → same_row (row_at kinds seconds counts members j) r ≡ true → find (rows_at kinds seconds counts members n) r ≡ j
    unfolding rows_at
    find-here zero j l h e = absurd (omega arith)
    find-here (suc n) j l h e = by (eq-or-lt_of_le {n = j} {m = n} (omega arith)) (find-here n j)
      where
        by : (j ≡ n) ⊎ (j < n) → (j < n → ((i : ℕ) → i < j → same_row (row_at kinds seconds counts members i) r ≡ false) → same_row (row_at kinds seconds counts members j) r ≡ true → find (rows_at kinds seconds counts members n) r ≡ j)
            → find (rows_at kinds seconds counts members n ++ row_at kinds seconds counts members n ∷ []) r ≡ j
        by (inl q) rec =
            let w = rows-length n in
            let z : same_row (row_at kinds seconds counts members n) r ≡ true = rw q at e in
            find-snoc (rows_at kinds seconds counts members n) (row_at kinds seconds counts members n) r (find_none n (λ i l. h i (omega (arith, l, q))) ∙ sym w) ∙ rw z (omega (arith, w, q))
        by (inr q) rec =
            let w = rec q h e in
            find-early (rows_at kinds seconds counts members n) (row_at kinds seconds counts members n ∷ []) r (omega (arith, w, q, rows-length n)) ∙ w

    pub none-on : (j : ℕ) → ((i : ℕ) → i < j → same_row (row_at kinds seconds counts members i) r ≡ false) → same_row (row_at kinds seconds counts members j) r ≡ false
        → (i : ℕ) → i < j + 1 → same_row (row_at kinds seconds counts members i) r ≡ false
    none-on j h e i l = by (eq-or-lt_of_le {n = i} {m = j} (omega arith))
      where
        by : (i ≡ j) ⊎ (i < j) → same_row (row_at kinds seconds counts members i) r ≡ false
        by (inl q) = rw q e
        by (inr q) = h i q

-- ---- row k and the row that is looked for

module _ (kinds seconds counts members : List ℕ) (n k kind second count : ℕ) (run : List ℕ) (held : Held kinds seconds counts members n) (known : k < n) (given : Given kind count run) where
  pub same-kinds : (get_or kinds k 0 ≡ kind → ⊥) → false ≡ same_row (row_at kinds seconds counts members k) (row_by kind second count run)
  same-kinds h = sym (row_kinds (get_or kinds k 0) kind (get_or seconds k 0) second (get_or counts k 0) count (part members (get_or seconds k 0) (get_or counts k 0)) run (held.low k known) given.low h)

  module _ (e : get_or kinds k 0 ≡ kind) where
    pub same-basic : kind ≡ 0 → eqb (get_or seconds k 0) second ≡ same_row (row_at kinds seconds counts members k) (row_by kind second count run)
    same-basic z = rw (e, z) (sym (row_basic (get_or seconds k 0) second (get_or counts k 0) count (part members (get_or seconds k 0) (get_or counts k 0)) run))

    part-many : 2 ≤ kind → get_or counts k 0 ≡ length (part members (get_or seconds k 0) (get_or counts k 0))
    part-many h = sym (part_length members (get_or seconds k 0) (get_or counts k 0) (held.run k known (omega (arith, h, e))))

    pub same-counts : (kind ≡ 0 → ⊥) → (get_or counts k 0 ≡ count → ⊥) → false ≡ same_row (row_at kinds seconds counts members k) (row_by kind second count run)
    same-counts z h = rw e (sym (row_counts kind (get_or seconds k 0) second (get_or counts k 0) count (part members (get_or seconds k 0) (get_or counts k 0)) run (omega (arith, z)) given.low h part-many given.many))

    pub same-array : kind ≡ 1 → get_or counts k 0 ≡ count → eqb (get_or seconds k 0) second ≡ same_row (row_at kinds seconds counts members k) (row_by kind second count run)
    same-array z h = rw (e, z) (sym (row_array (get_or seconds k 0) second (get_or counts k 0) count (part members (get_or seconds k 0) (get_or counts k 0)) run h))

    pub group-room : (kind ≡ 0 → ⊥) → (kind ≡ 1 → ⊥) → get_or counts k 0 ≡ count → (a : ℕ) → a ≡ get_or seconds k 0 → a + length run ≤ length members
    group-room z o h a q = let m : 2 ≤ kind = omega (arith, z, o) in let r = held.run k known (omega (arith, m, e)) in omega (arith, r, h, given.many m, q)

    pub same-group : (kind ≡ 0 → ⊥) → (kind ≡ 1 → ⊥) → get_or counts k 0 ≡ count → (a : ℕ) → a ≡ get_or seconds k 0 → (v : Bool) → v ≡ same_numbers (take (length run) (drop a members)) run
        → v ≡ same_row (row_at kinds seconds counts members k) (row_by kind second count run)
    same-group z o h a q v r =
        let m : 2 ≤ kind = omega (arith, z, o) in
        r ∙ ap₂ (λ (x y : ℕ). same_numbers (part members x y) run) q (sym (h ∙ given.many m))
        ∙ rw e (sym (row_group kind (get_or seconds k 0) second (get_or counts k 0) count (part members (get_or seconds k 0) (get_or counts k 0)) run m given.low))

-- ---- a run, byte by byte

pub run-other : (members : List ℕ) (a : ℕ) (run : List ℕ) → a + length run ≤ length members → (i : ℕ) → same_numbers (drop i (part members a (length run))) (drop i run) ≡ same_numbers (part members a (length run)) run → i < length run
    → (get_or members (a + i) 0 ≡ get_or run i 0 → ⊥) → false ≡ same_numbers (part members a (length run)) run
run-other members a run room i e l h = sym (sym e ∙ runs_other members a run room i l h)

pub run_on : (members : List ℕ) (a : ℕ) (run : List ℕ) → a + length run ≤ length members → (i : ℕ) → same_numbers (drop i (part members a (length run))) (drop i run) ≡ same_numbers (part members a (length run)) run → i < length run
    → get_or members (a + i) 0 ≡ get_or run i 0 → same_numbers (drop (i + 1) (part members a (length run))) (drop (i + 1) run) ≡ same_numbers (part members a (length run)) run
run_on members a run room i e l h = runs_same members a run room i l h ∙ e

pub run-done : (members : List ℕ) (a : ℕ) (run : List ℕ) → a + length run ≤ length members → (i : ℕ) → same_numbers (drop i (part members a (length run))) (drop i run) ≡ same_numbers (part members a (length run)) run → length run ≤ i
    → true ≡ same_numbers (part members a (length run)) run
run-done members a run room i e l = sym (sym e ∙ runs-end members a run room i l)

pub find-end : (kinds seconds counts members : List ℕ) (r : Row) (n j : ℕ) → j ≡ n → ((i : ℕ) → i < j → same_row (row_at kinds seconds counts members i) r ≡ false) → j ≡ find (rows_at kinds seconds counts members n) r
find-end kinds seconds counts members r n j e h = e ∙ sym (find_none kinds seconds counts members r n (λ i l. h i (omega (arith, l, e))))
