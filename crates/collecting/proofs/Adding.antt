-- What adding a row cites. Assumes nothing.
use mathlib.Core.Path.{◌≡◌, refl, sym, ap, ap₂, ◌∙◌}
use mathlib.Core.Bool.{Bool, true, false, ◌||◌, true≢false}
use mathlib.Core.List.{List, [], ◌∷◌, ◌++◌, append_assoc}
use mathlib.Core.Logic.{◌⊎◌, inl, inr}
use Prim.Native.Nat.{ℕ, zero, suc, ◌+◌, ◌-◌, ◌≤◌, ◌<◌}
use native.Mathlib.Nat.{eq-or-lt_of_le}
use native.Mathlib.Numerals.{add-one}
use native.Mathlib.Omega.{arith}
use borrow.Author.Tests.{lt-ltb, le-ltb, ltb-false}
use lib.Dec.{ltb}
use lib.ListN.{length, get_or, take, drop, set, length-append, length-set, drop_of_length-le}
use lib.Seq.{length-take-le, take-take, take-append_seam, drop-append_seam, get_or-set_same, get_or-set_other, drop-cons}
use Rattle.collecting.specs.Rows.{Row, basic_row, array_row, group_row, run_of, find, members_in, beyond}
use Rattle.collecting.specs.Bounded.{Kept, keep, add_if, raise}
use Rattle.collecting.proofs.Bounds.{members-append}
use Rattle.collecting.specs.Arrays.{row_by, row_at, rows_at, Offered, Standing, kept_of}
use Rattle.std.specs.Prelude.{None, Some}
use Rattle.collecting.proofs.Rows.{part, part_length, rows-length}

-- ---- a run is copied

pub copied-part : (xs ys z : List ℕ) (a : ℕ) → a ≤ length xs → take (a + length ys) (take a xs ++ (ys ++ z)) ≡ take a xs ++ ys
copied-part xs ys z a h =
    let e : a + length ys ≡ length (take a xs ++ ys) = omega (arith, length-append (take a xs) ys, length-take-le a xs h) in
    ap (take (a + length ys)) (sym (append_assoc (take a xs) ys z)) ∙ ap (λ (n : ℕ). take n ((take a xs ++ ys) ++ z)) e ∙ take-append_seam (take a xs ++ ys) z

-- ---- parts of members

take-drop : (a c : ℕ) (x : List ℕ) → take c (drop a x) ≡ drop a (take (a + c) x)
take-drop zero c x = let z : 0 + c ≡ c = omega arith in rw z refl
take-drop (suc a) c [] = let z : suc a + c ≡ suc (a + c) = omega arith in rw z (nil c)
  where
    nil : (c : ℕ) → ◌≡◌ {A = List ℕ} (take c []) []
    nil zero = refl
    nil (suc c) = refl
take-drop (suc a) c (y ∷ x) = let z : suc a + c ≡ suc (a + c) = omega arith in rw z (take-drop a c x)

-- ---- rows

row_run : (kind s c : ℕ) (x y : List ℕ) → (2 ≤ kind → x ≡ y) → row_by kind s c x ≡ row_by kind s c y
unfolding row_by
row_run zero s c x y h = refl
row_run (suc zero) s c x y h = refl
row_run (suc (suc k)) s c x y h = rw (h (omega arith)) refl

row_new : (kind s t c : ℕ) (x y : List ℕ) → kind ≤ 3 → (kind ≤ 1 → s ≡ t) → (2 ≤ kind → x ≡ y) → row_by kind s c x ≡ row_by kind t c y
unfolding row_by
row_new zero s t c x y l p q = ap basic_row (p (omega arith))
row_new (suc zero) s t c x y l p q = ap (λ (z : ℕ). array_row z c) (p (omega arith))
row_new (suc (suc zero)) s t c x y l p q = ap (group_row false) (q (omega arith))
row_new (suc (suc (suc zero))) s t c x y l p q = ap (group_row true) (q (omega arith))
row_new (suc (suc (suc (suc k)))) s t c x y l p q = absurd (omega arith)

run-many : (kind s c : ℕ) (x : List ℕ) → kind ≤ 3 → (kind ≤ 1 → x ≡ []) → length (run_of (row_by kind s c x)) ≡ length x
unfolding row_by
run-many zero s c x l h = ap length (sym (h (omega arith)))
run-many (suc zero) s c x l h = ap length (sym (h (omega arith)))
run-many (suc (suc zero)) s c x l h = refl
run-many (suc (suc (suc zero))) s c x l h = refl
run-many (suc (suc (suc (suc k)))) s c x l h = absurd (omega arith)

module _ (K S C M : List ℕ) where
  pub members_step : (k : ℕ) → members_in (rows_at K S C M (suc k)) ≡ members_in (rows_at K S C M k) + length (run_of (row_at K S C M k))
  unfolding rows_at members_in
  members_step k = let e = members-append (rows_at K S C M k) (row_at K S C M k ∷ []) in omega (arith, e)

  pub members-mono : (k n : ℕ) → k ≤ n → members_in (rows_at K S C M k) ≤ members_in (rows_at K S C M n)
  members-mono k zero h = let z : k ≡ 0 = omega (arith, h) in rw z (omega arith)
  members-mono k (suc n) h = by (eq-or-lt_of_le {n = k} {m = suc n} h) (members-mono k n)
    where
      by : (k ≡ suc n) ⊎ (k < suc n) → (k ≤ n → members_in (rows_at K S C M k) ≤ members_in (rows_at K S C M n)) → members_in (rows_at K S C M k) ≤ members_in (rows_at K S C M (suc n))
      by (inl e) rec = rw e (omega arith)
      by (inr l) rec = let p = rec (omega (arith, l)) in let q = members_step n in omega (arith, p, q)

  -- a run ends before the members do
  run_ends : (n m : ℕ) → Standing K S C M n m → (k : ℕ) → k < n → 2 ≤ get_or K k 0 → get_or S k 0 + get_or C k 0 ≤ m
  run_ends n m s k l h =
      let p = s.place k l h in
      let q = members_step k in
      let r = run-many (get_or K k 0) (get_or S k 0) (get_or C k 0) (part M (get_or S k 0) (get_or C k 0)) (s.held.low k l) (λ z. absurd (omega (arith, z, h))) in
      let t = part_length M (get_or S k 0) (get_or C k 0) (s.held.run k l h) in
      let u = members-mono (suc k) n (omega (arith, l)) in
      omega (arith, p, q, r, t, u, s.total)

  -- fewer rows stand too: the step back
  pub standing-back : (n m : ℕ) → Standing K S C M n m → (k : ℕ) → k ≤ n → Standing K S C M k (members_in (rows_at K S C M k))
  standing-back n m s k h = record {
    held = record {
      room_kinds = omega (arith, h, s.held.room_kinds);
      room_seconds = omega (arith, h, s.held.room_seconds);
      room_counts = omega (arith, h, s.held.room_counts);
      low = λ i l. s.held.low i (omega (arith, l, h));
      run = λ i l. s.held.run i (omega (arith, l, h));
    };
    wide_kinds = s.wide_kinds;
    wide_seconds = s.wide_seconds;
    wide_counts = s.wide_counts;
    wide_members = s.wide_members;
    few = omega (arith, h, s.few);
    fewer = let u = members-mono k n h in omega (arith, u, s.total, s.fewer);
    total = refl;
    place = λ i l. s.place i (omega (arith, l, h));
  }

rows_same : (K S C M J R D L : List ℕ) (n : ℕ) → ((k : ℕ) → k < n → row_at J R D L k ≡ row_at K S C M k) → rows_at J R D L n ≡ rows_at K S C M n
unfolding rows_at
rows_same K S C M J R D L zero h = refl
rows_same K S C M J R D L (suc n) h = ap₂ (λ (x : List Row) (y : Row). x ++ y ∷ []) (rows_same K S C M J R D L n (λ k l. h k (omega arith))) (h n (omega arith))

-- ---- one row more

module _ (K S C M : List ℕ) (n m kind second count : ℕ) (run : List ℕ) (s : Standing K S C M n m) (o : Offered kind count run) (room : n < 64) (fits : m + length run ≤ 255)
    (t : ℕ) (ts : (kind ≤ 1 → t ≡ second) × (2 ≤ kind → t ≡ m)) (L : List ℕ) (long : length L ≡ length M) (copied : take (m + length run) L ≡ take m M ++ run) where
  before : take m L ≡ take m M
  before =
      let w : length (take m M) ≡ m = length-take-le m M (omega (arith, fits, s.wide_members)) in
      sym (take-take m (m + length run) L (omega arith)) ∙ ap (take m) copied ∙ ap (λ (x : ℕ). take x (take m M ++ run)) (sym w) ∙ take-append_seam (take m M) run

  part-old : (a c : ℕ) → a + c ≤ m → part L a c ≡ part M a c
  part-old a c h =
      take-drop a c L ∙ ap (drop a) (sym (take-take (a + c) m L h) ∙ ap (take (a + c)) before ∙ take-take (a + c) m M h) ∙ sym (take-drop a c M)

  part-new : part L m (length run) ≡ run
  part-new =
      let w : length (take m M) ≡ m = length-take-le m M (omega (arith, fits, s.wide_members)) in
      take-drop m (length run) L ∙ ap (drop m) copied ∙ ap (λ (x : ℕ). drop x (take m M ++ run)) (sym w) ∙ drop-append_seam (take m M) run

  row_old : (k : ℕ) → k < n → row_at (set K n kind) (set S n t) (set C n count) L k ≡ row_at K S C M k
  row_old k l =
      rw (get_or-set_other K n k kind 0 (λ e. omega (arith, e, l)), get_or-set_other S n k t 0 (λ e. omega (arith, e, l)), get_or-set_other C n k count 0 (λ e. omega (arith, e, l)))
      (row_run (get_or K k 0) (get_or S k 0) (get_or C k 0) (part L (get_or S k 0) (get_or C k 0)) (part M (get_or S k 0) (get_or C k 0)) (λ h. part-old (get_or S k 0) (get_or C k 0) (run_ends K S C M n m s k l h)))

  rows-old : (k : ℕ) → k ≤ n → rows_at (set K n kind) (set S n t) (set C n count) L k ≡ rows_at K S C M k
  rows-old k h = rows_same K S C M (set K n kind) (set S n t) (set C n count) L k (λ i l. row_old i (omega (arith, l, h)))

  row_last : row_at (set K n kind) (set S n t) (set C n count) L n ≡ row_by kind second count run
  row_last =
      rw (get_or-set_same K n kind 0 (omega (arith, room, s.wide_kinds)), get_or-set_same S n t 0 (omega (arith, room, s.wide_seconds)), get_or-set_same C n count 0 (omega (arith, room, s.wide_counts)))
      (row_new kind t second count (part L t count) run o.given.low ts.0 (λ h. ap₂ (λ (x y : ℕ). part L x y) (ts.1 h) (o.given.many h) ∙ part-new))

  pub rows-added : rows_at (set K n kind) (set S n t) (set C n count) L (n + 1) ≡ rows_at K S C M n ++ row_by kind second count run ∷ []
  unfolding rows_at
  rows-added = rw (add-one n) (ap₂ (λ (x : List Row) (y : Row). x ++ y ∷ []) (rows-old n (omega arith)) row_last)

  which : (k : ℕ) → k < n + 1 → (k ≡ n) ⊎ (k < n)
  which k l = eq-or-lt_of_le {n = k} {m = n} (omega arith)

  low-new : (k : ℕ) → (k ≡ n) ⊎ (k < n) → get_or (set K n kind) k 0 ≤ 3
  low-new k (inl e) = rw (e, get_or-set_same K n kind 0 (omega (arith, room, s.wide_kinds))) o.given.low
  low-new k (inr l) = rw (get_or-set_other K n k kind 0 (λ e. omega (arith, e, l))) (s.held.low k l)

  run-new : (k : ℕ) → (k ≡ n) ⊎ (k < n) → 2 ≤ get_or (set K n kind) k 0 → get_or (set S n t) k 0 + get_or (set C n count) k 0 ≤ length L
  run-new k (inl e) h =
      let a = get_or-set_same K n kind 0 (omega (arith, room, s.wide_kinds)) in
      let b = get_or-set_same S n t 0 (omega (arith, room, s.wide_seconds)) in
      let c = get_or-set_same C n count 0 (omega (arith, room, s.wide_counts)) in
      let g : 2 ≤ kind = rw (e, a) at h in
      rw (e, b, c) (omega (arith, ts.1 g, o.given.many g, fits, long, s.wide_members))
  run-new k (inr l) h =
      let a = get_or-set_other K n k kind 0 (λ e. omega (arith, e, l)) in
      let b = get_or-set_other S n k t 0 (λ e. omega (arith, e, l)) in
      let c = get_or-set_other C n k count 0 (λ e. omega (arith, e, l)) in
      let g : 2 ≤ get_or K k 0 = rw a at h in
      rw (b, c) (omega (arith, s.held.run k l g, long))

  place-new : (k : ℕ) → (k ≡ n) ⊎ (k < n) → 2 ≤ get_or (set K n kind) k 0 → get_or (set S n t) k 0 ≡ members_in (rows_at (set K n kind) (set S n t) (set C n count) L k)
  place-new k (inl e) h =
      let a = get_or-set_same K n kind 0 (omega (arith, room, s.wide_kinds)) in
      let b = get_or-set_same S n t 0 (omega (arith, room, s.wide_seconds)) in
      let g : 2 ≤ kind = rw (e, a) at h in
      rw (e, b, rows-old n (omega arith)) (ts.1 g ∙ s.total)
  place-new k (inr l) h =
      let a = get_or-set_other K n k kind 0 (λ e. omega (arith, e, l)) in
      let b = get_or-set_other S n k t 0 (λ e. omega (arith, e, l)) in
      let g : 2 ≤ get_or K k 0 = rw a at h in
      rw (b, rows-old k (omega (arith, l))) (s.place k l g)

  total-new : m + length run ≡ members_in (rows_at (set K n kind) (set S n t) (set C n count) L (n + 1))
  unfolding members_in
  total-new =
      let e = members-append (rows_at K S C M n) (row_by kind second count run ∷ []) in
      let r = run-many kind second count run o.given.low o.none in
      rw rows-added (omega (arith, e, r, s.total))

  pub standing-added : Standing (set K n kind) (set S n t) (set C n count) L (n + 1) (m + length run)
  standing-added = record {
    held = record {
      room_kinds = omega (arith, length-set K n kind, room, s.wide_kinds);
      room_seconds = omega (arith, length-set S n t, room, s.wide_seconds);
      room_counts = omega (arith, length-set C n count, room, s.wide_counts);
      low = λ k l. low-new k (which k l);
      run = λ k l. run-new k (which k l);
    };
    wide_kinds = omega (arith, length-set K n kind, s.wide_kinds);
    wide_seconds = omega (arith, length-set S n t, s.wide_seconds);
    wide_counts = omega (arith, length-set C n count, s.wide_counts);
    wide_members = omega (arith, long, s.wide_members);
    few = omega (arith, room);
    fewer = fits;
    total = total-new;
    place = λ k l. place-new k (which k l);
  }

-- ---- the number of a row

module _ (K S C M : List ℕ) (n m : ℕ) (kind second count : ℕ) (run : List ℕ) (s : Standing K S C M n m) (o : Offered kind count run) where
  pub intern-found : (k : ℕ) → k ≡ find (rows_at K S C M n) (row_by kind second count run) → k < n → kept_of (Some k) (rows_at K S C M n) ≡ keep false (rows_at K S C M n) (row_by kind second count run)
  intern-found k found l = rw (← found, rows-length K S C M n, lt-ltb k n l) refl

  beyond-is : beyond (rows_at K S C M n ++ row_by kind second count run ∷ []) ≡ (ltb 64 (n + 1) || ltb 255 (m + length run))
  unfolding beyond members_in
  beyond-is =
      let a : length (rows_at K S C M n ++ row_by kind second count run ∷ []) ≡ n + 1 = length-append (rows_at K S C M n) (row_by kind second count run ∷ []) ∙ ap (λ (x : ℕ). x + 1) (rows-length K S C M n) in
      let f = members-append (rows_at K S C M n) (row_by kind second count run ∷ []) in
      let r = run-many kind second count run o.given.low o.none in
      let b : members_in (rows_at K S C M n ++ row_by kind second count run ∷ []) ≡ m + length run = omega (arith, f, r, s.total) in
      ap₂ (λ (x y : ℕ). ltb 64 x || ltb 255 y) a b

  module _ (found : n ≡ find (rows_at K S C M n) (row_by kind second count run)) where
    keep-new : keep false (rows_at K S C M n) (row_by kind second count run) ≡ add_if (ltb 64 (n + 1) || ltb 255 (m + length run)) (rows_at K S C M n) (row_by kind second count run) n
    keep-new = rw (← found, rows-length K S C M n, le-ltb n n (omega arith), beyond-is) refl

    pub intern-crowded : (ltb 64 (n + 1) || ltb 255 (m + length run)) ≡ true → kept_of None (rows_at K S C M n) ≡ keep false (rows_at K S C M n) (row_by kind second count run)
    intern-crowded h = rw (keep-new, h) refl

    pub intern-added : (ltb 64 (n + 1) || ltb 255 (m + length run)) ≡ false → (new : List Row) → new ≡ rows_at K S C M n ++ row_by kind second count run ∷ []
        → kept_of (Some n) new ≡ keep false (rows_at K S C M n) (row_by kind second count run)
    intern-added h new q = rw (keep-new, h, q) refl

-- what is not too much
pub crowded_room : (n m x : ℕ) → (ltb 64 (n + 1) || ltb 255 (m + x)) ≡ false → (n < 64) × (m + x ≤ 255)
crowded_room n m x h = by (ltb 64 (n + 1)) refl h
  where
    by : (b : Bool) → ltb 64 (n + 1) ≡ b → (b || ltb 255 (m + x)) ≡ false → (n < 64) × (m + x ≤ 255)
    by true e h = absurd (true≢false h)
    by false e h = let p = ltb-false 64 (n + 1) e in let q = ltb-false 255 (m + x) h in (omega (arith, p), omega (arith, q))

pub crowded_low : (n m x : ℕ) → (ltb 64 (n + 1) || ltb 255 (m + x)) ≡ false → n < 64
crowded_low n m x h = (crowded_room n m x h).0

pub crowded_fits : (n m x : ℕ) → (ltb 64 (n + 1) || ltb 255 (m + x)) ≡ false → m + x ≤ 255
crowded_fits n m x h = (crowded_room n m x h).1

-- ---- arrays

pub array-offered : (count : ℕ) → Offered 1 count []
array-offered count = record { given = record { low = omega arith; many = λ h. absurd (omega arith) }; none = λ h. refl; short = omega arith }

raise-step : (ns : List ℕ) (i : ℕ) (k : Kept) → i < length ns → raise (drop i ns) k ≡ keep (raise (drop (i + 1) ns) k).over (raise (drop (i + 1) ns) k).rows (array_row (raise (drop (i + 1) ns) k).number (get_or ns i 0))
unfolding raise
raise-step ns i k h = let z : i + 1 ≡ suc i = omega arith in rw z (ap (λ (l : List ℕ). raise l k) (drop-cons ns i 0 h))

array-row : (a c : ℕ) → row_by 1 a c [] ≡ array_row a c
unfolding row_by
array-row a c = refl

-- one array more
pub raise-on : (sizes : List ℕ) (i : ℕ) → 0 < i → i ≤ length sizes → (k₀ : Kept) (rows : List Row) (k : ℕ) → kept_of (Some k) rows ≡ raise (drop i sizes) k₀
    → (now : Kept) → now ≡ keep false rows (row_by 1 k (get_or sizes (i - 1) 0) []) → now ≡ raise (drop (i - 1) sizes) k₀
raise-on sizes i p q k₀ rows k s now t =
    let z : i - 1 + 1 ≡ i = omega arith in
    t ∙ ap (keep false rows) (array-row k (get_or sizes (i - 1) 0)) ∙ sym (raise-step sizes (i - 1) k₀ (omega arith) ∙ rw (z, ← s) refl)

pub raise-start : (rows : List Row) (k : ℕ) (sizes : List ℕ) → kept_of (Some k) rows ≡ raise (drop (length sizes) sizes) (kept_of (Some k) rows)
unfolding raise
raise-start rows k sizes = rw (drop_of_length-le sizes {i = length sizes} (omega arith)) refl

pub raise-end : (sizes : List ℕ) (i : ℕ) (k₀ now : Kept) → i ≡ 0 → now ≡ raise (drop i sizes) k₀ → now ≡ raise sizes k₀
raise-end sizes i k₀ now e s = rw e at s

-- once there is no room the rest adds nothing
pub raise-stays : (sizes : List ℕ) (i : ℕ) (k₀ : Kept) (rows : List Row) → kept_of None rows ≡ raise (drop i sizes) k₀ → kept_of None rows ≡ raise sizes k₀
unfolding raise
raise-stays sizes zero k₀ rows h = h
raise-stays [] (suc i) k₀ rows h = h
raise-stays (n ∷ ns) (suc i) k₀ rows h = rw (← raise-stays ns i k₀ rows h) refl
