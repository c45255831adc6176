-- The moves of a description: where they read and write, joined and by kind. Assumes nothing.
use mathlib.Core.Path.{◌≡◌, refl, sym, ap, ap₂, ◌∙◌}
use mathlib.Core.Bool.{Bool, true, false, cond, not, and-eq-true_iff}
use mathlib.Core.List.{List, [], ◌∷◌, ◌++◌, append-nil, append_assoc}
use Prim.Native.Nat.{ℕ, suc, ◌+◌, ◌*◌, ◌-◌, ◌≤◌, ◌<◌, min}
use native.Mathlib.Decide.{dec_lt}
use native.Mathlib.Omega.{arith}
use borrow.Author.Tests.{eqb-true}
use lib.Dec.{eqb}
use lib.ListN.{length}
use Rattle.addresses.specs.Addresses.{run, All}
use Rattle.addresses.proofs.Runs.{run-append}
use Rattle.places.specs.declared.Kind.{Kind}
use Rattle.places.specs.declared.Kind.TheVariants.{General as general, Vector as vector, Upper as upper, Wide as wide}
use Rattle.places.specs.declared.Register.{Register}
use Rattle.places.specs.declared.Register.TheVariants.{General, Vector, Upper, Wide}
use Rattle.places.specs.declared.Used.{Used}
use Rattle.places.specs.Shapes.{Shape, Shaped, widths}
use Rattle.places.specs.Places.{Place, in_registers, on_stack, eights as eightbytes, general_for, vector_for, registers_for, fits, place_if, place, next, after}
use Rattle.places.specs.Images.{stack_at, slots, spread, bytes_of, addresses, total}
use Rattle.places.proofs.Fits.{fits-true}
use Rattle.places.proofs.Apart.{all-seated, slots-inside, stack-room, after-grows}
use Rattle.plans.specs.Moves.{Move, sources, targets, Reordered, none, keep, both}
use Rattle.plans.specs.Cuts.{Span, spans, pieces, cut_one, cut, adjoin, longer, join_from, joined, low, high, halved, select, is_long, eights, others, fours, parts}
use Rattle.plans.proofs.Orders.{reordered_later}

-- ---- where they write

targets-append : (ms ns : List Move) → targets (ms ++ ns) ≡ targets ms ++ targets ns
targets-append [] ns = refl
targets-append (m ∷ ms) ns = ap (λ (l : List ℕ). run m.target m.count ++ l) (targets-append ms ns) ∙ sym (append_assoc (run m.target m.count) (targets ms) (targets ns))

sources-append : (ms ns : List Move) → sources (ms ++ ns) ≡ sources ms ++ sources ns
sources-append [] ns = refl
sources-append (m ∷ ms) ns = ap (λ (l : List ℕ). run m.source m.count ++ l) (sources-append ms ns) ∙ sym (append_assoc (run m.source m.count) (sources ms) (sources ns))

-- sixteen bytes in a row are two eightbytes
row : (a b n : ℕ) (l : List ℕ) → a + 8 ≡ b → run a (min n 16) ++ l ≡ run a (min n 8) ++ (run b (min (n - 8) 8) ++ l)
row a b n l e = by (dec_lt n 8)
  where
    by : Dec (n < 8) → run a (min n 16) ++ l ≡ run a (min n 8) ++ (run b (min (n - 8) 8) ++ l)
    by (yes h) =
        let p : min n 16 ≡ min n 8 = omega arith in
        let q : min (n - 8) 8 ≡ 0 = omega arith in
        ap₂ (λ (x y : ℕ). run a x ++ (run b y ++ l)) p (sym q)
    by (no h) =
        let p : min n 16 ≡ 8 + min (n - 8) 8 = omega arith in
        let q : min n 8 ≡ 8 = omega arith in
        ap (λ (x : ℕ). run a x ++ l) p
        ∙ ap (λ (x : List ℕ). x ++ l) (run-append a 8 (min (n - 8) 8))
        ∙ append_assoc (run a 8) (run (a + 8) (min (n - 8) 8)) l
        ∙ ap₂ (λ (x y : ℕ). run a x ++ (run y (min (n - 8) 8) ++ l)) (sym q) e

targets-pieces : (rs : List Register) (k n : ℕ) → targets (pieces k (spans rs) n) ≡ spread (slots rs) n
targets-pieces [] k n = refl
targets-pieces (General m ∷ rs) k n = ap (λ (l : List ℕ). run (8 * m.0) (min n 8) ++ l) (targets-pieces rs (k + 8) (n - 8))
targets-pieces (Vector m ∷ rs) k n = ap (λ (l : List ℕ). run (48 + 16 * m.0) (min n 8) ++ l) (targets-pieces rs (k + 8) (n - 8))
targets-pieces (Upper m ∷ rs) k n = ap (λ (l : List ℕ). run (56 + 16 * m.0) (min n 8) ++ l) (targets-pieces rs (k + 8) (n - 8))
targets-pieces (Wide m ∷ rs) k n =
    let p : n - 16 ≡ n - 8 - 8 = omega arith in
    let q : n - 16 - 16 ≡ n - 8 - 8 - 8 - 8 = omega arith in
    row (48 + 16 * m.0) (56 + 16 * m.0) n _ (omega arith)
    ∙ ap (λ (l : List ℕ). run (48 + 16 * m.0) (min n 8) ++ (run (56 + 16 * m.0) (min (n - 8) 8) ++ l))
    (row (176 + 16 * m.0) (184 + 16 * m.0) (n - 16) _ (omega arith)
    ∙ ap₂ (λ (x : ℕ) (l : List ℕ). run (176 + 16 * m.0) (min x 8) ++ (run (184 + 16 * m.0) (min (x - 8) 8) ++ l)) p
    (targets-pieces rs (k + 16 + 16) (n - 16 - 16) ∙ ap (spread (slots rs)) q))

targets-one : (p : Place) (k n : ℕ) → targets (cut_one k p n) ≡ bytes_of stack_at p n
targets-one (in_registers rs) k n = targets-pieces rs k n
targets-one (on_stack o) k n = append-nil (run (stack_at + o) n)

pub targets-cut : (ss : List Shape) (u : Used) (k : ℕ) → targets (cut u k ss) ≡ addresses stack_at eightbytes u ss
targets-cut [] u k = refl
targets-cut (s ∷ ss) u k =
    targets-append (cut_one k (place eightbytes u s) s.size) (cut (next eightbytes u s) (k + s.size) ss)
    ∙ ap₂ (λ (x y : List ℕ). x ++ y) (targets-one (place eightbytes u s) k s.size) (targets-cut ss (next eightbytes u s) (k + s.size))

-- ---- the spans of an argument

-- the bytes that these hold
abbrev room_of : List Span → ℕ
room_of [] = 0
room_of (b ∷ bs) = b.room + room_of bs

spans-room : (ks : List Kind) (g f : ℕ) → room_of (spans (registers_for g f ks)) ≡ 8 * widths ks
spans-room [] g f = refl
spans-room (general ∷ ks) g f = omega (arith, spans-room ks (g + general_for general) (f + vector_for general))
spans-room (vector ∷ ks) g f = omega (arith, spans-room ks (g + general_for vector) (f + vector_for vector))
spans-room (upper ∷ ks) g f = omega (arith, spans-room ks (g + general_for upper) (f + vector_for upper))
spans-room (wide ∷ ks) g f = omega (arith, spans-room ks (g + general_for wide) (f + vector_for wide))

-- each holds an eightbyte or more
spans-some : (rs : List Register) → All (λ b. 8 ≤ b.room) (spans rs)
spans-some [] = tt
spans-some (General m ∷ rs) = (omega arith, spans-some rs)
spans-some (Vector m ∷ rs) = (omega arith, spans-some rs)
spans-some (Upper m ∷ rs) = (omega arith, spans-some rs)
spans-some (Wide m ∷ rs) = (omega arith, (omega arith, spans-some rs))

spans-inside : (top : ℕ) (rs : List Register) → All (λ a. a + 8 ≤ top) (slots rs) → All (λ b. b.begin + b.room ≤ top) (spans rs)
spans-inside top [] h = tt
spans-inside top (General m ∷ rs) h = (h.0, spans-inside top rs h.1)
spans-inside top (Vector m ∷ rs) h = (h.0, spans-inside top rs h.1)
spans-inside top (Upper m ∷ rs) h = (h.0, spans-inside top rs h.1)
spans-inside top (Wide m ∷ rs) h = (omega (arith, h.1.0), (omega (arith, h.1.1.1.0), spans-inside top rs h.1.1.1.1))

-- ---- what they read

sources-pieces : (bs : List Span) (k n : ℕ) → All (λ b. 8 ≤ b.room) bs → n ≤ room_of bs → room_of bs < n + 8 → sources (pieces k bs n) ≡ run k n
sources-pieces [] k n w h l = let e : n ≡ 0 = omega arith in rw e
sources-pieces (b ∷ []) k n w h l = let e : min n b.room ≡ n = omega arith in append-nil (run k (min n b.room)) ∙ ap (run k) e
sources-pieces (b ∷ c ∷ bs) k n w h l =
    let g = w.1.0 in
    let e : min n b.room ≡ b.room = omega arith in
    let f : b.room + (n - b.room) ≡ n = omega arith in
    ap₂ (λ (m : ℕ) (r : List ℕ). run k m ++ r) e (sources-pieces (c ∷ bs) (k + b.room) (n - b.room) w.1 (omega arith) (omega arith))
    ∙ sym (run-append k b.room (n - b.room))
    ∙ ap (run k) f

sources-one : (u : Used) (s : Shape) (k : ℕ) → Shaped s → sources (cut_one k (place eightbytes u s) s.size) ≡ run k s.size
unfolding place
sources-one u s k h = by (fits u s.kinds) refl
  where
    by : (b : Bool) → fits u s.kinds ≡ b → sources (cut_one k (place_if eightbytes b u s) s.size) ≡ run k s.size
    by true e =
        let rs = registers_for u.general.0 u.vector.0 s.kinds in
        let room = h.room (fits-true u s.kinds e).some in
        let long = spans-room s.kinds u.general.0 u.vector.0 in
        sources-pieces (spans rs) k s.size (spans-some rs) (omega (arith, long, room.0)) (omega (arith, long, room.1))
    by false e = append-nil (run k s.size)

pub sources-cut : (ss : List Shape) (u : Used) (k : ℕ) → All Shaped ss → sources (cut u k ss) ≡ run k (total ss)
sources-cut [] u k h = refl
sources-cut (s ∷ ss) u k h =
    sources-append (cut_one k (place eightbytes u s) s.size) (cut (next eightbytes u s) (k + s.size) ss)
    ∙ ap₂ (λ (x y : List ℕ). x ++ y) (sources-one u s k h.0) (sources-cut ss (next eightbytes u s) (k + s.size) h.1)
    ∙ sym (run-append k s.size (total ss))

-- ---- within

-- what a move reads ends by v, what it writes by t
pub record Within (v t : ℕ) (m : Move) : Type 0 where
  pub source : m.source + m.count ≤ v
  pub target : m.target + m.count ≤ t

pub all_both : (P : Move → Type 0) (ms ns : List Move) → All P ms → All P ns → All P (ms ++ ns)
all_both P [] ns h g = g
all_both P (m ∷ ms) ns h g = (h.0, all_both P ms ns h.1 g)

within-pieces : (bs : List Span) (k n v t : ℕ) → All (λ b. 8 ≤ b.room) bs → room_of bs < n + 8 → All (λ b. b.begin + b.room ≤ stack_at) bs → k + n ≤ v → stack_at ≤ t
    → All (Within v t) (pieces k bs n)
within-pieces [] k n v t w l a h g = tt
within-pieces (b ∷ []) k n v t w l a h g = (record { source = omega arith; target = omega (arith, a.0) }, tt)
within-pieces (b ∷ c ∷ bs) k n v t w l a h g =
    let r = w.1.0 in
    (record { source = omega arith; target = omega (arith, a.0) }, within-pieces (c ∷ bs) (k + b.room) (n - b.room) v t w.1 (omega arith) a.1 (omega arith) g)

within-one : (u : Used) (s : Shape) (k v t : ℕ) → Shaped s → k + s.size ≤ v → stack_at + (next eightbytes u s).stack.0 ≤ t
    → All (Within v t) (cut_one k (place eightbytes u s) s.size)
unfolding place
within-one u s k v t h g l = by (fits u s.kinds) refl
  where
    by : (b : Bool) → fits u s.kinds ≡ b → All (Within v t) (cut_one k (place_if eightbytes b u s) s.size)
    by true e =
        let rs = registers_for u.general.0 u.vector.0 s.kinds in
        let room = h.room (fits-true u s.kinds e).some in
        let long = spans-room s.kinds u.general.0 u.vector.0 in
        within-pieces (spans rs) k s.size v t (spans-some rs) (omega (arith, long, room.1)) (spans-inside stack_at rs (slots-inside stack_at u s h (all-seated (s ∷ [])).0 e)) g (omega arith)
    by false e = (record { source = omega arith; target = omega (arith, stack-room eightbytes u s e) }, tt)

pub within-cut : (ss : List Shape) (u : Used) (k v t : ℕ) → All Shaped ss → k + total ss ≤ v → stack_at + (after eightbytes u ss).stack.0 ≤ t → All (Within v t) (cut u k ss)
within-cut [] u k v t h g l = tt
within-cut (s ∷ ss) u k v t h g l =
    all_both (Within v t) (cut_one k (place eightbytes u s) s.size) (cut (next eightbytes u s) (k + s.size) ss)
    (within-one u s k v t h.0 (omega arith) (omega (arith, after-grows eightbytes ss (next eightbytes u s))))
    (within-cut ss (next eightbytes u s) (k + s.size) v t h.1 (omega arith) l)

-- ---- joined

adjoins : (m n : Move) → adjoin m n ≡ true → (m.source + m.count ≡ n.source) × (m.target + m.count ≡ n.target)
adjoins m n e =
    let b = (and-eq-true_iff (eqb (m.source + m.count) n.source) (eqb (m.target + m.count) n.target)).0 e in
    (eqb-true (m.source + m.count) n.source b.0, eqb-true (m.target + m.count) n.target b.1)

run-joined : (p n q m : ℕ) (l : List ℕ) → p + n ≡ q → run p (n + m) ++ l ≡ run p n ++ (run q m ++ l)
run-joined p n q m l e = rw (← e) (ap (λ (r : List ℕ). r ++ l) (run-append p n m) ∙ append_assoc (run p n) (run (p + n) m) l)

pub targets-join : (ms : List Move) (m : Move) → targets (join_from m ms) ≡ targets (m ∷ ms)
targets-join [] m = refl
targets-join (n ∷ ns) m = by (adjoin m n) refl (targets-join ns (longer m n)) (targets-join ns n)
  where
    by : (b : Bool) → adjoin m n ≡ b → targets (join_from (longer m n) ns) ≡ targets (longer m n ∷ ns) → targets (join_from n ns) ≡ targets (n ∷ ns)
        → targets (cond b (join_from (longer m n) ns) (m ∷ join_from n ns)) ≡ targets (m ∷ n ∷ ns)
    by true e f g = f ∙ run-joined m.target m.count n.target n.count (targets ns) (adjoins m n e).1
    by false e f g = ap (λ (r : List ℕ). run m.target m.count ++ r) g

pub sources-join : (ms : List Move) (m : Move) → sources (join_from m ms) ≡ sources (m ∷ ms)
sources-join [] m = refl
sources-join (n ∷ ns) m = by (adjoin m n) refl (sources-join ns (longer m n)) (sources-join ns n)
  where
    by : (b : Bool) → adjoin m n ≡ b → sources (join_from (longer m n) ns) ≡ sources (longer m n ∷ ns) → sources (join_from n ns) ≡ sources (n ∷ ns)
        → sources (cond b (join_from (longer m n) ns) (m ∷ join_from n ns)) ≡ sources (m ∷ n ∷ ns)
    by true e f g = f ∙ run-joined m.source m.count n.source n.count (sources ns) (adjoins m n e).0
    by false e f g = ap (λ (r : List ℕ). run m.source m.count ++ r) g

within-join : (v t : ℕ) (ms : List Move) (m : Move) → All (Within v t) (m ∷ ms) → All (Within v t) (join_from m ms)
within-join v t [] m h = h
within-join v t (n ∷ ns) m h = by (adjoin m n) refl (within-join v t ns (longer m n)) (within-join v t ns n h.1)
  where
    by : (b : Bool) → adjoin m n ≡ b → (All (Within v t) (longer m n ∷ ns) → All (Within v t) (join_from (longer m n) ns)) → All (Within v t) (join_from n ns)
        → All (Within v t) (cond b (join_from (longer m n) ns) (m ∷ join_from n ns))
    by true e f g =
        let a = adjoins m n e in
        f (record { source = omega (arith, h.1.0.source); target = omega (arith, h.1.0.target) }, h.1.1)
    by false e f g = (h.0, g)

length-join : (ms : List Move) (m : Move) → length (join_from m ms) ≤ suc (length ms)
length-join [] m = omega arith
length-join (n ∷ ns) m = by (adjoin m n) (length-join ns (longer m n)) (length-join ns n)
  where
    by : (b : Bool) → length (join_from (longer m n) ns) ≤ suc (length ns) → length (join_from n ns) ≤ suc (length ns)
        → length (cond b (join_from (longer m n) ns) (m ∷ join_from n ns)) ≤ suc (suc (length ns))
    by true f g = omega arith
    by false f g = omega arith

pub targets-joined : (ms : List Move) → targets (joined ms) ≡ targets ms
targets-joined [] = refl
targets-joined (m ∷ ns) = targets-join ns m

pub sources-joined : (ms : List Move) → sources (joined ms) ≡ sources ms
sources-joined [] = refl
sources-joined (m ∷ ns) = sources-join ns m

pub length-joined : (ms : List Move) → length (joined ms) ≤ length ms
length-joined [] = omega arith
length-joined (m ∷ ns) = length-join ns m

pub within-joined : (v t : ℕ) (ms : List Move) → All (Within v t) ms → All (Within v t) (joined ms)
within-joined v t [] h = tt
within-joined v t (m ∷ ms) h = within-join v t ms m h

-- ---- sixteen bytes are two eights

run-halved : (p n : ℕ) (l : List ℕ) → n ≡ 16 → run p 8 ++ (run (p + 8) 8 ++ l) ≡ run p n ++ l
run-halved p n l e = rw e (sym (run-joined p 8 (p + 8) 8 l refl))

pub targets-halved : (ms : List Move) → targets (halved ms) ≡ targets ms
targets-halved [] = refl
targets-halved (m ∷ ms) = by (is_long 16 m) refl (targets-halved ms)
  where
    by : (b : Bool) → is_long 16 m ≡ b → targets (halved ms) ≡ targets ms → targets (cond b (low m ∷ high m ∷ halved ms) (m ∷ halved ms)) ≡ targets (m ∷ ms)
    by true e g = ap (λ (r : List ℕ). run m.target 8 ++ (run (m.target + 8) 8 ++ r)) g ∙ run-halved m.target m.count (targets ms) (eqb-true m.count 16 e)
    by false e g = ap (λ (r : List ℕ). run m.target m.count ++ r) g

pub sources-halved : (ms : List Move) → sources (halved ms) ≡ sources ms
sources-halved [] = refl
sources-halved (m ∷ ms) = by (is_long 16 m) refl (sources-halved ms)
  where
    by : (b : Bool) → is_long 16 m ≡ b → sources (halved ms) ≡ sources ms → sources (cond b (low m ∷ high m ∷ halved ms) (m ∷ halved ms)) ≡ sources (m ∷ ms)
    by true e g = ap (λ (r : List ℕ). run m.source 8 ++ (run (m.source + 8) 8 ++ r)) g ∙ run-halved m.source m.count (sources ms) (eqb-true m.count 16 e)
    by false e g = ap (λ (r : List ℕ). run m.source m.count ++ r) g

pub within-halved : (v t : ℕ) (ms : List Move) → All (Within v t) ms → All (Within v t) (halved ms)
within-halved v t [] h = tt
within-halved v t (m ∷ ms) h = by (is_long 16 m) refl (within-halved v t ms h.1)
  where
    by : (b : Bool) → is_long 16 m ≡ b → All (Within v t) (halved ms) → All (Within v t) (cond b (low m ∷ high m ∷ halved ms) (m ∷ halved ms))
    by true e g =
        let q = eqb-true m.count 16 e in
        (record { source = omega (arith, h.0.source); target = omega (arith, h.0.target) }, (record { source = omega (arith, h.0.source); target = omega (arith, h.0.target) }, g))
    by false e g = (h.0, g)

-- each joined move takes at most four numbers
abbrev pub weight : List Move → ℕ
weight ms = 2 * length (eights ms) + 2 * length (fours ms) + 3 * length (parts ms)

weight-one : (m : Move) (ms : List Move) → weight (m ∷ ms) ≤ 3 + weight ms
weight-one m ms = by (is_long 8 m) (is_long 4 m) refl refl
  where
    by : (b c : Bool) → is_long 8 m ≡ b → is_long 4 m ≡ c → weight (m ∷ ms) ≤ 3 + weight ms
    by true c e f = rw e (omega arith)
    by false true e f = rw (e, f) (omega arith)
    by false false e f = rw (e, f) (omega arith)

pub weight-halved : (ms : List Move) → weight (halved ms) ≤ 4 * length ms
weight-halved [] = omega arith
weight-halved (m ∷ ms) = by (is_long 16 m) (weight-halved ms)
  where
    by : (b : Bool) → weight (halved ms) ≤ 4 * length ms → weight (cond b (low m ∷ high m ∷ halved ms) (m ∷ halved ms)) ≤ 4 * suc (length ms)
    by true g = omega arith
    by false g = omega (arith, weight-one m (halved ms))

-- ---- by kind

module _ (f : Move → Bool) where
  pub select-all : (P : Move → Type 0) (ms : List Move) → All P ms → All P (select f ms)
  select-all P [] h = tt
  select-all P (m ∷ ms) h = by (f m) (select-all P ms h.1)
    where
      by : (b : Bool) → All P (select f ms) → All P (cond b (m ∷ select f ms) (select f ms))
      by true g = (h.0, g)
      by false g = g

  pub select-holds : (ms : List Move) → All (λ m. f m ≡ true) (select f ms)
  select-holds [] = tt
  select-holds (m ∷ ms) = by (f m) refl (select-holds ms)
    where
      by : (b : Bool) → f m ≡ b → All (λ m. f m ≡ true) (select f ms) → All (λ m. f m ≡ true) (cond b (m ∷ select f ms) (select f ms))
      by true e g = (e, g)
      by false e g = g

  pub select-split : (ms : List Move) → Reordered ms (select f ms ++ select (λ m. not (f m)) ms)
  select-split [] = none
  select-split (m ∷ ms) = by (f m) (select-split ms)
    where
      by : (b : Bool) → Reordered ms (select f ms ++ select (λ m. not (f m)) ms)
          → Reordered (m ∷ ms) (cond b (m ∷ select f ms) (select f ms) ++ cond (not b) (m ∷ select (λ m. not (f m)) ms) (select (λ m. not (f m)) ms))
      by true g = keep g
      by false g = both (keep g) (reordered_later m (select f ms) (select (λ m. not (f m)) ms))

  pub select_lengths : (ms : List Move) → length (select f ms) + length (select (λ m. not (f m)) ms) ≡ length ms
  select_lengths [] = refl
  select_lengths (m ∷ ms) = by (f m) (select_lengths ms)
    where
      by : (b : Bool) → length (select f ms) + length (select (λ m. not (f m)) ms) ≡ length ms
          → length (cond b (m ∷ select f ms) (select f ms)) + length (cond (not b) (m ∷ select (λ m. not (f m)) ms) (select (λ m. not (f m)) ms)) ≡ suc (length ms)
      by true g = omega arith
      by false g = omega arith

reordered_under : (ns : List Move) {ms os : List Move} → Reordered ms os → Reordered (ns ++ ms) (ns ++ os)
reordered_under [] r = r
reordered_under (n ∷ ns) r = keep (reordered_under ns r)

pub by_kind : (ms : List Move) → Reordered ms (eights ms ++ (fours ms ++ parts ms))
by_kind ms = both (select-split (is_long 8) ms) (reordered_under (eights ms) (select-split (is_long 4) (others ms)))

counted : (n : ℕ) (ms : List Move) → All (λ m. is_long n m ≡ true) ms → All (λ m. m.count ≡ n) ms
counted n [] h = tt
counted n (m ∷ ms) h = (eqb-true m.count n h.0, counted n ms h.1)

pub eights-counted : (ms : List Move) → All (λ m. m.count ≡ 8) (eights ms)
eights-counted ms = counted 8 (eights ms) (select-holds (is_long 8) ms)

pub fours-counted : (ms : List Move) → All (λ m. m.count ≡ 4) (fours ms)
fours-counted ms = counted 4 (fours ms) (select-holds (is_long 4) (others ms))
