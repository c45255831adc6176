-- What the copies of one argument come to, in the images seen as one list. Assumes nothing.
use mathlib.Core.Path.{◌≡◌, refl, sym, ap, ap₂, ◌∙◌}
use mathlib.Core.List.{List, [], ◌∷◌, ◌++◌, append-nil, append_assoc}
use Prim.Native.Nat.{ℕ, ◌+◌, ◌*◌, ◌-◌, ◌≤◌, ◌<◌, ◌^◌, min}
use native.Mathlib.Decide.{dec_lt}
use native.Mathlib.Omega.{arith}
use lib.ListN.{length, get_or, length-map, length-append}
use Rattle.addresses.specs.Addresses.{run, gather, scatter, Below}
use Rattle.addresses.specs.Copy.{copied}
use Rattle.addresses.proofs.Lists.{all_append}
use Rattle.addresses.proofs.Scatter.{gather-scatter, scatter-append, gather_append}
use Rattle.addresses.proofs.Runs.{all-run, nodup_run, length_run, run-append, run-shift}
use Rattle.addresses.proofs.Parts.{scatter-left, scatter-right, gather-left, gather-right}
use Rattle.addresses.proofs.Copies.{length-copied}
use Rattle.units.specs.declared.Bytes.{Bytes}
use Rattle.places.specs.declared.Register.{Register}
use Rattle.places.specs.declared.Register.TheVariants.{General, Vector, Upper, Wide}
use Rattle.places.specs.declared.Place.{Place}
use Rattle.places.specs.declared.Place.TheVariants.{One, Two, Stack}
use Rattle.places.specs.Images.{stack_at, address_of, slots_of, spread, bytes_of}
use Rattle.places.specs.Recorded.{place_of}
use Rattle.places.proofs.Apart.{spread-adjoin}
use Rattle.images.specs.Asks.{Known, Single, Alone, Inside, AskAlone, AskMove}

-- ---- each copy has room

single-room : (r : Register) → Single r → address_of r + 8 ≤ 176
single-room (General n) h = omega arith
single-room (Vector n) h = omega arith
single-room (Upper n) h = omega arith
single-room (Wide n) h = absurd h

single-known : (r : Register) → Single r → Known r
single-known (General n) h = h
single-known (Vector n) h = h
single-known (Upper n) h = h
single-known (Wide n) h = absurd h

pub alone-known : (a : Register) (size k r y v : ℕ) → AskAlone a size k r y v → Known a
alone-known a size k r y v h = by a h.alone
  where
    by : (b : Register) → Alone b size → Known b
    by (General n) l = l.0
    by (Vector n) l = l.0
    by (Upper n) l = l.0
    by (Wide n) l = l.0

-- at most 8 bytes are an eightbyte's, and more are a wide register's
narrow-room : (r : Register) (size : ℕ) → Alone r size → size ≤ 8 → address_of r + 8 ≤ 176
narrow-room (General n) size h l = omega arith
narrow-room (Vector n) size h l = omega arith
narrow-room (Upper n) size h l = omega arith
narrow-room (Wide n) size h l = absurd (omega (arith, h.1))

record Wider (x size : ℕ) : Type 0 where
  behind : 48 ≤ x
  inside : x + 16 ≤ 176
  least : 16 ≤ size
  most : size ≤ 32

wide_room : (r : Register) (size : ℕ) → Alone r size → 8 < size → Wider (address_of r) size
wide_room (General n) size h l = absurd (omega (arith, h.1))
wide_room (Vector n) size h l = absurd (omega (arith, h.1))
wide_room (Upper n) size h l = absurd (omega (arith, h.1))
wide_room (Wide n) size h l = record { behind = omega arith; inside = omega (arith, h.0); least = h.1.0; most = h.1.1 }

module _ (a : Register) (size k r y v : ℕ) (h : AskAlone a size k r y v) (x : ℕ) (q : x ≡ address_of a) where
  pub narrow-fits : size ≤ 8 → (x + size ≤ r) × (k + size ≤ v)
  narrow-fits l = omega (arith, narrow-room a size h.alone l, h.whole, h.there)

  pub wide-low_fits : 8 < size → (x + 16 ≤ r) × (k + 16 ≤ v)
  wide-low_fits l = let w = wide_room a size h.alone l in omega (arith, w.inside, w.least, h.whole, h.there)

  pub wide-least : 8 < size → (16 ≤ size) × (48 ≤ x)
  wide-least l = let w = wide_room a size h.alone l in omega (arith, w.least, w.behind)

  pub wide-start : 8 < size → k + 16 ≤ 2 ^ 63
  wide-start l = let w = wide_room a size h.alone l in omega (arith, w.least, h.there, h.few)

  pub wide-high_fits : 8 < size → (o j m : ℕ) → o ≡ x - 48 → j ≡ k + 16 → m ≡ size - 16 → (o + m ≤ y) × (j + m ≤ v)
  wide-high_fits l o j m f g e = let w = wide_room a size h.alone l in omega (arith, w.behind, w.inside, w.least, w.most, h.above, h.there)

module _ (p : Place) (size k r y s v : ℕ) (h : AskMove p size k r y s v) where
  pub ask-one : (a : Register) → p ≡ One a → AskAlone a size k r y v
  unfolding Inside
  ask-one a e = record { whole = h.whole; above = h.above; alone = rw e at h.inside; there = h.there; few = h.few }

  ask-two : (a b : Register) → p ≡ Two a b → Single a × (Single b × ((8 ≤ size) × (size ≤ 16)))
  unfolding Inside
  ask-two a b e = rw e at h.inside

  pub two-known : (a b : Register) → p ≡ Two a b → Known a × (Known b × (8 ≤ size))
  two-known a b e = let i = ask-two a b e in (single-known a i.0, (single-known b i.1.0, i.1.1.0))

  ask-stack : (o : Bytes) → p ≡ Stack o → o.0 + size ≤ s
  unfolding Inside
  ask-stack o e = rw e at h.inside

  -- the copy's end in the image, and in the values
  pub room-low : (a b : Register) → p ≡ Two a b → (x : ℕ) → x ≡ address_of a → (x + 8 ≤ r) × (k + 8 ≤ v)
  room-low a b e x q = let i = ask-two a b e in omega (arith, single-room a i.0, h.whole, h.there)

  pub room-high : (a b : Register) → p ≡ Two a b → (z j m : ℕ) → z ≡ address_of b → j ≡ k + 8 → m ≡ size - 8 → (z + m ≤ r) × (j + m ≤ v)
  room-high a b e z j m q f g = let i = ask-two a b e in omega (arith, single-room b i.1.0, h.whole, h.there)

  pub room-stack : (o : Bytes) → p ≡ Stack o → (o.0 + size ≤ s) × (k + size ≤ v)
  room-stack o e = omega (arith, ask-stack o e, h.there)

-- ---- one copy, seen in the whole image

below-run : (p n m : ℕ) → p + n ≤ m → Below m (run p n)
below-run p n m h = all-run p n (λ k l q. omega arith)

-- a copy by way of a word
pub copied-by_word : (dst src word : List ℕ) (to from n : ℕ) → length word ≡ n → (between after : List ℕ)
    → between ≡ copied word 0 src from n → after ≡ copied dst to between 0 n → after ≡ copied dst to src from n
unfolding copied
copied-by_word dst src word to from n long between after e f =
    f
    ∙ ap (λ (vs : List ℕ). scatter dst (run to n) vs)
    (ap (λ (img : List ℕ). gather img (run 0 n)) e
    ∙ gather-scatter (run 0 n) word (gather src (run from n)) (nodup_run 0 n) (below-run 0 n (length word) (omega arith))
    (length_run 0 n ∙ sym (length-map (run from n) (λ p. get_or src p 0) ∙ length_run from n)))

pub copied-left : (r s vals : List ℕ) (a i n : ℕ) → a + n ≤ length r → copied r a vals i n ++ s ≡ scatter (r ++ s) (run a n) (gather vals (run i n))
unfolding copied
copied-left r s vals a i n h = sym (scatter-left (run a n) (gather vals (run i n)) r s (below-run a n (length r) h))

pub copied-right : (c : ℕ) (r s vals : List ℕ) (o i n : ℕ) → length r ≡ c → r ++ copied s o vals i n ≡ scatter (r ++ s) (run (c + o) n) (gather vals (run i n))
unfolding copied
copied-right c r s vals o i n h =
    sym (scatter-right (run o n) (gather vals (run i n)) r s)
    ∙ ap (λ (ps : List ℕ). scatter (r ++ s) ps (gather vals (run i n))) (run-shift (length r) o n ∙ ap (λ (q : ℕ). run (q + o) n) h)

pub gather-left_run : (r s : List ℕ) (a n : ℕ) → a + n ≤ length r → gather r (run a n) ≡ gather (r ++ s) (run a n)
gather-left_run r s a n h = sym (gather-left (run a n) r s (below-run a n (length r) h))

pub gather-right_run : (c : ℕ) (r s : List ℕ) (o n : ℕ) → length r ≡ c → gather s (run o n) ≡ gather (r ++ s) (run (c + o) n)
gather-right_run c r s o n h =
    sym (gather-right (run o n) r s) ∙ ap (λ (ps : List ℕ). gather (r ++ s) ps) (run-shift (length r) o n ∙ ap (λ (q : ℕ). run (q + o) n) h)

-- the bytes of one eightbyte, of two and of four
spread-one : (a n : ℕ) → n ≤ 8 → run a (min n 8) ++ [] ≡ run a n
spread-one a n h = let m : min n 8 ≡ n = omega arith in append-nil _ ∙ ap (run a) m

spread-two : (a b n : ℕ) → 8 ≤ n → n ≤ 16 → run a (min n 8) ++ (run b (min (n - 8) 8) ++ []) ≡ run a 8 ++ run b (n - 8)
spread-two a b n l h =
    let m : min n 8 ≡ 8 = omega arith in
    ap₂ (λ (x y : List ℕ). x ++ y) (ap (run a) m) (spread-one b (n - 8) (omega arith))

spread-four : (a c n : ℕ) → 16 ≤ n → n ≤ 32 → spread (a ∷ (a + 8) ∷ c ∷ (c + 8) ∷ []) n ≡ run a 16 ++ run c (n - 16)
spread-four a c n l h =
    let m : min n 8 ≡ 8 = omega arith in
    let o : min (n - 8) 8 ≡ 8 = omega arith in
    let e : n - 8 - 8 ≡ n - 16 = omega arith in
    ap₂ (λ (i j : ℕ). run a i ++ (run (a + 8) j ++ spread (c ∷ (c + 8) ∷ []) (n - 8 - 8))) m o
    ∙ ap (λ (x : List ℕ). run a 8 ++ (run (a + 8) 8 ++ x)) (ap (spread (c ∷ (c + 8) ∷ [])) e ∙ spread-adjoin c (n - 16) (omega arith))
    ∙ ap (λ (x : List ℕ). x ++ run c (n - 16)) (sym (run-append a 8 8))

-- the bytes of one register
spread-narrow : (a : Register) (size : ℕ) → Alone a size → size ≤ 8 → spread (slots_of a) size ≡ run (address_of a) size
spread-narrow (General n) size h l = spread-one _ size l
spread-narrow (Vector n) size h l = spread-one _ size l
spread-narrow (Upper n) size h l = spread-one _ size l
spread-narrow (Wide n) size h l = absurd (omega (arith, h.1))

spread-wide : (a : Register) (size : ℕ) → Alone a size → 8 < size → spread (slots_of a) size ≡ run (address_of a) 16 ++ run (176 + (address_of a - 48)) (size - 16)
spread-wide (General n) size h l = absurd (omega (arith, h.1))
spread-wide (Vector n) size h l = absurd (omega (arith, h.1))
spread-wide (Upper n) size h l = absurd (omega (arith, h.1))
spread-wide (Wide n) size h l =
    let b : 56 + 16 * n.0 ≡ 48 + 16 * n.0 + 8 = omega arith in
    let c : 176 + 16 * n.0 ≡ 176 + (48 + 16 * n.0 - 48) = omega arith in
    let e : 184 + 16 * n.0 ≡ 176 + (48 + 16 * n.0 - 48) + 8 = omega arith in
    rw (b, c, e) (spread-four (48 + 16 * n.0) (176 + (48 + 16 * n.0 - 48)) size h.1.0 h.1.1)

-- they lie in the register image and the upper image
spread-below : (a : Register) (size : ℕ) → Alone a size → Below stack_at (spread (slots_of a) size)
spread-below a size h = by (dec_lt 8 size)
  where
    by : Dec (8 < size) → Below stack_at (spread (slots_of a) size)
    by (no l) = rw (spread-narrow a size h (omega arith)) (below-run (address_of a) size stack_at (omega (arith, narrow-room a size h (omega arith))))
    by (yes l) =
        let w = wide_room a size h l in
        rw (spread-wide a size h l)
        (all_append (λ k. k < stack_at) (run (address_of a) 16) (run (176 + (address_of a - 48)) (size - 16))
        (below-run (address_of a) 16 stack_at (omega (arith, w.inside)))
        (below-run (176 + (address_of a - 48)) (size - 16) stack_at (omega (arith, w.behind, w.inside, w.most))))

-- two copies, one after the other
scatter-two : (img vals : List ℕ) (a b i n m : ℕ)
    → scatter (scatter img (run a n) (gather vals (run i n))) (run b m) (gather vals (run (i + n) m)) ≡ scatter img (run a n ++ run b m) (gather vals (run i (n + m)))
scatter-two img vals a b i n m =
    sym (scatter-append (run a n) (run b m) img (gather vals (run i n)) (gather vals (run (i + n) m)) (simp (length-map, length_run)))
    ∙ ap (λ (vs : List ℕ). scatter img (run a n ++ run b m) vs)
    (sym (gather_append (run i n) (run (i + n) m) vals) ∙ ap (λ (ps : List ℕ). gather vals ps) (sym (run-append i n m)))

gather-two : (img vals : List ℕ) (a b k n m : ℕ)
    → scatter (scatter vals (run k n) (gather img (run a n))) (run (k + n) m) (gather img (run b m)) ≡ scatter vals (run k (n + m)) (gather img (run a n ++ run b m))
gather-two img vals a b k n m =
    sym (scatter-append (run k n) (run (k + n) m) vals (gather img (run a n)) (gather img (run b m)) (simp (length-map, length_run)))
    ∙ ap₂ (λ (ps vs : List ℕ). scatter vals ps vs) (sym (run-append k n m)) (sym (gather_append (run a n) (run b m) img))

-- ---- one register

module _ (r y vals : List ℕ) (a : Register) (size k : ℕ) (h : AskAlone a size k (length r) (length y) (length vals)) (x : ℕ) (q : x ≡ address_of a) where
  narrow-bytes : size ≤ 8 → run x size ≡ spread (slots_of a) size
  narrow-bytes l = ap (λ (z : ℕ). run z size) q ∙ sym (spread-narrow a size h.alone l)

  wide-bytes : 8 < size → run x 16 ++ run (176 + (x - 48)) (size - 16) ≡ spread (slots_of a) size
  wide-bytes l = ap (λ (z : ℕ). run z 16 ++ run (176 + (z - 48)) (size - 16)) q ∙ sym (spread-wide a size h.alone l)

  pub placed-narrow : size ≤ 8 → (r' : List ℕ) → r' ≡ copied r x vals k size → r' ++ y ≡ scatter (r ++ y) (spread (slots_of a) size) (gather vals (run k size))
  placed-narrow l r' f =
      rw f
      (copied-left r y vals x k size (narrow-fits a size k _ _ _ h x q l).0
      ∙ ap (λ (ps : List ℕ). scatter (r ++ y) ps (gather vals (run k size))) (narrow-bytes l))

  pub gathered-narrow : size ≤ 8 → (v : List ℕ) → v ≡ copied vals k r x size → v ≡ scatter vals (run k size) (gather (r ++ y) (spread (slots_of a) size))
  unfolding copied
  gathered-narrow l v f =
      rw f
      (ap (λ (vs : List ℕ). scatter vals (run k size) vs)
      (gather-left_run r y x size (narrow-fits a size k _ _ _ h x q l).0 ∙ ap (λ (ps : List ℕ). gather (r ++ y) ps) (narrow-bytes l)))

  module _ (l : 8 < size) (o j m : ℕ) (f : o ≡ x - 48) (g : j ≡ k + 16) (e : m ≡ size - 16) where
    both : 16 + (size - 16) ≡ size
    both = omega (arith, wide-least a size k _ _ _ h x q l)

    pub placed-wide : (r' y' : List ℕ) → r' ≡ copied r x vals k 16 → y' ≡ copied y o vals j m → r' ++ y' ≡ scatter (r ++ y) (spread (slots_of a) size) (gather vals (run k size))
    placed-wide r' y' c d =
        let long : length r' ≡ 176 = ap length c ∙ length-copied r x vals k 16 ∙ h.whole in
        rw (d, f, g, e)
        (copied-right 176 r' y vals (x - 48) (k + 16) (size - 16) long
        ∙ ap (λ (z : List ℕ). scatter (z ++ y) (run (176 + (x - 48)) (size - 16)) (gather vals (run (k + 16) (size - 16)))) c
        ∙ ap (λ (img : List ℕ). scatter img (run (176 + (x - 48)) (size - 16)) (gather vals (run (k + 16) (size - 16))))
        (copied-left r y vals x k 16 (wide-low_fits a size k _ _ _ h x q l).0)
        ∙ scatter-two (r ++ y) vals x (176 + (x - 48)) k 16 (size - 16)
        ∙ ap₂ (λ (ps vs : List ℕ). scatter (r ++ y) ps vs) (wide-bytes l) (ap (λ (n : ℕ). gather vals (run k n)) both))

    pub gathered-wide : (v w : List ℕ) → v ≡ copied vals k r x 16 → w ≡ copied v j y o m → w ≡ scatter vals (run k size) (gather (r ++ y) (spread (slots_of a) size))
    unfolding copied
    gathered-wide v w c d =
        rw (d, c, f, g, e)
        (ap₂ (λ (us vs : List ℕ). scatter (scatter vals (run k 16) us) (run (k + 16) (size - 16)) vs)
        (gather-left_run r y x 16 (wide-low_fits a size k _ _ _ h x q l).0) (gather-right_run 176 r y (x - 48) (size - 16) h.whole)
        ∙ gather-two (r ++ y) vals x (176 + (x - 48)) k 16 (size - 16)
        ∙ ap₂ (λ (ps vs : List ℕ). scatter vals ps vs) (ap (run k) both) (ap (λ (ps : List ℕ). gather (r ++ y) ps) (wide-bytes l)))

-- ---- placing one argument

module _ (r y s vals : List ℕ) (p : Place) (size k : ℕ) (h : AskMove p size k (length r) (length y) (length s) (length vals)) where
  below_both : length (r ++ y) ≡ stack_at
  below_both = length-append r y ∙ omega (arith, h.whole, h.above)

  alone-below : (a : Register) → p ≡ One a → Below (length (r ++ y)) (spread (slots_of a) size)
  alone-below a e = rw below_both (spread-below a size (ask-one p size k _ _ _ _ h a e).alone)

  one-bytes : (a : Register) → p ≡ One a → spread (slots_of a) size ≡ bytes_of stack_at (place_of p) size
  one-bytes a e = rw e (ap (λ (bs : List ℕ). spread bs size) (sym (append-nil (slots_of a))))

  two_bytes : (a b : Register) → p ≡ Two a b → run (address_of a) 8 ++ run (address_of b) (size - 8) ≡ bytes_of stack_at (place_of p) size
  two_bytes a b e =
      let i = ask-two p size k _ _ _ _ h a b e in
      rw e
      (sym (spread-two (address_of a) (address_of b) size i.1.1.0 i.1.1.1)
      ∙ ap (λ (bs : List ℕ). spread bs size) (sym (ap₂ (λ (us vs : List ℕ). us ++ (vs ++ [])) (single-slot a i.0) (single-slot b i.1.0))))
    where
      single-slot : (c : Register) → Single c → slots_of c ≡ address_of c ∷ []
      single-slot (General n) g = refl
      single-slot (Vector n) g = refl
      single-slot (Upper n) g = refl
      single-slot (Wide n) g = absurd g

  pub placed_one : (a : Register) → p ≡ One a → (img : List ℕ) → img ≡ scatter (r ++ y) (spread (slots_of a) size) (gather vals (run k size))
      → img ++ s ≡ scatter (r ++ (y ++ s)) (bytes_of stack_at (place_of p) size) (gather vals (run k size))
  placed_one a e img f =
      ap (λ (x : List ℕ). x ++ s) f
      ∙ sym (scatter-left (spread (slots_of a) size) (gather vals (run k size)) (r ++ y) s (alone-below a e))
      ∙ ap₂ (λ (x ps : List ℕ). scatter x ps (gather vals (run k size))) (append_assoc r y s) (one-bytes a e)

  pub placed-stack : (o : Bytes) → p ≡ Stack o → (s' : List ℕ) → s' ≡ copied s o.0 vals k size
      → r ++ (y ++ s') ≡ scatter (r ++ (y ++ s)) (bytes_of stack_at (place_of p) size) (gather vals (run k size))
  placed-stack o e s' f =
      rw (e, f)
      (sym (append_assoc r y (copied s o.0 vals k size))
      ∙ copied-right stack_at (r ++ y) s vals o.0 k size below_both
      ∙ ap (λ (img : List ℕ). scatter img (run (stack_at + o.0) size) (gather vals (run k size))) (append_assoc r y s))

  pub placed-two : (a b : Register) → p ≡ Two a b → (x z j m : ℕ) → x ≡ address_of a → z ≡ address_of b → j ≡ k + 8 → m ≡ size - 8
      → (r' r'' : List ℕ) → r' ≡ copied r x vals k 8 → r'' ≡ copied r' z vals j m
      → r'' ++ (y ++ s) ≡ scatter (r ++ (y ++ s)) (bytes_of stack_at (place_of p) size) (gather vals (run k size))
  placed-two a b e x z j m qx qz qj qm r' r'' f g =
      let low = room-low p size k _ _ _ _ h a b e x qx in
      let high = room-high p size k _ _ _ _ h a b e z j m qz qj qm in
      let i = ask-two p size k _ _ _ _ h a b e in
      let both : 8 + (size - 8) ≡ size = omega arith in
      let l : z + (size - 8) ≤ length (copied r x vals k 8) = rw length-copied (omega arith) in
      let bytes : run x 8 ++ run z (size - 8) ≡ bytes_of stack_at (place_of p) size = ap₂ (λ (u w : ℕ). run u 8 ++ run w (size - 8)) qx qz ∙ two_bytes a b e in
      rw (g, f, qj, qm)
      (copied-left (copied r x vals k 8) (y ++ s) vals z (k + 8) (size - 8) l
      ∙ ap (λ (img : List ℕ). scatter img (run z (size - 8)) (gather vals (run (k + 8) (size - 8)))) (copied-left r (y ++ s) vals x k 8 low.0)
      ∙ scatter-two (r ++ (y ++ s)) vals x z k 8 (size - 8)
      ∙ ap₂ (λ (ps vs : List ℕ). scatter (r ++ (y ++ s)) ps vs) bytes (ap (λ (n : ℕ). gather vals (run k n)) both))

  -- ---- gathering one argument

  pub gathered-one : (a : Register) → p ≡ One a → (v : List ℕ) → v ≡ scatter vals (run k size) (gather (r ++ y) (spread (slots_of a) size))
      → v ≡ scatter vals (run k size) (gather (r ++ (y ++ s)) (bytes_of stack_at (place_of p) size))
  gathered-one a e v f =
      f
      ∙ ap (λ (vs : List ℕ). scatter vals (run k size) vs)
      (sym (gather-left (spread (slots_of a) size) (r ++ y) s (alone-below a e)) ∙ ap₂ (λ (img ps : List ℕ). gather img ps) (append_assoc r y s) (one-bytes a e))

  pub gathered-stack : (o : Bytes) → p ≡ Stack o → (v : List ℕ) → v ≡ copied vals k s o.0 size
      → v ≡ scatter vals (run k size) (gather (r ++ (y ++ s)) (bytes_of stack_at (place_of p) size))
  unfolding copied
  gathered-stack o e v f =
      rw (e, f)
      (ap (λ (vs : List ℕ). scatter vals (run k size) vs)
      (gather-right_run stack_at (r ++ y) s o.0 size below_both ∙ ap (λ (img : List ℕ). gather img (run (stack_at + o.0) size)) (append_assoc r y s)))

  pub gathered-two : (a b : Register) → p ≡ Two a b → (x z j m : ℕ) → x ≡ address_of a → z ≡ address_of b → j ≡ k + 8 → m ≡ size - 8
      → (v w : List ℕ) → v ≡ copied vals k r x 8 → w ≡ copied v j r z m
      → w ≡ scatter vals (run k size) (gather (r ++ (y ++ s)) (bytes_of stack_at (place_of p) size))
  unfolding copied
  gathered-two a b e x z j m qx qz qj qm v w f g =
      let low = room-low p size k _ _ _ _ h a b e x qx in
      let high = room-high p size k _ _ _ _ h a b e z j m qz qj qm in
      let i = ask-two p size k _ _ _ _ h a b e in
      let both : 8 + (size - 8) ≡ size = omega arith in
      let bytes : run x 8 ++ run z (size - 8) ≡ bytes_of stack_at (place_of p) size = ap₂ (λ (c d : ℕ). run c 8 ++ run d (size - 8)) qx qz ∙ two_bytes a b e in
      rw (g, f, qj, qm)
      (ap₂ (λ (us vs : List ℕ). scatter (scatter vals (run k 8) us) (run (k + 8) (size - 8)) vs)
      (gather-left_run r (y ++ s) x 8 low.0) (gather-left_run r (y ++ s) z (size - 8) (omega arith))
      ∙ gather-two (r ++ (y ++ s)) vals x z k 8 (size - 8)
      ∙ ap₂ (λ (ps vs : List ℕ). scatter vals ps vs) (ap (run k) both) (ap (λ (ps : List ℕ). gather (r ++ (y ++ s)) ps) bytes))
