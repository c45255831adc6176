-- Section 3.5.7, counted in bytes, fetches each unnamed argument where the layout, counted in registers, places it, and goes on to where the
-- layout goes on. Assumes nothing.
use mathlib.Core.Path.{◌≡◌, refl, sym, ap, ap₂, ◌∙◌}
use mathlib.Core.Bool.{Bool, true, false, ◌&&◌, cond, false≢true, true≢false}
use mathlib.Core.List.{List, [], ◌∷◌, ◌++◌, map}
use Prim.Native.Nat.{ℕ, ◌+◌, ◌*◌, ◌-◌, ◌%◌, ◌≤◌, max}
use native.Mathlib.Nat.{max-eq_left, max-eq_right}
use native.Mathlib.Omega.{arith}
use lib.Dec.{leb, ltb}
use lib.ListN.{length}
use borrow.Author.Tests.{ltb-true, ltb-false, leb-true, leb-false}
use Rattle.units.specs.Raise.{raise}
use Rattle.addresses.specs.Addresses.{All}
use Rattle.places.specs.declared.Kind.{Kind}
use Rattle.places.specs.declared.Kind.TheVariants.{General as general, Vector as vector, Upper as upper, Wide as wide}
use Rattle.places.specs.declared.Used.{Used}
use Rattle.places.specs.Shapes.{Shape, has_some, has_wide, Led, Shaped}
use Rattle.places.specs.Places.{Slot, slot_size, Place, in_registers, on_stack, generals, vectors, registers_for, enough, fits, start, place_if, next_if, place, next, places, after}
use Rattle.places.specs.Images.{slots, bytes_of}
use Rattle.places.proofs.Returning.{kinds-few}
use Rattle.places.proofs.Prefix.{places-append}
use Rattle.places.proofs.Fits.{slot-some}
use Rattle.places.proofs.Offsets.{rounded-up, next-slotted, after-slotted}
use Rattle.walk.specs.Offsets.{Offsets, Source, from_registers, from_stack, holds, reads, raised, read_if, step_if, read_at, step, bytes_from, walk_at, Narrow, source_in, visits, steps}

leb_same : (a b c d : ℕ) → (a ≤ b → c ≤ d) → (c ≤ d → a ≤ b) → leb a b ≡ leb c d
leb_same a b c d f g = by (leb a b) (leb c d) refl refl
  where
    by : (s t : Bool) → leb a b ≡ s → leb c d ≡ t → s ≡ t
    by true true p q = refl
    by true false p q = absurd (omega (arith, f (leb-true a b p), leb-false c d q))
    by false true p q = absurd (omega (arith, g (leb-true c d q), leb-false a b p))
    by false false p q = refl

-- byte offsets against 48 - 8 num_gp and 176 - 16 num_fp: registers against 6 and 8
pub holds_fits : (u : Used) (ks : List Kind) → length ks ≤ 2 → holds (walk_at u) ks ≡ fits u ks
unfolding holds fits walk_at enough
holds_fits u ks h =
    let few = kinds-few ks in
    ap (λ (b : Bool). has_some ks && b)
    (ap₂ ◌&&◌
    (leb_same (8 * u.general.0) (48 - 8 * generals ks) (u.general.0 + generals ks) 6 (λ p. omega arith) (λ p. omega arith))
    (leb_same (48 + 16 * u.vector.0) (176 - 16 * vectors ks) (u.vector.0 + vectors ks) 8 (λ p. omega arith) (λ p. omega arith)))

-- an upper half stands behind a vector register, so one was used
reads-slots : (ks : List Kind) (b : Bool) (g f x y : ℕ) → Led b ks → has_wide ks ≡ false → (b ≡ true → 1 ≤ f) → x ≡ 8 * g → y ≡ 48 + 16 * f
    → reads x y ks ≡ slots (registers_for g f ks)
reads-slots [] b g f x y l n v p q = refl
reads-slots (general ∷ ks) b g f x y l n v p q =
    ap₂ ◌∷◌ p (reads-slots ks false (g + 1) (f + 0) (x + 8) y l n (λ e. absurd (false≢true e)) (omega arith) (omega arith))
reads-slots (vector ∷ ks) b g f x y l n v p q =
    ap₂ ◌∷◌ q (reads-slots ks true (g + 0) (f + 1) x (y + 16) l n (λ e. omega arith) (omega arith) (omega arith))
reads-slots (upper ∷ ks) true g f x y l n v p q =
    let u = v refl in
    ap₂ ◌∷◌ (omega arith) (reads-slots ks false (g + 0) (f + 0) x y l n (λ e. absurd (false≢true e)) (omega arith) (omega arith))
reads-slots (upper ∷ ks) false g f x y l n v p q = absurd l
reads-slots (wide ∷ ks) b g f x y l n v p q = absurd (true≢false n)

-- "raises to the type's alignment where that exceeds 8": the lowest multiple of the slot and of the alignment
raised-start : (slot : Slot) (a t : ℕ) → t % slot_size slot ≡ 0 → cond (ltb (slot_size slot) a) (raise a t) t ≡ raise (max (slot_size slot) a) t
raised-start slot a t h = by (ltb (slot_size slot) a) refl
  where
    by : (b : Bool) → ltb (slot_size slot) a ≡ b → cond b (raise a t) t ≡ raise (max (slot_size slot) a) t
    by true e = rw (max-eq_right {n = slot_size slot} {m = a} (omega (arith, ltb-true (slot_size slot) a e)))
    by false e =
        let r = rounded-up (slot_size slot) t (omega (arith, slot-some slot)) in
        rw (max-eq_left {n = slot_size slot} {m = a} (ltb-false (slot_size slot) a e)) (omega (arith, r.behind, r.least t (omega arith) h))

pub offsets-same : (v w : Offsets) → v.general ≡ w.general → v.vector ≡ w.vector → v.overflow ≡ w.overflow → v ≡ w
offsets-same v w p q r = λ i. record { general = p i; vector = q i; overflow = r i }

-- B13: the walk at u fetches where the layout places
pub read-agrees : (slot : Slot) (u : Used) (s : Shape) → Shaped s → Narrow s → u.stack.0 % slot_size slot ≡ 0 → read_at slot (walk_at u) s ≡ source_in (place slot u s)
unfolding read_at place walk_at raised start
read-agrees slot u s h n m = rw (holds_fits u s.kinds h.few) (by (fits u s.kinds))
  where
    by : (b : Bool) → read_if slot b (walk_at u) s ≡ source_in (place_if slot b u s)
    by true = ap from_registers (reads-slots s.kinds false u.general.0 u.vector.0 _ _ h.led n.kinds (λ e. absurd (false≢true e)) refl refl)
    by false = ap from_stack (raised-start slot s.align u.stack.0 m)

-- and goes on to where the layout goes on
pub step-agrees : (slot : Slot) (u : Used) (s : Shape) → Shaped s → u.stack.0 % slot_size slot ≡ 0 → step slot (walk_at u) s ≡ walk_at (next slot u s)
unfolding step next walk_at raised start
step-agrees slot u s h m = rw (holds_fits u s.kinds h.few) (by (fits u s.kinds))
  where
    by : (b : Bool) → step_if slot b (walk_at u) s ≡ walk_at (next_if slot b u s)
    by true = offsets-same _ _ (omega arith) (omega arith) refl
    by false = offsets-same _ _ refl refl (ap (λ (o : ℕ). raise (slot_size slot) (o + s.size)) (raised-start slot s.align u.stack.0 m))

-- the bytes of a source are those of the place
pub bytes-in : (base : ℕ) (p : Place) (n : ℕ) → bytes_from base (source_in p) n ≡ bytes_of base p n
bytes-in base (in_registers rs) n = refl
bytes-in base (on_stack o) n = refl

pub bytes-agree : (base : ℕ) (slot : Slot) (u : Used) (s : Shape) → Shaped s → Narrow s → u.stack.0 % slot_size slot ≡ 0 → bytes_from base (read_at slot (walk_at u) s) s.size ≡ bytes_of base (place slot u s) s.size
bytes-agree base slot u s h n m = rw (read-agrees slot u s h n m) (bytes-in base (place slot u s) s.size)

-- over all arguments of a list
pub walk-agrees : (slot : Slot) (ss : List Shape) (u : Used) → All Shaped ss → All Narrow ss → u.stack.0 % slot_size slot ≡ 0 → visits slot (walk_at u) ss ≡ map source_in (places slot u ss)
walk-agrees slot [] u h n m = refl
walk-agrees slot (s ∷ ss) u h n m =
    ap₂ ◌∷◌ (read-agrees slot u s h.0 n.0 m)
    (ap (λ (o : Offsets). visits slot o ss) (step-agrees slot u s h.0 m) ∙ walk-agrees slot ss (next slot u s) h.1 n.1 (next-slotted slot u s m))

pub walk_ends : (slot : Slot) (ss : List Shape) (u : Used) → All Shaped ss → u.stack.0 % slot_size slot ≡ 0 → steps slot (walk_at u) ss ≡ walk_at (after slot u ss)
walk_ends slot [] u h m = refl
walk_ends slot (s ∷ ss) u h m =
    ap (λ (o : Offsets). steps slot o ss) (step-agrees slot u s h.0 m) ∙ walk_ends slot ss (next slot u s) h.1 (next-slotted slot u s m)

map-append : (ps qs : List Place) → map source_in (ps ++ qs) ≡ map source_in ps ++ map source_in qs
map-append [] qs = refl
map-append (p ∷ ps) qs = ap (λ (l : List Source). source_in p ∷ l) (map-append ps qs)

-- a walk that is opened after the named arguments visits the places of the unnamed, one by one
pub walk-unnamed : (slot : Slot) (named unnamed : List Shape) (u : Used) → All Shaped unnamed → All Narrow unnamed → u.stack.0 % slot_size slot ≡ 0
    → map source_in (places slot u (named ++ unnamed)) ≡ map source_in (places slot u named) ++ visits slot (walk_at (after slot u named)) unnamed
walk-unnamed slot named unnamed u h n m =
    ap (λ (l : List Place). map source_in l) (places-append slot named unnamed u)
    ∙ map-append (places slot u named) (places slot (after slot u named) unnamed)
    ∙ ap (λ (l : List Source). map source_in (places slot u named) ++ l) (sym (walk-agrees slot unnamed (after slot u named) h n (after-slotted slot named u m)))

-- "With none used they are 0, 48 and 0"
pub none-used : walk_at (record { general = record { 0 = 0 }; vector = record { 0 = 0 }; stack = record { 0 = 0 }; strict = false }) ≡ record { general = 0; vector = 48; overflow = 0 }
unfolding walk_at
none-used = refl
