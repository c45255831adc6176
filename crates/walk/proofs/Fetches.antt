-- Section 3.5.7 as code has it: at most two eightbytes, and registers counted. Assumes nothing.
use mathlib.Core.Path.{◌≡◌, refl, sym, ap, ap₂, ◌∙◌}
use mathlib.Core.Bool.{Bool, true, false, cond, true≢false}
use mathlib.Core.List.{List, [], ◌∷◌}
use Rattle.std.proofs.Common.{rules, is_le, nat_cmp}
use Prim.Native.Nat.{ℕ, suc, ◌+◌, ◌*◌, ◌-◌, ◌≤◌}
use native.Mathlib.Omega.{arith}
use lib.Dec.{leb, ltb}
use borrow.Author.Tests.{ltb-true}
use Rattle.units.specs.Raise.{raise}
use Rattle.units.proofs.Raise.{raise-below}
use Rattle.units.specs.declared.Bytes.{Bytes}
use Rattle.places.specs.declared.Kind.{Kind}
use Rattle.places.specs.declared.Kind.TheVariants.{General as general, Vector as vector, Upper as upper, Wide as wide}
use Rattle.places.specs.declared.Kinds.{Kinds}
use Rattle.places.specs.declared.Kinds.TheVariants.{Stack as NoRegister, One as Single, Two as Pair}
use Rattle.places.specs.declared.Shape.{Shape as Coded}
use Rattle.places.specs.Shapes.{has_some}
use Rattle.places.specs.Places.{eights, general_for, vector_for, generals, vectors}
use Rattle.places.specs.Recorded.{listed, asked}
use Rattle.walk.specs.declared.Walk.{Walk}
use Rattle.walk.specs.declared.Counts.{Counts}
use Rattle.walk.specs.Offsets.{from_registers, from_stack, holds, reads, raised, read_at, step}
use Rattle.walk.specs.Orders.{offsets_of, with_offsets}
use Rattle.walk.specs.Asks.{IsCounted, read_for}

-- ---- num_gp and num_fp

general-few : (k : Kind) → (general_for k ≤ 1) × (vector_for k ≤ 1)
general-few general = (omega arith, omega arith)
general-few vector = (omega arith, omega arith)
general-few upper = (omega arith, omega arith)
general-few wide = (omega arith, omega arith)

pub single-few : (k : Kind) (n m : ℕ) → n ≡ generals (k ∷ []) → m ≡ vectors (k ∷ []) → (n ≤ 1) × (m ≤ 1)
single-few k n m p q = (omega (arith, general-few k), omega (arith, general-few k))

pub listed-few : (k : Kinds) → (generals (listed k) ≤ 2) × (vectors (listed k) ≤ 2)
listed-few NoRegister = (omega arith, omega arith)
listed-few (Single k) = (omega (arith, general-few k), omega (arith, general-few k))
listed-few (Pair j k) = (omega (arith, general-few j, general-few k), omega (arith, general-few j, general-few k))

pub counted-one : (ks : Kinds) (k : Kind) (r : Counts) → ks ≡ Single k → r.general.0 ≡ 0 + general_for k → r.vector.0 ≡ 0 + vector_for k → IsCounted (listed ks) r
counted-one ks k r e p q = rw e (record { general = omega arith; vector = omega arith })

pub counted-two : (ks : Kinds) (j k : Kind) (m r : Counts) → ks ≡ Pair j k → m.general.0 ≡ 0 + general_for j → m.vector.0 ≡ 0 + vector_for j
    → r.general.0 ≡ m.general.0 + general_for k → r.vector.0 ≡ m.vector.0 + vector_for k → IsCounted (listed ks) r
counted-two ks j k m r e p q s t = rw e (record { general = omega arith; vector = omega arith })

pub one-few : (k : Kind) (m : Counts) → m.general.0 ≡ 0 + general_for k → m.vector.0 ≡ 0 + vector_for k → (m.general.0 ≤ 1) × (m.vector.0 ≤ 1)
one-few k m p q = (omega (arith, general-few k), omega (arith, general-few k))

-- ---- the bounds 48 and 176

pub holds-none : (w : Walk) (k : Kinds) → has_some (listed k) ≡ false → false ≡ holds (offsets_of w) (listed k)
unfolding holds
holds-none w k e = rw e

-- a type that its class lets be in registers
pub some-kinds : (k : Kinds) → (k ≡ NoRegister → ⊥) → has_some (listed k) ≡ true
some-kinds NoRegister h = absurd (h refl)
some-kinds (Single k) h = refl
some-kinds (Pair j k) h = refl

pub is_le-leb : (a b : ℕ) → is_le (nat_cmp a b) ≡ leb a b
is_le-leb a b = search rules

module _ (w : Walk) (k : Kinds) (some : has_some (listed k) ≡ true) (g : ℕ) (bound : g ≡ 48 - 8 * generals (listed k)) where
  pub holds-general : leb w.general.0 g ≡ false → false ≡ holds (offsets_of w) (listed k)
  unfolding holds
  holds-general e = rw (some, ← bound, e)

  pub holds-vector : (f : ℕ) → f ≡ 176 - 16 * vectors (listed k) → leb w.general.0 g ≡ true → leb w.vector.0 f ≡ holds (offsets_of w) (listed k)
  unfolding holds
  holds-vector f q e = rw (some, ← bound, e, ← q)

-- a type that goes on the stack by its class does not hold
pub none-fits : (w : Walk) (k : Kinds) (b : Bool) → k ≡ NoRegister → b ≡ holds (offsets_of w) (listed k) → b ≡ true → ⊥
none-fits w k b e p q = true≢false (sym q ∙ p ∙ sym (holds-none w k (rw e)))

-- ---- where it is fetched

pub read-stack : (w : Walk) (s : Coded) (n : ℕ) → holds (offsets_of w) (listed s.kinds) ≡ false
    → n ≡ cond (ltb 8 s.align.0) (raise s.align.0 w.overflow.0) w.overflow.0 → from_stack n ≡ read_at eights (offsets_of w) (asked s)
unfolding read_at raised
read-stack w s n e p = rw e (ap from_stack p)

read_first : (g f : ℕ) (k : Kind) (ks : List Kind) → reads g f (k ∷ ks) ≡ read_for g f k ∷ reads (g + 8 * general_for k) (f + 16 * vector_for k) ks
read_first g f general ks =
    let e : f ≡ f + 16 * vector_for general = omega arith in ap (λ (h : ℕ). g ∷ reads (g + 8) h ks) e
read_first g f vector ks =
    let e : g ≡ g + 8 * general_for vector = omega arith in ap (λ (h : ℕ). f ∷ reads h (f + 16) ks) e
read_first g f upper ks =
    let e : g ≡ g + 8 * general_for upper = omega arith in
    let q : f ≡ f + 16 * vector_for upper = omega arith in
    ap₂ (λ (h : ℕ) (i : ℕ). (f - 8) ∷ reads h i ks) e q
read_first g f wide ks =
    let e : g ≡ g + 8 * general_for wide = omega arith in ap (λ (h : ℕ). f ∷ reads h (f + 16) ks) e

pub read_one : (w : Walk) (s : Coded) (k : Kind) (c : Counts) (n : ℕ) → s.kinds ≡ Single k → holds (offsets_of w) (listed s.kinds) ≡ true → IsCounted [] c
    → n ≡ read_for (w.general.0 + 8 * c.general.0) (w.vector.0 + 16 * c.vector.0) k → from_registers (n ∷ []) ≡ read_at eights (offsets_of w) (asked s)
unfolding read_at
read_one w s k c n e h z p =
    let g : w.general.0 + 8 * c.general.0 ≡ w.general.0 = omega (arith, z.general) in
    let f : w.vector.0 + 16 * c.vector.0 ≡ w.vector.0 = omega (arith, z.vector) in
    rw h (ap from_registers
    (ap (λ (m : ℕ). m ∷ []) (p ∙ ap₂ (λ (x : ℕ) (y : ℕ). read_for x y k) g f)
    ∙ sym (rw e (read_first w.general.0 w.vector.0 k []))))

pub read-two : (w : Walk) (s : Coded) (j k : Kind) (c d : Counts) (n m : ℕ) → s.kinds ≡ Pair j k → holds (offsets_of w) (listed s.kinds) ≡ true
    → IsCounted [] c → IsCounted (j ∷ []) d
    → n ≡ read_for (w.general.0 + 8 * c.general.0) (w.vector.0 + 16 * c.vector.0) j
    → m ≡ read_for (w.general.0 + 8 * d.general.0) (w.vector.0 + 16 * d.vector.0) k
    → from_registers (n ∷ m ∷ []) ≡ read_at eights (offsets_of w) (asked s)
unfolding read_at
read-two w s j k c d n m e h z y p q =
    let g : w.general.0 + 8 * c.general.0 ≡ w.general.0 = omega (arith, z.general) in
    let f : w.vector.0 + 16 * c.vector.0 ≡ w.vector.0 = omega (arith, z.vector) in
    let u : w.general.0 + 8 * d.general.0 ≡ w.general.0 + 8 * general_for j = omega (arith, y.general) in
    let v : w.vector.0 + 16 * d.vector.0 ≡ w.vector.0 + 16 * vector_for j = omega (arith, y.vector) in
    let first = p ∙ ap₂ (λ (a : ℕ) (b : ℕ). read_for a b j) g f in
    let second = q ∙ ap₂ (λ (a : ℕ) (b : ℕ). read_for a b k) u v in
    rw h (ap from_registers
    (ap₂ (λ (a : ℕ) (b : ℕ). a ∷ b ∷ []) first second
    ∙ sym (rw e (read_first w.general.0 w.vector.0 j (k ∷ []) ∙ ap (λ (l : List ℕ). read_for w.general.0 w.vector.0 j ∷ l)
    (read_first (w.general.0 + 8 * general_for j) (w.vector.0 + 16 * vector_for j) k [])))))

-- ---- where the walk stands after it

pub walk_same : (v w : Walk) → v.number ≡ w.number → v.position ≡ w.position → v.general.0 ≡ w.general.0 → v.vector.0 ≡ w.vector.0
    → v.overflow.0 ≡ w.overflow.0 → v ≡ w
walk_same v w n p g f o =
    λ i. record { number = n i; position = p i; general = record { 0 = g i }; vector = record { 0 = f i }; overflow = record { 0 = o i } }

pub moved-registers : (w : Walk) (s : Coded) (p : ℕ) (g f : Bytes) → holds (offsets_of w) (listed s.kinds) ≡ true → p ≡ w.position + 1
    → g.0 ≡ w.general.0 + 8 * generals (listed s.kinds) → f.0 ≡ w.vector.0 + 16 * vectors (listed s.kinds)
    → ◌≡◌ {A = Walk} (record { number = w.number; position = p; general = g; vector = f; overflow = w.overflow })
    (with_offsets w.number (suc w.position) (step eights (offsets_of w) (asked s)))
unfolding step
moved-registers w s p g f h e x y = rw h (walk_same _ _ refl (omega arith) x y refl)

pub moved-stack : (w : Walk) (s : Coded) (p r : ℕ) (o : Bytes) → holds (offsets_of w) (listed s.kinds) ≡ false → p ≡ w.position + 1
    → r ≡ cond (ltb 8 s.align.0) (raise s.align.0 w.overflow.0) w.overflow.0 → o.0 ≡ raise 8 (r + s.size.0)
    → ◌≡◌ {A = Walk} (record { number = w.number; position = p; general = w.general; vector = w.vector; overflow = o })
    (with_offsets w.number (suc w.position) (step eights (offsets_of w) (asked s)))
unfolding step raised
moved-stack w s p r o h e x y = rw h (walk_same _ _ refl (omega arith) refl refl (y ∙ ap (λ (n : ℕ). raise 8 (n + s.size.0)) x))

-- no sum overflows
pub raised-small : (a o r : ℕ) → a ≤ 32 → o ≤ 1048576 → r ≡ cond (ltb 8 a) (raise a o) o → r ≤ 1048608
raised-small a o r m l e = by (ltb 8 a) refl e
  where
    by : (b : Bool) → ltb 8 a ≡ b → r ≡ cond b (raise a o) o → r ≤ 1048608
    by true t p = omega (arith, raise-below a o (omega (arith, ltb-true 8 a t)))
    by false t p = omega arith
