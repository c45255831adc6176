-- How much a plan takes: how many moves, how many bytes of values. Assumes nothing.
use mathlib.Core.Path.{◌≡◌, refl, ap}
use mathlib.Core.Bool.{Bool, true, false, true≢false, false≢true}
use mathlib.Core.List.{List, [], ◌∷◌}
use Prim.Native.Nat.{ℕ, suc, ◌+◌, ◌*◌, ◌-◌, ◌≤◌, ◌<◌, max}
use native.Mathlib.Omega.{arith}
use borrow.Author.Tests.{le-leb}
use lib.ListN.{length, length-append}
use Rattle.units.proofs.Raise.{raise-not_below}
use Rattle.addresses.specs.Addresses.{All}
use Rattle.places.specs.declared.Kind.{Kind}
use Rattle.places.specs.declared.Kind.TheVariants.{General as general, Vector as vector, Upper as upper, Wide as wide}
use Rattle.places.specs.declared.Used.{Used}
use Rattle.places.specs.Shapes.{Shape, Shaped, has_some, has_wide, widths, Led}
use Rattle.places.specs.Places.{eights as eightbytes, general_for, vector_for, registers_for, generals, vectors, fits, start, place_if, next_if, place, next, after}
use Rattle.places.specs.Images.{total}
use Rattle.places.proofs.Fits.{fits-true}
use Rattle.places.proofs.Apart.{narrow-widths, stack-room, next_grows}
use Rattle.plans.specs.Moves.{Move, all_fit}
use Rattle.plans.specs.Cuts.{Span, spans, pieces, cut_one, cut, twos, threes}
use Rattle.plans.proofs.Cuts.{Within}

-- ---- how many moves: one for an argument, and one more for each register at most

length-pieces : (bs : List Span) (k n : ℕ) → length (pieces k bs n) ≡ length bs
length-pieces [] k n = refl
length-pieces (b ∷ bs) k n = ap suc (length-pieces bs (k + b.room) (n - b.room))

-- the first eightbyte takes a register
first-takes : (ks : List Kind) → has_some ks ≡ true → Led false ks → 1 ≤ generals ks + vectors ks
first-takes [] e l = absurd (false≢true e)
first-takes (general ∷ ks) e l = omega arith
first-takes (vector ∷ ks) e l = omega arith
first-takes (upper ∷ ks) e l = absurd l
first-takes (wide ∷ ks) e l = omega arith

narrow-spans : (ks : List Kind) (g f : ℕ) → has_wide ks ≡ false → length (spans (registers_for g f ks)) ≡ length ks
narrow-spans [] g f e = refl
narrow-spans (general ∷ ks) g f e = ap suc (narrow-spans ks (g + general_for general) (f + vector_for general) e)
narrow-spans (vector ∷ ks) g f e = ap suc (narrow-spans ks (g + general_for vector) (f + vector_for vector) e)
narrow-spans (upper ∷ ks) g f e = ap suc (narrow-spans ks (g + general_for upper) (f + vector_for upper) e)
narrow-spans (wide ∷ ks) g f e = absurd (true≢false e)

wide-spans : (ks : List Kind) (g f : ℕ) → length ks ≤ 1 → (length (spans (registers_for g f ks)) ≤ 2) × (widths ks ≤ 4)
wide-spans [] g f l = (omega arith, omega arith)
wide-spans (general ∷ []) g f l = (omega arith, omega arith)
wide-spans (vector ∷ []) g f l = (omega arith, omega arith)
wide-spans (upper ∷ []) g f l = (omega arith, omega arith)
wide-spans (wide ∷ []) g f l = (omega arith, omega arith)
wide-spans (k ∷ m ∷ ks) g f l = absurd (omega arith)

-- no argument has more than two spans, nor more than four eightbytes in registers
few-spans : (s : Shape) (g f : ℕ) → Shaped s → (length (spans (registers_for g f s.kinds)) ≤ 2) × (widths s.kinds ≤ 4)
few-spans s g f h = by (has_wide s.kinds) refl
  where
    by : (b : Bool) → has_wide s.kinds ≡ b → (length (spans (registers_for g f s.kinds)) ≤ 2) × (widths s.kinds ≤ 4)
    by true e = wide-spans s.kinds g f (h.lone e)
    by false e = (omega (arith, narrow-spans s.kinds g f e, h.few), omega (arith, narrow-widths s.kinds e, h.few))

few-one : (u : Used) (s : Shape) (k : ℕ) → Shaped s
    → length (cut_one k (place eightbytes u s) s.size) + (u.general.0 + u.vector.0) ≤ 1 + ((next eightbytes u s).general.0 + (next eightbytes u s).vector.0)
unfolding place next
few-one u s k h = by (fits u s.kinds) refl
  where
    by : (b : Bool) → fits u s.kinds ≡ b
        → length (cut_one k (place_if eightbytes b u s) s.size) + (u.general.0 + u.vector.0) ≤ 1 + ((next_if eightbytes b u s).general.0 + (next_if eightbytes b u s).vector.0)
    by true e =
        omega (
          arith,
          length-pieces (spans (registers_for u.general.0 u.vector.0 s.kinds)) k s.size,
          (few-spans s u.general.0 u.vector.0 h).0,
          first-takes s.kinds (fits-true u s.kinds e).some h.led,
        )
    by false e = omega arith

pub few-cut : (ss : List Shape) (u : Used) (k : ℕ) → All Shaped ss
    → length (cut u k ss) + (u.general.0 + u.vector.0) ≤ length ss + ((after eightbytes u ss).general.0 + (after eightbytes u ss).vector.0)
few-cut [] u k h = omega arith
few-cut (s ∷ ss) u k h =
    omega (
      arith,
      length-append (cut_one k (place eightbytes u s) s.size) (cut (next eightbytes u s) (k + s.size) ss),
      few-one u s k h.0,
      few-cut ss (next eightbytes u s) (k + s.size) h.1,
    )

-- ---- how many bytes: 32 for an argument in registers at most, the others lie on the stack

total-one : (u : Used) (s : Shape) → Shaped s → s.size + u.stack.0 ≤ (next eightbytes u s).stack.0 + 32
total-one u s h = by (fits u s.kinds) refl
  where
    by : (b : Bool) → fits u s.kinds ≡ b → s.size + u.stack.0 ≤ (next eightbytes u s).stack.0 + 32
    by true e = omega (arith, (h.room (fits-true u s.kinds e).some).0, (few-spans s 0 0 h).1, (next_grows eightbytes u s).stack)
    by false e = unfold start in omega (arith, stack-room eightbytes u s e, raise-not_below (max 8 s.align) u.stack.0 (omega arith))

pub total-few : (ss : List Shape) (u : Used) → All Shaped ss → total ss + u.stack.0 ≤ (after eightbytes u ss).stack.0 + 32 * length ss
total-few [] u h = omega arith
total-few (s ∷ ss) u h = omega (arith, total-one u s h.0, total-few ss (next eightbytes u s) h.1)

-- ---- moves that lie within

pub all-fit : (v t : ℕ) (ms : List Move) → All (Within v t) ms → all_fit v t ms ≡ true
all-fit v t [] h = refl
all-fit v t (m ∷ ms) h = rw (le-leb (m.source + m.count) v h.0.source, le-leb (m.target + m.count) t h.0.target, all-fit v t ms h.1)

pub twos-below : (v t n : ℕ) (ms : List Move) → v < n → t < n → All (Within v t) ms → All (λ x. x < n) (twos ms)
twos-below v t n [] l k h = tt
twos-below v t n (m ∷ ms) l k h = (omega (arith, h.0.source), (omega (arith, h.0.target), twos-below v t n ms l k h.1))

pub threes-below : (v t n : ℕ) (ms : List Move) → v < n → t < n → All (Within v t) ms → All (λ x. x < n) (threes ms)
threes-below v t n [] l k h = tt
threes-below v t n (m ∷ ms) l k h = (omega (arith, h.0.source), (omega (arith, h.0.target), (omega (arith, h.0.source), threes-below v t n ms l k h.1)))
