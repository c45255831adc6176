-- How many bytes of values there can be: those of a register argument lie in its registers, those of a stack argument in the area. Assumes nothing.
use mathlib.Core.Path.{◌≡◌, refl, ap}
use mathlib.Core.Bool.{Bool, true, false, cond}
use mathlib.Core.List.{List, [], ◌∷◌}
use Prim.Native.Nat.{ℕ, zero, suc, ◌+◌, ◌*◌, ◌≤◌, max}
use native.Mathlib.Numerals.{add-one}
use native.Mathlib.Omega.{arith}
use Rattle.description.specs.Description.{arguments_in}
use Rattle.uses.specs.Uses.{uses_refusal}
use Rattle.places.specs.declared.Kind.{Kind}
use Rattle.places.specs.declared.Kind.TheVariants.{General as general, Vector as vector, Upper as upper, Wide as wide}
use Rattle.places.specs.declared.Used.{Used}
use Rattle.places.specs.Shapes.{Shape, Shaped, Led, widths}
use Rattle.places.specs.Places.{eights, generals, vectors, fits, start, next}
use Rattle.units.proofs.Raise.{raise-not_below}
use Rattle.places.proofs.Fits.{clash, fits-true, next_fits, next-not}
use Rattle.places.proofs.Apart.{stack-room}
use Rattle.layout.specs.Arguments.{shape_at, used_at, value_start}
use Rattle.layout.proofs.Arguments.{used-next, start_none, start-next}
use Rattle.layout.proofs.Bounds.{argument-shaped}

-- an eightbyte for each general register, and at most four for each vector register: an upper half stands behind its own
led-widths : (b : Bool) (ks : List Kind) → Led b ks → widths ks ≤ generals ks + 4 * vectors ks + cond b 1 0
led-widths b [] l = omega arith
led-widths b (general ∷ ks) l = omega (arith, led-widths false ks l)
led-widths b (vector ∷ ks) l = omega (arith, led-widths true ks l)
led-widths true (upper ∷ ks) l = omega (arith, led-widths false ks l)
led-widths false (upper ∷ ks) l = absurd l
led-widths b (wide ∷ []) l = omega arith
led-widths b (wide ∷ k ∷ ks) l = clash l

-- an argument's bytes are no more than what it takes, of registers or of the stack
one-packed : (u : Used) (s : Shape) → Shaped s
    → (u.stack.0 + 8 * u.general.0 + 32 * u.vector.0) + s.size ≤ (next eights u s).stack.0 + 8 * (next eights u s).general.0 + 32 * (next eights u s).vector.0
one-packed u s h = by (fits u s.kinds) refl
  where
    by : (b : Bool) → fits u s.kinds ≡ b
        → (u.stack.0 + 8 * u.general.0 + 32 * u.vector.0) + s.size ≤ (next eights u s).stack.0 + 8 * (next eights u s).general.0 + 32 * (next eights u s).vector.0
    by true e = rw (next_fits eights u s e) (omega (arith, (h.room (fits-true u s.kinds e).some).0, led-widths false s.kinds h.led))
    by false e =
        let behind : u.stack.0 ≤ start eights u s = unfold start in raise-not_below (max 8 s.align) u.stack.0 (omega arith) in
        omega (
          arith,
          behind,
          stack-room eights u s e,
          ap (λ (w : Used). w.general.0) (next-not eights u s e),
          ap (λ (w : Used). w.vector.0) (next-not eights u s e),
        )

-- so the values before argument i have no more bytes than what is used: 48 of general registers, 256 of vector registers and their upper halves, and the stack
pub start-packed : (d : List ℕ) → uses_refusal d ≡ 0 → (i : ℕ) → i ≤ arguments_in d
    → value_start d i ≤ (used_at d i).stack.0 + 8 * (used_at d i).general.0 + 32 * (used_at d i).vector.0
start-packed d right zero h = omega (arith, start_none d)
start-packed d right (suc i) h =
    rw (← add-one i)
    (rw (used-next d i)
    (omega (arith, start-next d i, start-packed d right i (omega arith), one-packed (used_at d i) (shape_at d i) (argument-shaped d right i (omega arith)))))
