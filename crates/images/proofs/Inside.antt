-- The place that the layout gives an argument lies within the images, whatever holds it in code. Assumes nothing.
use mathlib.Core.Path.{◌≡◌, refl}
use mathlib.Core.Bool.{Bool, true, false, false≢true}
use mathlib.Core.List.{List, [], ◌∷◌}
use Prim.Native.Nat.{ℕ, ◌+◌, ◌*◌, ◌≤◌, ◌<◌}
use native.Mathlib.Omega.{arith}
use lib.ListN.{length}
use Rattle.places.specs.declared.Kind.{Kind}
use Rattle.places.specs.declared.Kind.TheVariants.{General as general, Vector as vector, Upper as upper, Wide as wide}
use Rattle.places.specs.declared.Used.{Used}
use Rattle.places.specs.Shapes.{Shape, has_some, has_wide, widths, Led, Shaped}
use Rattle.places.specs.Places.{eights, Place, in_registers, generals, vectors, registers_for, fits, place_if, place, next}
use Rattle.places.specs.Recorded.{place_of, recorded}
use Rattle.places.proofs.Fits.{fits-true}
use Rattle.places.proofs.Apart.{stack-room}
use Rattle.images.specs.Asks.{Inside}

-- the record of a place says that place, and lies within images whose stack has n bytes
abbrev Recorded : Place → ℕ → ℕ → Type 0
Recorded p size n = (place_of (recorded p) ≡ p) × Inside (recorded p) size n

-- one or two registers, or a wide one alone
registers-inside : (ks : List Kind) (g f size n : ℕ) → Led false ks → length ks ≤ 2 → (has_wide ks ≡ true → length ks ≤ 1) → has_some ks ≡ true
    → (size ≤ 8 * widths ks) × (8 * widths ks < size + 8) → g + generals ks ≤ 6 → f + vectors ks ≤ 8 → Recorded (in_registers (registers_for g f ks)) size n
unfolding Inside
registers-inside [] g f size n led few lone some room l m = absurd (false≢true some)
registers-inside (general ∷ []) g f size n led few lone some room l m = (refl, (omega arith, omega arith))
registers-inside (vector ∷ []) g f size n led few lone some room l m = (refl, (omega arith, omega arith))
registers-inside (wide ∷ []) g f size n led few lone some room l m = (refl, (omega arith, (omega arith, omega arith)))
registers-inside (upper ∷ ks) g f size n led few lone some room l m = absurd led
registers-inside (general ∷ general ∷ []) g f size n led few lone some room l m = (refl, (omega arith, (omega arith, (omega arith, omega arith))))
registers-inside (general ∷ vector ∷ []) g f size n led few lone some room l m = (refl, (omega arith, (omega arith, (omega arith, omega arith))))
registers-inside (general ∷ upper ∷ ks) g f size n led few lone some room l m = absurd led
registers-inside (vector ∷ general ∷ []) g f size n led few lone some room l m = (refl, (omega arith, (omega arith, (omega arith, omega arith))))
registers-inside (vector ∷ vector ∷ []) g f size n led few lone some room l m = (refl, (omega arith, (omega arith, (omega arith, omega arith))))
registers-inside (vector ∷ upper ∷ []) g f size n led few lone some room l m = (refl, (omega arith, (omega arith, (omega arith, omega arith))))
registers-inside (general ∷ wide ∷ ks) g f size n led few lone some room l m = absurd (omega (arith, lone refl))
registers-inside (vector ∷ wide ∷ ks) g f size n led few lone some room l m = absurd (omega (arith, lone refl))
registers-inside (wide ∷ k ∷ ks) g f size n led few lone some room l m = absurd (omega (arith, lone refl))
registers-inside (general ∷ general ∷ k ∷ ks) g f size n led few lone some room l m = absurd (omega arith)
registers-inside (general ∷ vector ∷ k ∷ ks) g f size n led few lone some room l m = absurd (omega arith)
registers-inside (vector ∷ general ∷ k ∷ ks) g f size n led few lone some room l m = absurd (omega arith)
registers-inside (vector ∷ vector ∷ k ∷ ks) g f size n led few lone some room l m = absurd (omega arith)
registers-inside (vector ∷ upper ∷ k ∷ ks) g f size n led few lone some room l m = absurd (omega arith)

-- the record of an argument's place says that place, and lies within images whose stack has at least what is used after it
pub place_inside : (u : Used) (s : Shape) (n : ℕ) → Shaped s → (next eights u s).stack.0 ≤ n
    → Recorded (place eights u s) s.size n
unfolding place
place_inside u s n h l = by (fits u s.kinds) refl
  where
    by : (b : Bool) → fits u s.kinds ≡ b → Recorded (place_if eights b u s) s.size n
    by true e =
        let fit = fits-true u s.kinds e in
        registers-inside s.kinds u.general.0 u.vector.0 s.size n h.led h.few h.lone fit.some (h.room fit.some) fit.general fit.vector
    by false e = (refl, unfold Inside in omega (arith, stack-room eights u s e))
