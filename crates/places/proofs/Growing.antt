-- More arguments take no less: of registers, of the stack, and of the area. Assumes nothing.
use mathlib.Core.Path.{◌≡◌, refl, ap, ◌∙◌}
use mathlib.Core.Bool.{Bool, true, false, cond, ◌||◌}
use mathlib.Core.List.{List, ◌++◌}
use Prim.Native.Nat.{◌%◌, ◌≤◌}
use native.Mathlib.Omega.{arith}
use Rattle.places.specs.declared.Used.{Used}
use Rattle.places.specs.Shapes.{Shape}
use Rattle.places.specs.Places.{Slot, places, after, area_align, area}
use Rattle.places.specs.Statements.{strict_in}
use Rattle.places.proofs.Apart.{Grows, after-grows}
use Rattle.places.proofs.Numbers.{generals-grow, vectors-grow}
use Rattle.places.proofs.Offsets.{area-rounded, area-sixteens, strict-means}
use Rattle.places.proofs.Prefix.{after-append}

pub all-grow : (slot : Slot) (ss : List Shape) (u : Used) → Grows u (after slot u ss)
all-grow slot ss u = record { general = generals-grow slot ss u; vector = vectors-grow slot ss u; stack = after-grows slot ss u }

-- an area that is rounded up to 32 stays so, and a multiple of 32 is one of 16
multiple-more : (slot : Slot) (ss ts : List Shape) (u : Used) → area slot u (ss ++ ts) % area_align (after slot u ss) ≡ 0
multiple-more slot ss ts u = by (after slot u ss).strict refl
  where
    by : (b : Bool) → (after slot u ss).strict ≡ b → area slot u (ss ++ ts) % cond b 32 16 ≡ 0
    by true e =
        let s : (after slot u (ss ++ ts)).strict ≡ true =
        ap (λ (w : Used). w.strict) (after-append slot ss ts u) ∙ strict-means slot ts (after slot u ss) ∙ ap (λ (b : Bool). b || strict_in (places slot (after slot u ss) ts) ts) e in
        rw s at (area-rounded slot u (ss ++ ts)).multiple
    by false e = area-sixteens slot u (ss ++ ts)

-- the area is the least multiple behind the end, and the end of more arguments is no lower
pub area-more : (slot : Slot) (ss ts : List Shape) (u : Used) → area slot u ss ≤ area slot u (ss ++ ts)
area-more slot ss ts u =
    let a = area-rounded slot u ss in
    let b = area-rounded slot u (ss ++ ts) in
    let end = ap (λ (w : Used). w.stack.0) (after-append slot ss ts u) in
    a.least (area slot u (ss ++ ts)) (omega (arith, end, after-grows slot ts (after slot u ss), b.behind)) (multiple-more slot ss ts u)
