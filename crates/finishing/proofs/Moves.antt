-- Step after step: a record that stands where the description says moves to the next that does, to the end. Assumes nothing.
use mathlib.Core.Path.{◌≡◌, refl, sym, ap, ap₂, ◌∙◌}
use mathlib.Core.List.{List}
use Prim.Native.Nat.{ℕ, suc, ◌+◌, ◌-◌, ◌%◌, ◌≤◌, ◌<◌}
use native.Mathlib.Omega.{arith}
use lib.ListN.{take}
use Rattle.places.specs.Shapes.{Shaped}
use Rattle.places.specs.Places.{slot_size}
use Rattle.places.proofs.Prefix.{after-at}
use Rattle.places.proofs.Offsets.{after-slotted}
use Rattle.station.specs.Paper.{Paper, arguments, shape_at, used_at}
use Rattle.walk.specs.declared.Walk.{Walk}
use Rattle.walk.specs.Offsets.{Offsets, walk_at}
use Rattle.walk.specs.Orders.{with_offsets, standing}
use Rattle.walk.specs.Steps.{moved_on}
use Rattle.walk.proofs.Agreement.{step-agrees}
use Rattle.walk.proofs.Checks.{Genuine}
use Rattle.finishing.specs.Rest.{remaining, sizes_from, moved_over}

module _ (P : Paper) where
  -- the record that stands before p moves to the one that stands before the next
  pub stand_moves : (d : List ℕ) (n p : ℕ) → Shaped (shape_at P d p) → (P.first d).stack.0 % slot_size P.slot ≡ 0 → p < arguments P d
      → moved_on P d (standing P d n p) ≡ standing P d n (suc p)
  unfolding moved_on standing used_at shape_at arguments
  stand_moves d n p h m l =
      ap (λ (o : Offsets). with_offsets n (suc p) o)
      (step-agrees P.slot (used_at P d p) (shape_at P d p) h (after-slotted P.slot (take p (P.shapes d)) (P.first d) m)
      ∙ ap walk_at (sym (after-at P.slot (P.shapes d) (P.first d) p _ l)))

  pub moved-number : (d : List ℕ) (w : Walk) → ((moved_on P d w).number ≡ w.number) × ((moved_on P d w).position ≡ suc w.position)
  unfolding moved_on
  moved-number d w = (refl, refl)

  pub genuine_moves : (d : List ℕ) (w : Walk) → Genuine P d w → Shaped (shape_at P d w.position) → (P.first d).stack.0 % slot_size P.slot ≡ 0
      → w.position < arguments P d → Genuine P d (moved_on P d w)
  genuine_moves d w g h m l =
      let e = moved-number d w in
      let f : moved_on P d w ≡ standing P d w.number (suc w.position) = ap (moved_on P d) g.same ∙ stand_moves d w.number w.position h m l in
      record {
        same = f ∙ ap₂ (standing P d) (sym e.0) (sym e.1);
        from = omega (arith, g.from, e.1);
        to = omega (arith, e.1);
      }

  -- ---- one argument less

  pub remaining-next : (d : List ℕ) (w : Walk) → w.position < arguments P d → remaining P d w ≡ suc (remaining P d (moved_on P d w))
  unfolding remaining
  remaining-next d w l = let e = moved-number d w in omega (arith, e.1)

  pub remaining-none : (d : List ℕ) (w : Walk) → arguments P d ≤ w.position → remaining P d w ≡ 0
  unfolding remaining
  remaining-none d w l = omega arith

  pub moved-next : (d : List ℕ) (w : Walk) → w.position < arguments P d
      → moved_over P d (remaining P d w) w ≡ moved_over P d (remaining P d (moved_on P d w)) (moved_on P d w)
  moved-next d w l = rw (remaining-next d w l)

  pub sizes-next : (d : List ℕ) (p n : ℕ) → p < n → sizes_from P d p (n - p) ≡ (shape_at P d p).size + sizes_from P d (suc p) (n - suc p)
  sizes-next d p n l = let e : n - p ≡ suc (n - suc p) = omega arith in rw e

  pub sizes-rest : (d : List ℕ) (w : Walk) → w.position < arguments P d
      → sizes_from P d w.position (remaining P d w) ≡ (shape_at P d w.position).size + sizes_from P d (moved_on P d w).position (remaining P d (moved_on P d w))
  sizes-rest d w l = rw (remaining-next d w l) (ap (λ (p : ℕ). (shape_at P d w.position).size + sizes_from P d p (remaining P d (moved_on P d w))) (sym (moved-number d w).1))
