-- No number of an accepted description's listing has more than five digits. Assumes nothing.
use mathlib.Core.Path.{◌≡◌, refl, ap}
use mathlib.Core.Bool.{Bool, true, false}
use mathlib.Core.List.{List, [], ◌∷◌}
use Prim.Native.Nat.{ℕ, ◌+◌, ◌-◌, ◌≤◌, ◌<◌}
use native.Mathlib.Omega.{arith}
use lib.ListN.{length}
use Rattle.description.specs.Description.{named_in, arguments_in}
use Rattle.uses.proofs.Uses.{accepted-typed}
use Rattle.places.specs.declared.Register.{Register}
use Rattle.places.specs.declared.Used.{Used}
use Rattle.places.specs.Shapes.{Shape}
use Rattle.places.specs.Places.{eights, in_registers, registers_for, fits, place, next}
use Rattle.places.specs.Recorded.{recorded}
use Rattle.places.proofs.Apart.{after-grows, stack-room}
use Rattle.places.proofs.Fits.{place-fits, place-not}
use Rattle.places.proofs.Offsets.{area-rounded}
use Rattle.layout.specs.declared.Layout.{Layout}
use Rattle.layout.specs.Arguments.{shape_at, shapes_from, shapes, used_first, used_at, area_of}
use Rattle.layout.specs.Layout.{layout_of}
use Rattle.layout.specs.Placements.{laying_at, placement_at}
use Rattle.layout.specs.Verdict.{verdict}
use Rattle.layout.proofs.Arguments.{used-next, used-split}
use Rattle.layout.proofs.Bounds.{arguments-few, argument-small}
use Rattle.layout.proofs.Layouts.{asks_at}
use Rattle.layout.proofs.Packing.{start-packed}
use Rattle.layout.proofs.Verdict.{accepted-uses, accepted-area}
use Rattle.listing.specs.PlaceWords.{offset_of}
use Rattle.listing.specs.Asks.{SmallRecord, SmallUsed, SmallLayout, Accepted}

registers-no_offset : (rs : List Register) → offset_of (recorded (in_registers rs)) ≡ 0
registers-no_offset [] = refl
registers-no_offset (a ∷ []) = refl
registers-no_offset (a ∷ b ∷ []) = refl
registers-no_offset (a ∷ b ∷ c ∷ rs) = refl

-- a place ends where the next one may start
offset-below : (u : Used) (s : Shape) → offset_of (recorded (place eights u s)) ≤ (next eights u s).stack.0
offset-below u s = by (fits u s.kinds) refl
  where
    by : (b : Bool) → fits u s.kinds ≡ b → offset_of (recorded (place eights u s)) ≤ (next eights u s).stack.0
    by true e = rw (place-fits eights u s e) (omega (arith, registers-no_offset (registers_for u.general.0 u.vector.0 s.kinds)))
    by false e = rw (place-not eights u s e) (omega (arith, stack-room eights u s e))

module _ (d : List ℕ) (right : verdict d ≡ 0) where
  stack-all : (used_at d (arguments_in d)).stack.0 ≤ area_of d
  unfolding area_of used_at
  stack-all = (area-rounded eights (used_first d) (shapes d)).behind

  pub used-small : (i : ℕ) → i ≤ arguments_in d → SmallUsed (used_at d i)
  used-small i h =
      let k = asks_at d (accepted-uses d right) i (arguments_in d) h (omega arith) in
      record {
        general = k.before.general;
        vector = k.before.vector;
        stack =
            omega (
              arith,
              after-grows eights (shapes_from d i (arguments_in d - i)) (used_at d i),
              ap (λ (u : Used). u.stack.0) (used-split d i (arguments_in d) h),
              stack-all,
              accepted-area d right,
            );
      }

  pub record_small : (i : ℕ) → i < arguments_in d → SmallRecord (placement_at d i)
  unfolding placement_at laying_at
  record_small i h =
      let s = argument-small d (accepted-uses d right) i h in
      record {
        size = s.size;
        align = s.align;
        offset =
            omega (
              arith,
              offset-below (used_at d i) (shape_at d i),
              ap (λ (u : Used). u.stack.0) (used-next d i),
              (used-small (i + 1) (omega arith)).stack,
            );
        value =
            let u = used-small i (omega arith) in
            omega (arith, start-packed d (accepted-uses d right) i (omega arith), u.general, u.vector, u.stack);
      }

  pub few-records : arguments_in d ≤ 64
  few-records = arguments-few d (accepted-uses d right)

  pub headed : 11 ≤ length d
  headed = (accepted-typed d (accepted-uses d right)).whole.headed

module _ {d : List ℕ} {l : Layout} (a : Accepted d l) where
  pub layout-small : SmallLayout l
  unfolding layout_of
  layout-small = rw a.laid (record { used = used-small d a.right (arguments_in d) (omega arith); area = accepted-area d a.right })

  pub named_small : SmallUsed l.named
  unfolding layout_of
  named_small = rw a.laid (used-small d a.right (named_in d) (accepted-typed d (accepted-uses d a.right)).named)
