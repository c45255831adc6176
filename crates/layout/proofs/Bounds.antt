-- What bounds everything that an accepted description asks (A6), and the steps of the loop that lays it out. Assumes nothing.
use mathlib.Core.Path.{◌≡◌}
use mathlib.Core.Bool.{false}
use mathlib.Core.List.{List}
use Prim.Native.Nat.{ℕ, zero, suc, ◌+◌, ◌≤◌, ◌<◌}
use native.Mathlib.Omega.{arith}
use Rattle.addresses.specs.Addresses.{All}
use borrow.Author.Tests.{le-ltb}
use Rattle.description.specs.Description.{types_in, named_in, arguments_in, argument_at, model_in}
use Rattle.form.proofs.Form.{accepted-counts}
use Rattle.types.proofs.Large.{accepted-form, accepted-sized}
use Rattle.types.proofs.Laws.{size_low, type-filled}
use Rattle.uses.specs.Uses.{uses_refusal}
use Rattle.uses.proofs.Uses.{accepted-types, accepted-typed}
use Rattle.places.specs.declared.Used.{Used}
use Rattle.types.specs.Decode.{ty_at}
use Rattle.places.specs.Shapes.{has_wide, shape_of, Shaped}
use Rattle.places.specs.Places.{eights, next}
use Rattle.places.specs.Recorded.{Small, Room}
use Rattle.places.proofs.Fits.{next-bounds}
use Rattle.places.proofs.Offsets.{next-room}
use Rattle.places.proofs.Guaranteed.{shape_narrow, accepted-shaped, accepted-small_shape}
use Rattle.layout.specs.Arguments.{is_named, shape_at, shapes_from, shapes}
use Rattle.layout.specs.Asks.{Before}

module _ (d : List ℕ) (right : uses_refusal d ≡ 0) where
  pub arguments-few : arguments_in d ≤ 64
  arguments-few = (accepted-counts d (accepted-form d (accepted-types d right))).arguments

  pub types-few : types_in d ≤ 64
  types-few = (accepted-counts d (accepted-form d (accepted-types d right))).types

  pub argument-known : (i : ℕ) → i < arguments_in d → argument_at d i < types_in d
  argument-known i h = (accepted-typed d right).below i h

  pub argument-small : (i : ℕ) → i < arguments_in d → Small (shape_at d i)
  unfolding shape_at
  argument-small i h = accepted-small_shape d (accepted-types d right) (argument_at d i) (argument-known i h) (is_named d i)

  -- no argument is empty
  pub argument-some : (i : ℕ) → i < arguments_in d → 1 ≤ (shape_at d i).size
  unfolding shape_at shape_of
  argument-some i h =
      let k = argument_at d i in
      size_low (model_in d) (ty_at d k) (type-filled d k (accepted-sized d (accepted-types d right) k (argument-known i h)))

  pub argument-shaped : (i : ℕ) → i < arguments_in d → Shaped (shape_at d i)
  unfolding shape_at
  argument-shaped i h = accepted-shaped d (accepted-types d right) (argument_at d i) (argument-known i h) (is_named d i)

  -- each of the arguments asks for what classification guarantees
  pub shapes-shaped : (n i : ℕ) → i + n ≤ arguments_in d → All Shaped (shapes_from d i n)
  unfolding shapes_from
  shapes-shaped zero i h = tt
  shapes-shaped (suc n) i h = (argument-shaped i (omega arith), shapes-shaped n (i + 1) (omega arith))

  pub all-shaped : All Shaped (shapes d)
  all-shaped = shapes-shaped (arguments_in d) 0 (omega arith)

  pub before-next : (i : ℕ) (u : Used) → i < arguments_in d → Before i u → Before (i + 1) (next eights u (shape_at d i))
  before-next i u h b =
      let k = next-bounds eights u (shape_at d i) b.general b.vector in
      record { general = k.0; vector = k.1; stack = omega (arith, next-room eights u (shape_at d i) (argument-small i h), b.stack) }

-- an unnamed argument has no wide kind
pub unnamed-narrow : (d : List ℕ) (i : ℕ) → named_in d ≤ i → has_wide (shape_at d i).kinds ≡ false
unfolding shape_at is_named
unnamed-narrow d i h = rw (le-ltb i (named_in d) h) (shape_narrow (model_in d) (ty_at d (argument_at d i)))

-- what `Used::place` asks
pub before-room : (i : ℕ) (u : Used) → i ≤ 64 → Before i u → Room u
before-room i u h b = record { general = b.general; vector = b.vector; stack = omega (arith, b.stack) }
