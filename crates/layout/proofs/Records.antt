-- What the records of an accepted description are sure of: their addresses are those that bytes are moved by, and all is bounded (A6). Assumes nothing.
use mathlib.Core.Path.{◌≡◌, refl, sym, ap, ap₂, ◌∙◌}
use mathlib.Core.List.{List, ◌++◌}
use Prim.Native.Nat.{ℕ, zero, suc, ◌+◌, ◌≤◌, ◌<◌}
use native.Mathlib.Omega.{arith}
use Rattle.description.specs.Description.{arguments_in, IsBytes, model_in}
use Rattle.form.proofs.Form.{accepted-length}
use Rattle.types.specs.Decode.{ty_at}
use Rattle.types.proofs.Large.{accepted-form, accepted-small, accepted-sized}
use Rattle.types.proofs.Laws.{size_low, align-divides, type-filled}
use Rattle.uses.specs.Uses.{uses_refusal}
use Rattle.uses.proofs.Uses.{accepted-types}
use Rattle.places.specs.declared.Used.{Used}
use Rattle.places.specs.Places.{eights, Place, place}
use Rattle.places.specs.Images.{stack_at, bytes_of, addresses}
use Rattle.places.specs.Recorded.{place_of}
use Rattle.places.proofs.Records.{place-written}
use Rattle.places.proofs.Offsets.{area-rounded, area-sixteens}
use Rattle.layout.specs.Arguments.{is_named, shape_at, shapes_from, shapes, used_first, used_at, value_start, area_of}
use Rattle.layout.specs.Verdict.{verdict}
use Rattle.layout.specs.Layout.{values_of}
use Rattle.layout.specs.Placements.{laying_at, placement_at}
use Rattle.layout.specs.Statements.{Bounded, record_addresses, ValuesPacked}
use Rattle.layout.proofs.Arguments.{used-none, used-next, start_none, start-next}
use Rattle.layout.proofs.Verdict.{accepted-uses, accepted-area}
use Rattle.layout.proofs.Bounds.{argument-shaped}
use Rattle.layout.proofs.Layouts.{asks_at}

module _ (d : List ℕ) (right : uses_refusal d ≡ 0) where
  record_bytes : (i : ℕ) → i < arguments_in d → bytes_of stack_at (place_of (placement_at d i).place) (placement_at d i).size.0 ≡ bytes_of stack_at (place eights (used_at d i) (shape_at d i)) (shape_at d i).size
  unfolding placement_at laying_at
  record_bytes i h = ap (λ (p : Place). bytes_of stack_at p (shape_at d i).size) (place-written (used_at d i) (shape_at d i) (argument-shaped d right i h))

  -- bytes are moved by the addresses of the records that `lay_out` writes, one after the other
  pub records-addresses : (n i : ℕ) → i + n ≤ arguments_in d → record_addresses d i n ≡ addresses stack_at eights (used_at d i) (shapes_from d i n)
  unfolding record_addresses shapes_from
  records-addresses zero i h = refl
  records-addresses (suc n) i h =
      ap₂ (λ (xs ys : List ℕ). xs ++ ys) (record_bytes i (omega arith))
      (records-addresses n (i + 1) (omega arith) ∙ ap (λ (u : Used). addresses stack_at eights u (shapes_from d (i + 1) n)) (used-next d i))

  pub all-addresses : record_addresses d 0 (arguments_in d) ≡ addresses stack_at eights (used_first d) (shapes d)
  all-addresses = records-addresses (arguments_in d) 0 (omega arith) ∙ ap (λ (u : Used). addresses stack_at eights u (shapes d)) (used-none d)

pub accepted-bounded : (d : List ℕ) → IsBytes d → verdict d ≡ 0 → Bounded d
unfolding values_of value_start area_of used_at
accepted-bounded d bytes v =
    let right = accepted-uses d v in
    let types = accepted-types d right in
    let all = asks_at d right (arguments_in d) (arguments_in d) (omega arith) (omega arith) in
    record {
      short = accepted-length d (accepted-form d types) bytes;
      filled = λ k l. size_low (model_in d) (ty_at d k) (type-filled d k (accepted-sized d types k l));
      small = λ k l. accepted-small d types k l;
      whole = λ k l. align-divides (model_in d) (ty_at d k);
      aligned = λ i l. (argument-shaped d right i l).aligned;
      general = all.before.general;
      vector = all.before.vector;
      area = accepted-area d v;
      sixteens = area-sixteens eights (used_first d) (shapes d);
      rounded = (area-rounded eights (used_first d) (shapes d)).multiple;
      values = all.sum;
    }

-- the values lie one behind the other, from 0 to the total
start-end : (d : List ℕ) → value_start d (arguments_in d) ≡ values_of d
unfolding value_start values_of
start-end d = refl

pub values-packed : (d : List ℕ) → ValuesPacked d
unfolding placement_at laying_at is_named
values-packed d = record {
  first = start_none d;
  next = λ i. start-next d i;
  last = λ i e. sym (start-next d i) ∙ ap (value_start d) e ∙ start-end d;
  marks = λ i. refl;
}
