-- Adding an argument moves nothing, of the 386 kind: a shared argument is placed by what stands before it alone. Assumes nothing.
use mathlib.Core.Path.{◌≡◌, refl, ap, ap₂, ◌∙◌}
use mathlib.Core.List.{List, ◌∷◌, ◌++◌}
use Prim.Native.Nat.{ℕ, zero, suc, ◌+◌, ◌-◌, ◌≤◌, ◌<◌}
use native.Mathlib.Omega.{arith}
use Rattle.description.specs.Description.{arguments_in}
use Rattle.places.specs.declared.Used.{Used}
use Rattle.places.specs.Shapes.{Shape}
use Rattle.places.specs.Places.{fours, after}
use Rattle.places.specs.Images.{addresses}
use Rattle.places.proofs.Apart.{after-grows}
use Rattle.places.proofs.Growing.{area-more}
use Rattle.places.proofs.Prefix.{addresses-append}
use Rattle.intel386.specs.Arguments.{shape_at, shapes_from, shapes, address_for, used_first, used_at, area_of, addresses_of}
use Rattle.intel386.specs.Extending.{Extends, Unmoved}
use Rattle.intel386.proofs.Arguments.{shapes-split, used-split}

module _ (d e : List ℕ) (x : Extends d e) where
  shape_same : (i : ℕ) → i < arguments_in d → shape_at e i ≡ shape_at d i
  unfolding shape_at
  shape_same i l = rw (x.shared i l)

  shapes-same : (i n : ℕ) → i + n ≤ arguments_in d → shapes_from e i n ≡ shapes_from d i n
  unfolding shapes_from
  shapes-same i zero h = refl
  shapes-same i (suc n) h = ap₂ ◌∷◌ (shape_same i (omega arith)) (shapes-same (i + 1) n (omega arith))

  used-same : (i : ℕ) → i ≤ arguments_in d → used_at e i ≡ used_at d i
  unfolding used_at
  used-same i l = rw (x.returns, shapes-same 0 i (omega arith))

  -- the arguments that are added
  abbrev added : List Shape
  added = shapes_from e (arguments_in d) (arguments_in e - arguments_in d)

  shapes-more : shapes e ≡ shapes d ++ added
  shapes-more = shapes-split e (arguments_in d) (arguments_in e) x.long ∙ ap (λ (ss : List Shape). ss ++ added) (shapes-same 0 (arguments_in d) (omega arith))

  addresses-more : addresses_of e ≡ addresses_of d ++ addresses 0 fours (after fours (used_first d) (shapes d)) added
  unfolding addresses_of
  addresses-more = rw (shapes-more, x.returns) (addresses-append 0 fours (shapes d) added (used_first d))

  stack-grows : (used_at d (arguments_in d)).stack.0 ≤ (used_at e (arguments_in e)).stack.0
  stack-grows =
      rw (used-split e (arguments_in d) (arguments_in e) x.long, used-same (arguments_in d) (omega arith))
      (after-grows fours added (used_at d (arguments_in d)))

  area-grows : area_of d ≤ area_of e
  unfolding area_of
  area-grows = rw (shapes-more, x.returns) (area-more fours (shapes d) added (used_first d))

  pub unmoved : Unmoved d e
  unmoved = record {
    offsets = λ i l. ap (λ (u : Used). u.stack.0) (used-same i l);
    goes_on = record {
      more = addresses 0 fours (after fours (used_first d) (shapes d)) added;
      places = addresses-more;
      address = ap address_for x.returns;
    };
    stack = stack-grows;
    area = area-grows;
  }
