-- The images that placing leaves are those that condition C speaks of. Assumes nothing.
use mathlib.Core.Path.{◌≡◌, refl, ap, ◌∙◌}
use mathlib.Core.Bool.{Bool, true, false, cond}
use mathlib.Core.List.{List, [], ◌++◌}
use Prim.Native.Nat.{ℕ, ◌+◌}
use native.Mathlib.Omega.{arith}
use borrow.Author.Tests.{eq-eqb}
use lib.ListN.{length, take, drop, replicate, take-append-drop}
use Rattle.addresses.specs.Addresses.{run, scatter, All}
use Rattle.places.specs.Images.{stack_at, addresses, total}
use Rattle.places.specs.Places.{eights}
use Rattle.layout.specs.Arguments.{shapes, hidden, used_first, area_of}
use Rattle.layout.specs.Layout.{values_of}
use Rattle.images.specs.Words.{little_endian}
use Rattle.moving.specs.Images.{addresses_of, frame_of, amd64}
use Rattle.moving.specs.Frames.{empty_in, placed_in}
use Rattle.moving.specs.Orders.{place_refusal}
use Rattle.moving.specs.Answers.{registers_after, upper_after, stack_after}
use Rattle.moving.proofs.Amd64.{placed-lent}
use Rattle.station.specs.Paper.{kcb, area_of as paper_area}
use Rattle.station.proofs.Kcb.{kcb-area}
use Rattle.histories.specs.Calls.{Call, Spares}
use Rattle.histories.specs.Values.{blank, images_for}
use Rattle.histories.specs.ConditionC.{Cares}
use Rattle.promises.specs.Demand3.{placed_images}

-- before the first value, the images are the same
blank-same : (b : Bool) (h n : ℕ)
    → scatter (replicate (stack_at + n) 0) (cond b (run 0 8) []) (little_endian (length (cond b (run 0 8) [])) h) ≡ scatter (replicate (stack_at + n) 0) (cond b (run 0 8) []) (little_endian 8 h)
blank-same true h n = refl
blank-same false h n = refl

placed-is : (d : List ℕ) (h : ℕ) (values : List ℕ) → placed_in (frame_of d) h values ≡ images_for kcb d (little_endian 8 h) values
unfolding placed_in empty_in addresses_of images_for blank kcb
placed-is d h values =
    let long : 176 + (128 + area_of d) ≡ stack_at + paper_area kcb d = omega (arith, kcb-area d) in
    ap (λ (img : List ℕ). scatter img (addresses stack_at eights (used_first d) (shapes d)) values)
    (ap (λ (n : ℕ). scatter (replicate n 0) (cond (hidden d) (run 0 8) []) (little_endian (length (cond (hidden d) (run 0 8) [])) h)) long
    ∙ blank-same (hidden d) h (paper_area kcb d))

module _ (d : List ℕ) (h : ℕ) (values r y s : List ℕ) (accepted : place_refusal amd64 d h values (length r) (length y) (length s) ≡ 0) where
  all-images : placed_images d h values r y s ≡ placed_in (frame_of d) h values
  unfolding registers_after upper_after stack_after
  all-images =
      rw (eq-eqb (place_refusal amd64 d h values (length r) (length y) (length s)) 0 accepted)
      (ap (λ (behind : List ℕ). take 176 (placed_in (frame_of d) h values) ++ behind) (take-append-drop 128 (drop 176 (placed_in (frame_of d) h values)))
      ∙ take-append-drop 176 (placed_in (frame_of d) h values))

  pub placed_for : placed_images d h values r y s ≡ images_for kcb d (little_endian 8 h) values
  placed_for = all-images ∙ placed-is d h values

  -- values that are placed have the right length
  pub placed-fit : length values ≡ total (kcb.shapes d)
  unfolding kcb values_of
  placed-fit = (placed-lent d h values (length r) (length y) (length s) accepted).values

  pub placed-cares : (i : ℕ) (cs : List Call) → All (Spares i) cs → Cares kcb d values i cs
  placed-cares i cs spares = record { fit = placed-fit; spares = spares }
