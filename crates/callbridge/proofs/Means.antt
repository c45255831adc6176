-- The records that the C interface gives mean the layout. Assumes nothing.
use mathlib.Core.Path.{◌≡◌, ap, ◌∙◌}
use mathlib.Core.List.{List}
use Prim.Native.Nat.{ℕ}
use native.Mathlib.Omega.{arith}
use borrow.Author.Tests.{eq-eqb}
use lib.ListN.{length}
use Rattle.description.specs.Description.{arguments_in}
use Rattle.layout.specs.Layout.{layout_of as whole_of}
use Rattle.layout.specs.Lists.{list_refusal, list_count}
use Rattle.layout.proofs.Lists.{list_accepted, list_room}
use Rattle.types.proofs.Table.{filled-below}
use Rattle.station.specs.Outcome.{leaves}
use Rattle.flat.specs.Records.{layout_of}
use Rattle.flat.specs.Meanings.{placement_meant, layout_meant}
use Rattle.flat.proofs.Kept.{placements_mean, layout-means}
use Rattle.callbridge.specs.LayoutCalls.{flat_at}
use Rattle.callbridge.specs.Interface.{ListMeans, SummaryMeans}
use Rattle.callbridge.proofs.Told.{layout-told}

count-is : (d : List ℕ) (room : ℕ) → list_refusal d room ≡ 0 → list_count d room ≡ arguments_in d
unfolding list_count
count-is d room e = rw (eq-eqb (list_refusal d room) 0 e)

pub list_means : ListMeans
unfolding flat_at
list_means d l j x e h =
    let n = count-is d (length l) e in
    ap placement_meant (filled-below (flat_at d) (list_count d (length l)) l j x (omega (arith, n, list_room d (length l) e)) (omega (arith, n)))
    ∙ placements_mean d (list_accepted d (length l) e) j h

pub summary-means : SummaryMeans
summary-means d old v =
    ap layout_meant ((layout-told d).left old ∙ ap (λ (n : ℕ). leaves n (layout_of (whole_of d) (arguments_in d)) old) v)
    ∙ layout-means d v (arguments_in d)
