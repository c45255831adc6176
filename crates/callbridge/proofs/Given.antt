-- What a call gives where the library answers under a number; a change: a detach, its answer ignored, then an attach. Assumes nothing.
use Rattle.std.specs.Prelude.{Err, Ok}
use mathlib.Core.Path.{◌≡◌, refl, sym, ap, ap₂, ◌∙◌}
use mathlib.Core.Bool.{Bool, true, false, cond}
use mathlib.Core.List.{List}
use Prim.Native.Nat.{ℕ, zero, suc}
use native.Mathlib.Omega.{arith}
use borrow.Author.Tests.{ne_eqb}
use lib.Dec.{eqb}
use Rattle.form.specs.declared.Refusal.{Refusal}
use Rattle.form.specs.Reading.{refusal_in}
use Rattle.types.specs.Wrong.{refusal_for}
use Rattle.types.proofs.Wrong.{no_type}
use Rattle.station.specs.declared.Station.{Station}
use Rattle.station.specs.Outcome.{answer_of, leaves}
use Rattle.station.specs.Paper.{kcb}
use Rattle.station.specs.Attachment.{attach_seat, detach_refusal, detach_station, detach_seat, change_seat}
use Rattle.flat.specs.declared.Station.{Station as FlatStation}
use Rattle.flat.specs.Stations.{station_meant, flat_station}
use Rattle.flat.proofs.Kept.{station-means}
use Rattle.callbridge.specs.Outcome.{left_in}
use Rattle.callbridge.specs.StationCalls.{attach_given, detach_given, freed_station, change_given}

-- what is given where there is no refusal, and where there is one
pub chosen-ok : {A R : Type 0} (b : Bool) (new : A) (x : R) → cond b (Ok (tt {0})) (Err x) ≡ Ok tt → cond b (Ok new) (Err x) ≡ Ok new
chosen-ok true new x e = refl
chosen-ok false new x e = cc

pub chosen-err : {A R : Type 0} (b : Bool) (new : A) (x y : R) → cond b (Ok (tt {0})) (Err x) ≡ Err y → cond b (Ok new) (Err x) ≡ Err y
chosen-err true new x y e = cc
chosen-err false new x y e = cc

-- a call that gives nothing beside it answers the refusal
pub number-told : (d : List ℕ) (n : ℕ) → refusal_in (cond (eqb n 0) (Ok (tt {0})) (Err (refusal_for d n))) ≡ refusal_for d n
number-told d zero = sym (no_type d 0 refl refl)
number-told d (suc n) = rw (ne_eqb (suc n) 0 (λ e. omega (arith, e))) refl

-- what the detach leaves of the record means what a detach leaves of the station
pub freed-means : (s : FlatStation) (seat : List ℕ) → station_meant (freed_station s seat) ≡ detach_station (station_meant s) seat
unfolding freed_station detach_given answer_of detach_station
freed-means s seat = by (detach_refusal (station_meant s) seat) _ _
  where
    by : (n : ℕ) (x : Station) (r : Refusal)
        → station_meant (left_in (cond (eqb n 0) (Ok (flat_station (leaves n x (station_meant s)))) (Err r)) s) ≡ leaves n x (station_meant s)
    by zero x r = station-means x
    by (suc n) x r = rw (ne_eqb (suc n) 0 (λ e. omega (arith, e))) refl

module _ (before : FlatStation) (seat d : List ℕ) where
  pub change-composed : (x y : FlatStation) (r : Refusal) (mid after : List ℕ) → x ≡ left_in (detach_given before seat) before → mid ≡ detach_seat (station_meant before) seat
      → (r ≡ refusal_in (attach_given x mid d)) × ((y ≡ left_in (attach_given x mid d) x) × (after ≡ attach_seat kcb (station_meant x) mid d))
      → (r ≡ refusal_in (change_given before seat d))
      × ((y ≡ left_in (change_given before seat d) (freed_station before seat)) × (after ≡ change_seat kcb (station_meant before) seat d))
  unfolding change_given freed_station change_seat
  change-composed x y r mid after e f h = (
    h.0 ∙ ap₂ (λ (q : FlatStation) (z : List ℕ). refusal_in (attach_given q z d)) e f,
    (
      h.1.0 ∙ ap₂ (λ (q : FlatStation) (z : List ℕ). left_in (attach_given q z d) q) e f,
      h.1.1 ∙ ap₂ (λ (q : Station) (z : List ℕ). attach_seat kcb q z d) (ap station_meant e ∙ freed-means before seat) f,
    ),
  )
