-- Demand 3 is met: each line cites a law. Assumes nothing.
use mathlib.Core.Path.{◌≡◌, sym, subst}
use mathlib.Core.List.{List}
use Prim.Native.Nat.{ℕ}
use Rattle.addresses.specs.Addresses.{All}
use Rattle.images.specs.Words.{little_endian}
use Rattle.moving.specs.Images.{amd64}
use Rattle.moving.proofs.Theorems.{no_shared_image}
use Rattle.moving.proofs.Amd64.{amd64-ordered}
use Rattle.station.specs.Paper.{kcb}
use Rattle.station.specs.Attachment.{seat_of}
use Rattle.station.proofs.Attachments.{attach-done}
use Rattle.station.proofs.Changes.{change-done}
use Rattle.histories.specs.Calls.{Until, Served, Serves, calls}
use Rattle.histories.specs.Outcomes.{opened, Ended}
use Rattle.histories.specs.Values.{images_for}
use Rattle.histories.proofs.Kcb.{condition_c}
use Rattle.promises.specs.Demand3.{C1C2Places, C3Alignment, C5Starts, C6Reached, C7Stale, placed_images, HandsBackPlaced, NeverAnotherPlaced, C8HandsBack, C9Shows, C10Number, C12Changes, Demand3}
use Rattle.promises.proofs.Placements.{lowest}
use Rattle.promises.proofs.PlacedFor.{placed_for, placed-cares}
use Rattle.promises.proofs.ValueBytes.{each, inside, once, past, recorded, registers-there, stack-there}

c1_c2 : C1C2Places
c1_c2 = record {
  each = each;
  recorded = λ d i j v l. recorded d v i l j;
  in_registers_lem = λ d i j rs v l. registers-there d v i l j rs;
  inside = λ d k v. inside d v k;
  once = λ d k l v. once d v k l;
  past = λ d k v h. past d v h k;
}

c3 : C3Alignment
c3 = record {
  aligned = λ d i o v l e. ((lowest d v i l o e).aligned, (lowest d v i l o e).slotted);
  there = λ d i o v l. stack-there d v i l o;
}

c5 : C5Starts
unfolding seat_of
c5 = record { attached = λ s seat d. attach-done kcb s seat d; changed = λ s seat d. change-done kcb s seat d; starts = condition_c.starts }

c6 : C6Reached
c6 = record {
  reached = condition_c.reached;
  open_reached = condition_c.open_reached;
  step_reached = condition_c.step_reached;
  show_reached = condition_c.show_reached;
}

c7 : C7Stale
c7 = record {
  stale = condition_c.stale;
  stale_record = condition_c.stale_record;
  number_counts = condition_c.number_counts;
  number_bounded = condition_c.number_bounded;
  either = condition_c.either;
}

hands_back : HandsBackPlaced
hands_back k v d b h values r y s i between cs p connects variadic spares serves stays questions =
    let e : placed_images d h values r y s ≡ images_for kcb d (little_endian 8 h) values = placed_for d h values r y s p in
    let w = condition_c.hands_back k v d b (little_endian 8 h) values i between cs connects variadic (placed-cares d h values r y s p i cs spares)
    (subst (λ (images : List ℕ). All (Serves kcb i images) cs) e serves) stays questions in
    (w.0, subst (Ended kcb i (calls kcb (opened kcb k v d b between i) cs)) (sym e) w.1)

never_another : NeverAnotherPlaced
never_another k v d b h values r y s i between cs p connects variadic spares serves =
    condition_c.never_another k v d b (little_endian 8 h) values i between cs connects variadic (placed-cares d h values r y s p i cs spares)
    (subst (λ (images : List ℕ). Until kcb (Served kcb i images) (opened kcb k v d b between i) cs) (placed_for d h values r y s p) serves)

c8 : C8HandsBack
c8 = record {
  placed_for = placed_for;
  hands_back = hands_back;
  never_another = never_another;
  goes_on = condition_c.goes_on;
  hands_back_so_far = condition_c.hands_back_so_far;
  any_record = condition_c.any_record;
  cuts = condition_c.cuts;
  refused = condition_c.refused;
}

c9 : C9Shows
c9 = record { checks = condition_c.show_checks; shows = condition_c.shows; shows_none = condition_c.shows_none }

c10 : C10Number
c10 = record { passes = condition_c.number_passes; last = condition_c.number_last }

c12 : C12Changes
c12 = record { equals = condition_c.change_equals; leaves = condition_c.change_leaves; eleven = condition_c.change_eleven; ends = condition_c.change_ends }

pub demand_3 : Demand3
demand_3 = record {
  places = c1_c2;
  alignment = c3;
  no_shared_image = no_shared_image amd64 amd64-ordered;
  starts = c5;
  reached = c6;
  stale = c7;
  hands_back = c8;
  shows = c9;
  number = c10;
  detaches = condition_c.detaches;
  changes = c12;
}
