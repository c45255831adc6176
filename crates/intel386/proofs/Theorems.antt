-- All that is said of the calls of the 386 kind. Assumes nothing.
use Rattle.form.proofs.Order.{refuses-exactly, accepts-exactly}
use Rattle.moving.proofs.Theorems.{places_all, address_unseen, gathers_placed, places_gathered, unused_unseen, twelve_exactly, no_shared_image}
use Rattle.moving.proofs.Extending.{bytes_stay}
use Rattle.intel386.specs.Verdict.{check_order, verdict}
use Rattle.intel386.specs.Images.{old386}
use Rattle.intel386.specs.Statements.{OldModules}
use Rattle.intel386.proofs.Lawful.{check-positive, condition_c}
use Rattle.intel386.proofs.Places.{one_place_each, stacked, past_address, area-is, single_offset}
use Rattle.intel386.proofs.Extending.{unmoved}
use Rattle.intel386.proofs.Moved.{old386-ordered, twenty_seven_exactly}

pub old-modules : OldModules
unfolding verdict
old-modules = record {
  refuses = λ d n h. refuses-exactly (check_order d) n h;
  accepts = λ d. accepts-exactly (check_order d) (check-positive d);
  one_place_each = one_place_each;
  stacked = stacked;
  past_address = past_address;
  area = area-is;
  places_all = places_all old386 old386-ordered;
  address_unseen = address_unseen old386 old386-ordered;
  gathers_placed = gathers_placed old386 old386-ordered;
  places_gathered = places_gathered old386 old386-ordered;
  unused_unseen = unused_unseen old386 old386-ordered;
  twelve_exactly = twelve_exactly old386 old386-ordered;
  twenty_seven_exactly = twenty_seven_exactly;
  no_shared_image = no_shared_image old386 old386-ordered;
  unmoved = unmoved;
  bytes_stay = bytes_stay old386 old386-ordered;
  condition_c = condition_c;
  single_offset = single_offset;
}
