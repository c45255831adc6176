-- Request 2026-02, cited. Assumes nothing.
use Rattle.returning.proofs.Cases.{image-cases}
use Rattle.returning.proofs.Values.{memory_hidden}
use Rattle.returning.proofs.Theorems.{puts_all, address_unseen, takes_put, same_elsewhere, puts_taken, unused_unseen, no_shared_image, refusals_told, twelve_exactly, never_twelve}
use Rattle.promises.specs.BringingBack.{BringingBack}

pub bringing_back : BringingBack
bringing_back = record {
  puts_all = puts_all;
  cases_hold = image-cases;
  memory_hidden = memory_hidden;
  address_unseen = address_unseen;
  takes_put = takes_put;
  same_elsewhere = same_elsewhere;
  puts_taken = puts_taken;
  unused_unseen = unused_unseen;
  no_shared_image = no_shared_image;
  refusals_told = refusals_told;
  twelve_exactly = twelve_exactly;
  never_twelve = never_twelve;
}
