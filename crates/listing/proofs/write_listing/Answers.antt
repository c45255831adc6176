-- What was put at the start is the listing. Assumes nothing.
use mathlib.Core.Path.{refl}
use borrow.Author.Rules.{rules}
use Rattle.listing.proofs.Lines.{listing-length, listing-short, listing-bytes}
use Rattle.listing.proofs.write_listing.Goals as goal

pub returns : goal.returns
returns c =
    let w = c.put_listing.ensures in
    (listing-length c.args.d.now c.args.out.now c.told-out (refl, refl) w, listing-short c.args.d.now c.args.out.now c.told-out (refl, refl) w, listing-bytes c.args.d.now c.args.out.now c.told-out (refl, refl) w (search rules))
