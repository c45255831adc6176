-- `put_sizes` meets its contract: an array's size, then those of its elements. Assumes nothing.
use native.Mathlib.Omega.{arith}
use Rattle.description.proofs.Records.{no_array}
use Rattle.types.proofs.Trees.{sized-below}
use Rattle.listing.proofs.Puts.{puts_behind}
use Rattle.writing.proofs.Texts.{size-length, sizes-room, sizes-done, sizes-none, element-below}
use Rattle.writing.proofs.type_text.+put_sizes.Goals as goal

pub record_at-requires : goal.record_at-requires
record_at-requires t c =
    (c.requires.0.whole, c.requires.0.known)

pub put_size-requires : goal.put_size-requires
put_size-requires t c =
    let r = c.in-Array.ensures.1 in
    omega (arith, sizes-room c.args.d.now c.args.k c.requires.0 c.in-Array.count c.in-Array.element c.args.text.now.at r.0 r.1.count r.1.second c.requires.1)

pub put_sizes-requires : goal.put_sizes-requires
put_sizes-requires t c =
    let r = c.in-Array.ensures.1 in
    let low = element-below c.args.d.now c.args.k c.requires.0 c.in-Array.element r.0 r.1.second in
    (omega (arith, c.decreases, low), (sized-below c.args.d.now c.args.k c.requires.0 c.in-Array.element low, omega (arith, puts_behind c.put_size.ensures, size-length c.in-Array.count, sizes-room c.args.d.now c.args.k c.requires.0 c.in-Array.count c.in-Array.element c.args.text.now.at r.0 r.1.count r.1.second c.requires.1)))

pub returns-in-Array : goal.returns-in-Array
returns-in-Array t c =
    let r = c.in-Array.ensures.1 in
    sizes-done c.args.d.now c.args.k c.requires.0 c.in-Array.count c.in-Array.element r.0 r.1.count r.1.second c.put_size.ensures c.put_sizes.ensures

pub returns-in_default : goal.returns-in_default
returns-in_default t c =
    sizes-none c.args.d.now c.args.k c.requires.0 c.args.text.now (no_array c.args.d.now c.args.k _ c.record_at.ensures.1 c.in_default.not-Array)
