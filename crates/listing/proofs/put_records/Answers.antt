-- Each record is that of its argument. Assumes nothing.
use Prim.Native.Nat.{◌<◌}
use native.Mathlib.Omega.{arith}
use Rattle.description.specs.Description.{arguments_in}
use Rattle.listing.proofs.Puts.{puts_behind}
use Rattle.listing.proofs.Lines.{going_first, going_asks, going_record, going_next, going_last}
use Rattle.listing.proofs.Small.{record_small, few-records}
use Rattle.listing.proofs.put_records.Goals as goal

pub loop-i-init : goal.loop-i-init
loop-i-init c = going_first c.args.described.bytes.now c.args.text.now c.args.layout c.fresh-laying.result c.requires.1 c.fresh-laying.ensures

pub place_argument-placement-requires : goal.place_argument-placement-requires
place_argument-placement-requires c = going_asks c.loop-i.invariant (omega (arith, c.loop-i-test.true, c.arguments-i-end.ensures))

pub put_record-requires : goal.put_record-requires
put_record-requires c =
    let less : c.loop-i.i < arguments_in c.args.described.bytes.now = omega (arith, c.loop-i-test.true, c.arguments-i-end.ensures) in
    let few = few-records c.args.described.bytes.now c.requires.1.right in
    (omega (arith, c.requires.0, puts_behind c.loop-i.invariant.puts, c.loop-i.invariant.puts.short), omega arith, rw (going_record c.loop-i.invariant c.place_argument-placement.result c.place_argument-placement.ensures.0) (record_small c.args.described.bytes.now c.requires.1.right c.loop-i.i less))

pub loop-i-preserved : goal.loop-i-preserved
loop-i-preserved c = going_next c.loop-i.invariant c.place_argument-placement.result _ c.place_argument-placement.ensures.0 c.place_argument-placement.ensures.1 (omega (arith, c.loop-i-test.true, c.arguments-i-end.ensures)) c.put_record.ensures

pub returns : goal.returns
returns c = going_last c.loop-i.invariant (omega (arith, c.loop-i-test.false, c.arguments-i-end.ensures)) (few-records c.args.described.bytes.now c.requires.1.right)
