-- Size after size.
-- Assumes nothing.
use mathlib.Core.Path.{sym}
use Rattle.finishing.proofs.Checks.{summed_first, summed_on, summed_end, extent_size, type-low}
use Rattle.uses.proofs.Uses.{accepted-typed}
use Rattle.layout.proofs.Bounds.{arguments-few}
use Rattle.finishing.proofs.bytes_left.Goals as goal

pub loop-at-init : goal.loop-at-init
loop-at-init c = summed_first c.args.known.bytes.now c.args.position c.requires (arguments-few c.args.known.bytes.now c.args.known.judged)

pub argument_at-ty-requires : goal.argument_at-ty-requires
argument_at-ty-requires c = ((accepted-typed c.args.known.bytes.now c.args.known.judged).whole, rw (sym c.arguments-at-end.ensures) c.loop-at-test.true)

pub extent_in-extent-requires : goal.extent_in-extent-requires
extent_in-extent-requires c = type-low c.args.known.bytes.now c.args.known.judged c.loop-at.at c.argument_at-ty.result (rw (sym c.arguments-at-end.ensures) c.loop-at-test.true) c.argument_at-ty.ensures

pub loop-at-preserved : goal.loop-at-preserved
loop-at-preserved c =
    let z = (extent_size c.args.known.bytes.now c.args.known.table.now c.args.known.judged c.args.known.tabled c.loop-at.at c.argument_at-ty.result (rw (sym c.arguments-at-end.ensures) c.loop-at-test.true) c.argument_at-ty.ensures c.extent_in-extent.result c.extent_in-extent.ensures) in
    summed_on c.args.known.bytes.now c.args.position c.loop-at.at c.loop-at.sum.0 c.extent_in-extent.result.size.0 c.add-sum.result.0 c.loop-at.invariant (rw (sym c.arguments-at-end.ensures) c.loop-at-test.true) (arguments-few c.args.known.bytes.now c.args.known.judged) z.0 z.1 c.add-sum.ensures

pub returns : goal.returns
returns c = summed_end c.args.known.bytes.now c.args.position c.loop-at.at c.loop-at.sum.0 c.loop-at.invariant (rw (sym c.arguments-at-end.ensures) c.loop-at-test.false)
