-- `finish` meets its contract.
-- Assumes nothing.
use native.Mathlib.Omega.{arith}
use Rattle.description.specs.Description.{model_in}
use Rattle.types.specs.Decode.{ty_at}
use Rattle.types.proofs.Sizes.{align-low}
use Rattle.types.proofs.Table.{known-extent}
use Rattle.classify.proofs.Table.{right-set}
use Rattle.classify.proofs.class_table.finish.Goals.{then-at-size-gt8+then-at-size-le16, else-at-size-gt8}
use Rattle.classify.proofs.class_table.finish.Goals as goal

pub nonzero_div-at-step : goal.nonzero_div-at-step
nonzero_div-at-step c = omega (arith, (known-extent c.args.d.now c.args.table.now c.requires.2.sizes c.args.k c.requires.0 c.extent_in-extent.result c.extent_in-extent.ensures).align, align-low (model_in c.args.d.now) (ty_at c.args.d.now c.args.k))

pub of_aggregate-requires : goal.of_aggregate-requires
of_aggregate-requires c = (c.requires.1, record { sized = c.requires.0; fits = omega (arith, (known-extent c.args.d.now c.args.table.now c.requires.2.sizes c.args.k c.requires.0 c.extent_in-extent.result c.extent_in-extent.ensures).size, c.if-at-size-le16.true) }, omega arith)

pub loop-at-smaller : goal.loop-at-smaller
loop-at-smaller c = omega (arith, (known-extent c.args.d.now c.args.table.now c.requires.2.sizes c.args.k c.requires.0 c.extent_in-extent.result c.extent_in-extent.ensures).align, align-low (model_in c.args.d.now) (ty_at c.args.d.now c.args.k), c.loop-at-test.true)

pub loop-at-preserved : goal.loop-at-preserved
loop-at-preserved c = elim c.if-at-size-gt8.branch [
  | then-at-size-gt8+then-at-size-le16 w ↦ rw w.finished-is (right-set c.args.d.now c.loop-at.finished c.args.k c.loop-at.at w.of_aggregate.result.0 c.loop-at.invariant c.loop-at-test.true w.of_aggregate.ensures)
  | else-at-size-gt8 w ↦ rw w.finished-is c.loop-at.invariant
]

pub returns-after-at-size-gt8 : goal.returns-after-at-size-gt8
returns-after-at-size-gt8 c = elim c.if-at-size-gt8.branch [
  | then-at-size-gt8+then-at-size-le16 w ↦ rw w.finished-is (right-set c.args.d.now c.loop-at.finished c.args.k c.loop-at.at w.of_aggregate.result.0 c.loop-at.invariant c.loop-at-test.true w.of_aggregate.ensures)
  | else-at-size-gt8 w ↦ rw w.finished-is c.loop-at.invariant
]
