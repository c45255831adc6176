use mathlib.Core.Path.{sym, ◌∙◌}
use native.Mathlib.Omega.{arith}
use Rattle.tidying.specs.Asks.{tabled}
use Rattle.tidying.proofs.All.{all-headed}
use Rattle.tidying.proofs.Stores.{right_whole}
use Rattle.tidying.proofs.Completing.{reach_end, passed-more, reach_next}
use Rattle.uses.proofs.Uses.{accepted-typed}
use Rattle.tidying.proofs.numbering.Numbering.reach_arguments.Goals as goal

pub byte_at-arguments-requires : goal.byte_at-arguments-requires
byte_at-arguments-requires c = omega (arith, all-headed c.args.self.now.types.bytes.now c.args.self.now.types.judged)

pub argument_at-requires : goal.argument_at-requires
argument_at-requires c = (right_whole c.args.self.now.types.bytes.now c.args.self.now.types.judged, omega (arith, c.byte_at-arguments.ensures))

pub reach-requires : goal.reach-requires
reach-requires c = rw (c.loop-i.invariant.0, c.argument_at.ensures) ((accepted-typed c.args.self.now.types.bytes.now c.args.self.now.types.judged).below c.loop-i.i (omega (arith, c.byte_at-arguments.ensures)))

pub loop-i-preserved : goal.loop-i-preserved
loop-i-preserved c = (
  c.reach.ensures.0 ∙ c.loop-i.invariant.0,
  reach_next c.args.self.now.types.bytes.now (tabled c.args.self.now.types.bytes.now c.loop-i.self.originals c.loop-i.self.count) (tabled c.args.self.now.types.bytes.now c.reach.new.self.originals c.reach.new.self.count) c.loop-i.i _ c.argument_at.result (omega arith) c.argument_at.ensures (rw c.loop-i.invariant.0 at c.reach.ensures.1.is) ∙ c.loop-i.invariant.1,
  passed-more c.args.self.now.types.bytes.now c.loop-i.self.numbers c.reach.new.self.numbers c.loop-i.i c.loop-i.invariant.2 c.reach.ensures.1.kept (rw (← c.argument_at.ensures) c.reach.ensures.1.has),
  λ j h. c.reach.ensures.1.kept j (c.loop-i.invariant.3 j h),
)

pub returns : goal.returns
returns c =
    (c.loop-i.invariant.0, sym (reach_end (tabled c.args.self.now.types.bytes.now c.loop-i.self.originals c.loop-i.self.count) c.args.self.now.types.bytes.now c.loop-i.i _ (omega arith)) ∙ c.loop-i.invariant.1 ∙ rw c.byte_at-arguments.ensures.0, λ j l. c.loop-i.invariant.2 j (omega (arith, l, c.byte_at-arguments.ensures)), c.loop-i.invariant.3)
