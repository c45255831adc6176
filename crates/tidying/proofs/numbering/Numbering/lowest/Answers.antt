use Rattle.tidying.proofs.Completing.{through_on, type-on, lowest-here}
use Rattle.tidying.proofs.numbering.Numbering.lowest.Goals as goal

pub loop-part-smaller : goal.loop-part-smaller
loop-part-smaller c = c.in-Some.ensures.low

pub loop-part-preserved : goal.loop-part-preserved
loop-part-preserved c =
    (type-on c.args.self.now.types.bytes.now c.args.self.now.numbers c.args.k c.loop-part.at c.loop-part.invariant.0 c.loop-part.invariant.1 c.in-Some.part c.in-Some.ensures, through_on c.args.self.now.types.bytes.now c.args.self.now.numbers c.args.k c.loop-part.at c.loop-part.invariant.0 c.loop-part.invariant.1 c.in-Some.part c.in-Some.ensures)

pub returns : goal.returns
returns c = lowest-here c.args.self.now.types.bytes.now c.args.self.now.numbers c.args.k c.loop-part.at c.loop-part.invariant.0 c.loop-part.invariant.1 c.in_default.ensures
