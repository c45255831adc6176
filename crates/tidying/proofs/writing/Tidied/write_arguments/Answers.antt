use native.Mathlib.Omega.{arith}
use Rattle.tidying.proofs.Stores.{right_whole, arguments-ask}
use Rattle.tidying.proofs.writing.Tidied.write_arguments.Goals as goal

pub argument_at-requires : goal.argument_at-requires
argument_at-requires c = (right_whole c.args.self.now.numbering.types.bytes.now c.args.self.now.numbering.types.judged, omega (arith, c.requires, c.loop-i-test.true))

pub bounds-self-argument_at : goal.bounds-self-argument_at
bounds-self-argument_at c = rw c.argument_at.ensures (arguments-ask c.args.self.now.numbering.types.bytes.now c.args.self.now.numbering.numbers c.args.self.now.numbering.originals c.args.self.now.numbering.count c.args.self.now.all c.loop-i.i (omega (arith, c.requires, c.loop-i-test.true)))
