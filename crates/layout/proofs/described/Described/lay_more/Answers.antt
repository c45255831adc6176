use native.Mathlib.Omega.{arith}
use Rattle.layout.proofs.Layouts.{turn_asked, turn_laid}
use Rattle.layout.proofs.described.Described.lay_more.Goals as goal

pub pass_argument-requires : goal.pass_argument-requires
pass_argument-requires c = (turn_asked c.args.self.bytes.now c.loop-i.i _ c.loop-i.invariant c.args.self.judged (omega arith), c.requires.3.each c.loop-i.i (omega arith) (omega arith))

pub loop-i-preserved : goal.loop-i-preserved
loop-i-preserved c = turn_laid c.args.self.bytes.now c.loop-i.i _ c.loop-i.invariant _ c.pass_argument.ensures
