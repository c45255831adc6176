-- `print_laid` asks for each record as `lay_out` does.
use Rattle.std.proofs.Common.{arith, ap}
use Rattle.layout.specs.Layout.{layout_of}
use Rattle.layout.specs.declared.Layout.{Layout}
use Rattle.layout.proofs.Layouts.{laying_first, turn_asked, turn_laid}
use Rattle.layout_vectors.proofs.print_laid.Goals as goal

pub loop-i-init : goal.loop-i-init
unfolding layout_of
loop-i-init g c = laying_first c.args.described.bytes.now _ (ap (λ (l : Layout). l.hidden) c.requires) _ c.fresh-laying.ensures

pub place_argument-placement-requires : goal.place_argument-placement-requires
place_argument-placement-requires g c = turn_asked c.args.described.bytes.now c.loop-i.i _ c.loop-i.invariant c.args.described.judged (omega (arith, c.arguments-i-end.ensures))

pub loop-i-preserved : goal.loop-i-preserved
loop-i-preserved g c = turn_laid c.args.described.bytes.now c.loop-i.i _ c.loop-i.invariant _ c.place_argument-placement.ensures.1
