use native.Mathlib.Omega.{arith}
use Rattle.planning.proofs.Writing.{writing-first, writing-room, writing-asks, writing-next, writing-last, writing-as}
use Rattle.planning.proofs.lists.write_kind.Goals as goal

pub loop-k-init : goal.loop-k-init
loop-k-init c = (writing-as _ _ _ _ _ _ _ _ _ _ _ (omega arith) (omega arith) (writing-first _ _ _ _ _ c.requires.0 c.requires.2), c.requires.1)

pub put_kind-at-requires : goal.put_kind-at-requires
put_kind-at-requires c = (writing-room _ _ _ _ _ c.loop-k.invariant.1 _ _ _ _ (omega (arith, c.loop-k-test.true)) c.loop-k.invariant.0 _ _ _ c.number_at-source.ensures.0 c.number_at-target.ensures.0 c.number_at-bytes.ensures.0, writing-asks _ _ _ _ _ c.loop-k.invariant.1 _ _ _ _ (omega (arith, c.loop-k-test.true)) c.loop-k.invariant.0 _ _ _ c.number_at-source.ensures.0 c.number_at-target.ensures.0 c.number_at-bytes.ensures.0)

pub loop-k-preserved : goal.loop-k-preserved
loop-k-preserved c = (writing-as _ _ _ _ _ _ _ _ _ _ _ (omega arith) (omega arith) (writing-next _ _ _ _ _ c.loop-k.invariant.1 _ _ _ _ (omega (arith, c.loop-k-test.true)) c.loop-k.invariant.0 _ _ _ c.number_at-source.ensures.0 c.number_at-target.ensures.0 c.number_at-bytes.ensures.0 _ _ c.put_kind-at.ensures.0 c.put_kind-at.ensures.1), c.loop-k.invariant.1)

pub shape_of-plan : goal.shape_of-plan
shape_of-plan c = omega (arith, c.loop-k.invariant.0.long)

pub returns : goal.returns
returns c = writing-last _ _ _ _ _ _ _ _ _ (omega (arith, c.loop-k-test.false)) c.loop-k.invariant.0
