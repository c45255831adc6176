use mathlib.Core.Path.{ap, ◌∙◌}
use native.Mathlib.Omega.{arith}
use Rattle.planning.proofs.Cutting.{joining_first, joining_few, joining_asks, joining_next, joining_last}
use Rattle.layout.specs.Placements.{laying_fresh}
use Rattle.moving.proofs.Turns.{turn_asks, step_pair}
use Rattle.planning.proofs.joining.join_all.Goals as goal

pub loop-i-init : goal.loop-i-init
loop-i-init c = joining_first _ _ _ (c.fresh-laying.ensures ∙ ap laying_fresh c.requires.2) c.requires.1

pub place_argument-placement-requires : goal.place_argument-placement-requires
place_argument-placement-requires c = (turn_asks _ _ _ (omega (arith, c.loop-i-test.true, c.arguments-i-end.ensures)) c.loop-i.invariant.turn c.requires.0)

pub cut_one-count-requires : goal.cut_one-count-requires
cut_one-count-requires c =
    let few = joining_few _ c.requires.0 _ _ _ _ (omega (arith, c.loop-i-test.true, c.arguments-i-end.ensures)) c.loop-i.invariant in
    (few.0, few.1, joining_asks _ c.requires.0 _ _ _ _ (omega (arith, c.loop-i-test.true, c.arguments-i-end.ensures)) c.loop-i.invariant _ (step_pair _ _ _ _ _ c.place_argument-placement.ensures.0 c.place_argument-placement.ensures.1))

pub loop-i-preserved : goal.loop-i-preserved
loop-i-preserved c = (joining_next _ c.requires.0 _ _ _ _ (omega (arith, c.loop-i-test.true, c.arguments-i-end.ensures)) c.loop-i.invariant _ (step_pair _ _ _ _ _ c.place_argument-placement.ensures.0 c.place_argument-placement.ensures.1) _ _ c.cut_one-count.ensures.0 c.cut_one-count.ensures.1 (omega arith))

pub returns : goal.returns
returns c = joining_last _ c.requires.0 _ _ _ _ (omega (arith, c.loop-i-test.false, c.arguments-i-end.ensures)) c.loop-i.invariant
