use native.Mathlib.Omega.{arith}
use mathlib.Core.Path.{ap, ◌∙◌}
use Rattle.layout.specs.Placements.{laying_fresh}
use Rattle.moving.proofs.Loops.{placing-first, placing-next, placing-last}
use Rattle.moving.proofs.Turns.{turn_asks, turn_move, step_pair}
use Rattle.moving.proofs.filling.place_all.Goals as goal

pub loop-i-init : goal.loop-i-init
loop-i-init c = placing-first _ _ _ _ _ _ c.requires.0 (c.fresh-laying.ensures ∙ ap laying_fresh c.requires.1)

pub place_argument-placement-requires : goal.place_argument-placement-requires
place_argument-placement-requires c = turn_asks _ _ _ (omega (arith, c.loop-i-test.true, c.arguments-i-end.ensures)) c.loop-i.invariant.turn c.requires.0.accepted

pub place_one-requires : goal.place_one-requires
place_one-requires c = turn_move _ _ _ (omega (arith, c.loop-i-test.true, c.arguments-i-end.ensures)) c.loop-i.invariant.turn _ (step_pair _ _ _ _ _ c.place_argument-placement.ensures.0 c.place_argument-placement.ensures.1) _ _ _ _ c.loop-i.invariant.lent

pub loop-i-preserved : goal.loop-i-preserved
loop-i-preserved c =
    placing-next _ _ _ _ _ _ _ _ _ _ (omega (arith, c.loop-i-test.true, c.arguments-i-end.ensures)) c.loop-i.invariant _ (step_pair _ _ _ _ _ c.place_argument-placement.ensures.0 c.place_argument-placement.ensures.1) _ _ _
    (omega arith) (omega arith) (omega arith) c.place_one.ensures

pub returns : goal.returns
returns c = placing-last _ _ _ _ _ _ _ _ _ _ (omega (arith, c.loop-i-test.false, c.arguments-i-end.ensures)) c.loop-i.invariant
