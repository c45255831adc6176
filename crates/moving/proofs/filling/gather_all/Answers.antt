use native.Mathlib.Omega.{arith}
use mathlib.Core.Path.{ap, ◌∙◌}
use Rattle.layout.specs.Placements.{laying_fresh}
use Rattle.moving.proofs.Loops.{gathering_first, gathering_next, gathering_last}
use Rattle.moving.proofs.Turns.{turn_asks, turn_move, step_pair}
use Rattle.moving.proofs.filling.gather_all.Goals as goal

pub loop-i-init : goal.loop-i-init
loop-i-init c = gathering_first _ _ _ _ _ _ c.requires.0 (c.fresh-laying.ensures ∙ ap laying_fresh c.requires.1)

pub place_argument-placement-requires : goal.place_argument-placement-requires
place_argument-placement-requires c = turn_asks _ _ _ (omega (arith, c.loop-i-test.true, c.arguments-i-end.ensures)) c.loop-i.invariant.turn c.requires.0.accepted

pub gather_one-requires : goal.gather_one-requires
gather_one-requires c = turn_move _ _ _ (omega (arith, c.loop-i-test.true, c.arguments-i-end.ensures)) c.loop-i.invariant.turn _ (step_pair _ _ _ _ _ c.place_argument-placement.ensures.0 c.place_argument-placement.ensures.1) _ _ _ _ c.loop-i.invariant.lent

pub loop-i-preserved : goal.loop-i-preserved
loop-i-preserved c =
    gathering_next _ _ _ _ _ _ _ _ (omega (arith, c.loop-i-test.true, c.arguments-i-end.ensures)) c.loop-i.invariant _ (step_pair _ _ _ _ _ c.place_argument-placement.ensures.0 c.place_argument-placement.ensures.1) _
    (omega arith) c.gather_one.ensures

pub returns : goal.returns
returns c = gathering_last _ _ _ _ _ _ _ _ (omega (arith, c.loop-i-test.false, c.arguments-i-end.ensures)) c.loop-i.invariant
