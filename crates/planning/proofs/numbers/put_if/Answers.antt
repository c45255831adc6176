-- One store, or none.
-- Assumes nothing.
use Rattle.planning.proofs.Bools.{if_no, if_room, if_yes}
use mathlib.Core.Path.{ap}
use mathlib.Core.Bool.{not}
use Rattle.planning.proofs.numbers.put_if.Goals as goal

pub returns-then-not-wanted : goal.returns-then-not-wanted
returns-then-not-wanted c = if_no c.args.plan.now c.args.at c.args.a c.args.wanted (ap not c.if-not-wanted.true)

pub bounds-plan-at : goal.bounds-plan-at
bounds-plan-at c = if_room c.args.plan.now c.args.at c.args.a c.args.wanted (ap not c.if-not-wanted.false) _ c.requires.0

pub returns : goal.returns
returns c = if_yes c.args.plan.now c.args.at c.args.a c.args.wanted (ap not c.if-not-wanted.false)
