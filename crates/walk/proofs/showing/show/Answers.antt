-- The part that `shown_at` names.
-- Assumes nothing.
use mathlib.Core.Path.{◌∙◌}
use mathlib.Core.List.{[]}
use Rattle.walk.proofs.ShownParts.{shows-bytes}
use Rattle.station.specs.Paper.{kcb}
use Rattle.walk.specs.Orders.{asking}
use Rattle.walk.proofs.showing.show.Goals as goal

pub returns-in-Ok-Some-Registers : goal.returns-in-Ok-Some-Registers
returns-in-Ok-Some-Registers c = c.of.ensures ∙ shows-bytes kcb c.args.station c.args.seat.now c.args.walk (asking c.args.registers.now c.args.stack.now c.args.asked []) _ (rw (c.in-Ok-Some-Registers.field-0-is, c.in-Ok-Some-Registers.field-0-0-is) at c.in-Ok-Some-Registers.ensures.0)

pub returns-in-Ok-Some-Stack : goal.returns-in-Ok-Some-Stack
returns-in-Ok-Some-Stack c = c.of-in-Ok-Some-Stack.ensures ∙ shows-bytes kcb c.args.station c.args.seat.now c.args.walk (asking c.args.registers.now c.args.stack.now c.args.asked []) _ (rw (c.in-Ok-Some-Stack.field-0-is, c.in-Ok-Some-Stack.field-0-0-is) at c.in-Ok-Some-Stack.ensures.0)

pub returns-in-Ok-None : goal.returns-in-Ok-None
returns-in-Ok-None c = shows-bytes kcb c.args.station c.args.seat.now c.args.walk (asking c.args.registers.now c.args.stack.now c.args.asked []) _ (rw c.in-Ok-None.field-0-is at c.in-Ok-None.ensures.0)

pub returns-in-Err : goal.returns-in-Err
returns-in-Err c = shows-bytes kcb c.args.station c.args.seat.now c.args.walk (asking c.args.registers.now c.args.stack.now c.args.asked []) _ c.in-Err.ensures.0
