-- Each eightbyte from its register, or all from the stack.
-- Assumes nothing.
use mathlib.Core.Path.{◌∙◌}
use Rattle.walk.proofs.Copies.{copy_one, copy_stack, copy_two}
use Rattle.walk.proofs.Fetch.copy_out.Goals as goal

pub returns-in-One : goal.returns-in-One
returns-in-One c = c.copy.ensures ∙ copy_one c.args.registers.now c.args.stack.now c.requires.0 c.args.self c.in-One.offset c.args.size.0 c.args.out.now c.in-One.is c.requires.2 c.requires.1

pub returns-in-Two : goal.returns-in-Two
returns-in-Two c = c.copy-in-Two-2.ensures ∙ copy_two c.args.registers.now c.args.stack.now c.requires.0 c.args.self c.in-Two.low c.in-Two.high c.args.size.0 c.args.out.now _ c.in-Two.is c.requires.2 c.requires.1 c.copy-in-Two.ensures

pub returns-in-Stack : goal.returns-in-Stack
returns-in-Stack c = c.copy-in-Stack.ensures ∙ copy_stack c.args.registers.now c.args.stack.now c.requires.0 c.args.self c.in-Stack.offset c.args.size.0 c.args.out.now c.in-Stack.is c.requires.1
