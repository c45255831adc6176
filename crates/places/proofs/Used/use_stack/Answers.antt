use mathlib.Core.Path.{sym, ap, ◌∙◌}
use native.Mathlib.Omega.{arith}
use Rattle.std.proofs.lemmas.Map.Keys.{le_from_not_gt}
use Rattle.units.specs.Raise.{raise}
use Rattle.units.proofs.Raise.{raise-below}
use Rattle.places.proofs.Asking.{extent_room, used-stack, used-near}
use Rattle.places.proofs.Used.use_stack.Goals as goal

pub on_stack-requires : goal.on_stack-requires
on_stack-requires c = extent_room c.args.argument.named c.args.argument.entry.0 c.extent.result c.extent.ensures c.args.self.now c.requires.0 c.requires.1

pub add-requires : goal.add-requires
add-requires c = omega (arith, c.raised_to.ensures, raise-below 8 c.args.self.now.stack.0 (omega arith), extent_room c.args.argument.named c.args.argument.entry.0 c.extent.result c.extent.ensures c.args.self.now c.requires.0 c.requires.1)

pub raised_to-self-requires : goal.raised_to-self-requires
raised_to-self-requires c = omega (arith, c.add.ensures, c.raised_to.ensures, raise-below 8 c.args.self.now.stack.0 (omega arith), extent_room c.args.argument.named c.args.argument.entry.0 c.extent.result c.extent.ensures c.args.self.now c.requires.0 c.requires.1)

pub returns-then-gt : goal.returns-then-gt
returns-then-gt c = used-stack c.args.argument.named c.args.argument.entry.0 c.extent.result c.extent.ensures c.args.self.now c.on_stack.new.self c.on_stack.ensures.1

pub returns-else-gt : goal.returns-else-gt
returns-else-gt c = used-near c.args.argument.named c.args.argument.entry.0 c.extent.result c.extent.ensures c.args.self.now c.raised_to.result.0 c.raised_to-self.result.0 (le_from_not_gt _ _ (sym c.gt.ensures ∙ c.if-gt.false)) c.raised_to.ensures (c.raised_to-self.ensures ∙ ap (raise 8) c.add.ensures)
