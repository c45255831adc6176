use mathlib.Core.Path.{sym, ◌∙◌}
use native.Mathlib.Omega.{arith}
use Rattle.std.proofs.lemmas.Map.Keys.{le_from_not_gt}
use Rattle.places.proofs.Orders.{over_from_gt}
use Rattle.places.proofs.Told.{low-align, told-stack, told-vector, told-general}
use Rattle.places.proofs.Used.place_between.Goals as goal

pub stack_start-requires : goal.stack_start-requires
stack_start-requires c = omega (arith, c.extent.ensures.align, low-align c.args.argument.named c.args.argument.entry.0 c.args.self c.args.after c.requires.1)

pub returns-then-gt : goal.returns-then-gt
returns-then-gt c = told-stack c.args.argument.named c.args.argument.entry.0 c.args.self c.args.after c.requires.1 (over_from_gt _ _ (sym c.gt.ensures ∙ c.if-gt.true)) c.extent.result.align.0 c.stack_start.result.0 c.extent.ensures.align c.stack_start.ensures

pub returns-then-gt-3 : goal.returns-then-gt-3
returns-then-gt-3 c = told-general c.args.argument.named c.args.argument.entry.0 c.args.self c.args.after c.requires.1 (le_from_not_gt _ _ (sym c.gt.ensures ∙ c.if-gt.false)) (omega (arith, c.extent.ensures.size, le_from_not_gt c.extent.result.size.0 8 (sym c.gt-else-gt.ensures ∙ c.if-gt-2.false))) (over_from_gt _ _ (sym c.gt-else-gt-2.ensures ∙ c.if-gt-3.true))

pub returns-else-gt-3 : goal.returns-else-gt-3
returns-else-gt-3 c = told-vector c.args.argument.named c.args.argument.entry.0 c.args.self c.args.after c.requires.1 (le_from_not_gt _ _ (sym c.gt.ensures ∙ c.if-gt.false)) (omega (arith, c.extent.ensures.size, le_from_not_gt c.extent.result.size.0 8 (sym c.gt-else-gt.ensures ∙ c.if-gt-2.false))) (le_from_not_gt _ _ (sym c.gt-else-gt-2.ensures ∙ c.if-gt-3.false))
