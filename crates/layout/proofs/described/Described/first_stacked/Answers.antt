use mathlib.Core.Path.{◌≡◌, sym, ◌∙◌}
use native.Mathlib.Omega.{arith}
use Rattle.std.proofs.lemmas.Map.Keys.{le_from_not_gt}
use Rattle.description.specs.Description.{arguments_in}
use Rattle.places.proofs.Orders.{over_from_gt}
use Rattle.layout.proofs.Layouts.{turn_asked}
use Rattle.layout.proofs.Stacked.{looking_first, looking_found, looking_on, looking_end}
use Rattle.layout.proofs.Steps.{named_by}
use Rattle.layout.proofs.described.Described.first_stacked.Goals as goal

pub loop-i-init : goal.loop-i-init
loop-i-init c = looking_first c.args.self.bytes.now _ c.hidden.ensures _ c.fresh-laying.ensures

pub pass_argument-requires : goal.pass_argument-requires
pass_argument-requires c =
    let d = c.args.self.bytes.now in
    (turn_asked d c.loop-i.i _ c.loop-i.invariant.laying c.args.self.judged (omega (arith, c.arguments-i-end.ensures)), named_by d c.loop-i.i _ c.named-named.ensures)

pub returns-then-gt : goal.returns-then-gt
returns-then-gt c = looking_found c.args.self.bytes.now c.args.self.judged c.loop-i.i _ c.loop-i.invariant (omega (arith, c.arguments-i-end.ensures)) _ c.pass_argument.ensures (over_from_gt _ _ (sym c.gt.ensures ∙ c.if-gt.true))

pub loop-i-preserved : goal.loop-i-preserved
loop-i-preserved c = looking_on c.args.self.bytes.now c.args.self.judged c.loop-i.i _ c.loop-i.invariant (omega (arith, c.arguments-i-end.ensures)) _ c.pass_argument.ensures (le_from_not_gt _ _ (sym c.gt.ensures ∙ c.if-gt.false))

pub returns : goal.returns
returns c =
    let d = c.args.self.bytes.now in
    let last : c.loop-i.i ≡ arguments_in d = omega (arith, c.arguments-i-end.ensures) in
    looking_end d c.loop-i.laying (rw last at c.loop-i.invariant)
