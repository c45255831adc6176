use mathlib.Core.Path.{ap, ◌∙◌}
use native.Mathlib.Omega.{arith}
use Rattle.uses.proofs.Uses.{accepted-typed}
use Rattle.layout.specs.Placements.{Step}
use Rattle.layout.proofs.Steps.{turn_low, turn_asks, between_asks, values-room, step_is}
use Rattle.layout.proofs.described.Described.place_as.Goals as goal

pub argument_at-ty-requires : goal.argument_at-ty-requires
argument_at-ty-requires c = ((accepted-typed c.args.self.bytes.now c.args.self.judged).whole, c.requires.0.argument.there)

pub offset_bounds-self-ty : goal.offset_bounds-self-ty
offset_bounds-self-ty c = omega (arith, turn_low c.args.self.bytes.now c.args.self.table.now c.args.self.tabled c.args.laying.now.used c.args.i c.requires.0.argument _ c.argument_at-ty.ensures c.args.named c.requires.1)

pub bounds-self-ty : goal.bounds-self-ty
bounds-self-ty c = turn_low c.args.self.bytes.now c.args.self.table.now c.args.self.tabled c.args.laying.now.used c.args.i c.requires.0.argument _ c.argument_at-ty.ensures c.args.named c.requires.1

pub use_argument-requires : goal.use_argument-requires
use_argument-requires c = turn_asks c.args.self.bytes.now c.args.self.table.now c.args.self.tabled c.args.laying.now.used c.args.i c.requires.0.argument _ c.argument_at-ty.ensures c.args.named c.requires.1

pub place_between-place-requires : goal.place_between-place-requires
place_between-place-requires c = between_asks c.args.self.bytes.now c.args.self.table.now c.args.self.tabled c.args.laying.now c.args.i c.requires.0 _ c.argument_at-ty.ensures c.args.named c.requires.1 _ c.use_argument.ensures

pub step-requires : goal.step-requires
step-requires c = (turn_low c.args.self.bytes.now c.args.self.table.now c.args.self.tabled c.args.laying.now.used c.args.i c.requires.0.argument _ c.argument_at-ty.ensures c.args.named c.requires.1, values-room c.args.self.bytes.now c.args.self.table.now c.args.self.tabled c.args.laying.now c.args.i c.requires.0 _ c.argument_at-ty.ensures c.args.named c.requires.1 c.extent.result c.extent.ensures)

pub returns : goal.returns
returns c =
    let is = step_is c.args.self.bytes.now c.args.self.table.now c.args.self.tabled c.args.laying.now c.args.i c.requires.0 _ c.argument_at-ty.ensures c.args.named c.requires.1 c.extent.result c.extent.ensures _ c.use_argument.ensures _ c.place_between-place.ensures in
    (c.step.ensures.0 ∙ ap (λ (s : Step). s.placement) is, c.step.ensures.1 ∙ ap (λ (s : Step). s.after) is)
