use native.Mathlib.Omega.{arith}
use Rattle.uses.proofs.Uses.{accepted-typed}
use Rattle.layout.proofs.Steps.{turn_low, turn_asks, values-room, pass_is}
use Rattle.layout.proofs.described.Described.pass_argument.Goals as goal

pub argument_at-ty-requires : goal.argument_at-ty-requires
argument_at-ty-requires c = ((accepted-typed c.args.self.bytes.now c.args.self.judged).whole, c.requires.0.argument.there)

pub offset_bounds-self-ty : goal.offset_bounds-self-ty
offset_bounds-self-ty c = omega (arith, turn_low c.args.self.bytes.now c.args.self.table.now c.args.self.tabled c.args.laying.now.used c.args.i c.requires.0.argument _ c.argument_at-ty.ensures c.args.named c.requires.1)

pub bounds-self-ty : goal.bounds-self-ty
bounds-self-ty c = turn_low c.args.self.bytes.now c.args.self.table.now c.args.self.tabled c.args.laying.now.used c.args.i c.requires.0.argument _ c.argument_at-ty.ensures c.args.named c.requires.1

pub add-laying-requires : goal.add-laying-requires
add-laying-requires c = omega (arith, values-room c.args.self.bytes.now c.args.self.table.now c.args.self.tabled c.args.laying.now c.args.i c.requires.0 _ c.argument_at-ty.ensures c.args.named c.requires.1 c.extent.result c.extent.ensures)

pub use_argument-requires : goal.use_argument-requires
use_argument-requires c = turn_asks c.args.self.bytes.now c.args.self.table.now c.args.self.tabled c.args.laying.now.used c.args.i c.requires.0.argument _ c.argument_at-ty.ensures c.args.named c.requires.1

pub returns : goal.returns
returns c = pass_is c.args.self.bytes.now c.args.self.table.now c.args.self.tabled c.args.laying.now c.args.i c.requires.0 _ c.argument_at-ty.ensures c.args.named c.requires.1 c.extent.result c.extent.ensures _ c.use_argument.ensures _ c.add-laying.ensures
