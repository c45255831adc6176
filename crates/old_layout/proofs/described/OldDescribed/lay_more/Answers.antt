use mathlib.Core.Path.{◌≡◌}
use Prim.Native.Nat.{◌<◌}
use native.Mathlib.Omega.{arith}
use Rattle.old_layout.proofs.Arguments.{argument-low, argument-size, offset-asks, values-asks, offset-goes, values-goes}
use Rattle.old_layout.proofs.Uses.{accepted-typed}
use Rattle.description.specs.Description.{arguments_in}
use Rattle.old_layout.proofs.described.OldDescribed.lay_more.Goals as goal

pub loop-i-init : goal.loop-i-init
loop-i-init c = (c.requires.laid.offset, c.requires.laid.values)

pub argument_at-k-requires : goal.argument_at-k-requires
argument_at-k-requires c = ((accepted-typed c.args.self.bytes.now c.args.self.known.right).whole, omega (arith, c.requires.there))

pub extent_in-requires : goal.extent_in-requires
extent_in-requires c = let l : c.loop-i.i < arguments_in c.args.self.bytes.now = omega (arith, c.requires.there) in argument-low c.args.self.bytes.now c.args.self.table.now c.args.self.known c.loop-i.i l c.argument_at-k.result c.argument_at-k.ensures

pub add-end-requires : goal.add-end-requires
add-end-requires c = let l : c.loop-i.i < arguments_in c.args.self.bytes.now = omega (arith, c.requires.there) in omega (arith, offset-asks c.args.self.bytes.now c.args.self.table.now c.args.self.known c.loop-i.i l c.argument_at-k.result c.argument_at-k.ensures c.extent_in.result.size.0 (argument-size c.args.self.bytes.now c.args.self.table.now c.args.self.known c.loop-i.i l c.argument_at-k.result c.argument_at-k.ensures c.extent_in.result c.extent_in.ensures) c.loop-i.offset.0 c.loop-i.invariant.0)

pub raised_to-offset-requires : goal.raised_to-offset-requires
raised_to-offset-requires c = let l : c.loop-i.i < arguments_in c.args.self.bytes.now = omega (arith, c.requires.there) in (omega arith, omega (arith, c.add-end.ensures, offset-asks c.args.self.bytes.now c.args.self.table.now c.args.self.known c.loop-i.i l c.argument_at-k.result c.argument_at-k.ensures c.extent_in.result.size.0 (argument-size c.args.self.bytes.now c.args.self.table.now c.args.self.known c.loop-i.i l c.argument_at-k.result c.argument_at-k.ensures c.extent_in.result c.extent_in.ensures) c.loop-i.offset.0 c.loop-i.invariant.0))

pub add-values-requires : goal.add-values-requires
add-values-requires c = let l : c.loop-i.i < arguments_in c.args.self.bytes.now = omega (arith, c.requires.there) in omega (arith, values-asks c.args.self.bytes.now c.args.self.table.now c.args.self.known c.loop-i.i l c.argument_at-k.result c.argument_at-k.ensures c.extent_in.result.size.0 (argument-size c.args.self.bytes.now c.args.self.table.now c.args.self.known c.loop-i.i l c.argument_at-k.result c.argument_at-k.ensures c.extent_in.result c.extent_in.ensures) c.loop-i.values.0 c.loop-i.invariant.1)

pub loop-i-preserved : goal.loop-i-preserved
loop-i-preserved c =
    let l : c.loop-i.i < arguments_in c.args.self.bytes.now = omega (arith, c.requires.there) in
    let s = argument-size c.args.self.bytes.now c.args.self.table.now c.args.self.known c.loop-i.i l c.argument_at-k.result c.argument_at-k.ensures c.extent_in.result c.extent_in.ensures in (
      offset-goes c.args.self.bytes.now c.args.self.table.now c.args.self.known c.loop-i.i l c.argument_at-k.result c.argument_at-k.ensures c.extent_in.result.size.0 s c.loop-i.offset.0 c.add-end.result.0 c.raised_to-offset.result.0 c.loop-i.invariant.0 c.add-end.ensures c.raised_to-offset.ensures,
      values-goes c.args.self.bytes.now c.args.self.table.now c.args.self.known c.loop-i.i l c.argument_at-k.result c.argument_at-k.ensures c.extent_in.result.size.0 s c.loop-i.values.0 c.add-values.result.0 c.loop-i.invariant.1 c.add-values.ensures,
    )

pub returns : goal.returns
returns c = let e : c.loop-i.i ≡ c.args.to = omega (arith, c.requires.order) in rw (← e) (record { offset = c.loop-i.invariant.0; values = c.loop-i.invariant.1 })
