-- Argument after argument into its part of the buffer.
-- Assumes nothing.
use Rattle.std.proofs.Common.{rules}
use mathlib.Core.Path.{refl, sym, ap, ◌∙◌}
use mathlib.Core.List.{[]}
use native.Mathlib.Omega.{arith}
use lib.ListN.{length}
use Rattle.description.specs.Description.{argument_at}
use Rattle.finishing.proofs.Checks.{type-low}
use Rattle.finishing.proofs.Copies.{part-long, fetched_first, fits_in, asks-here, copies_here, fetched_on, fetched_end}
use Rattle.uses.proofs.Uses.{accepted-typed}
use Rattle.walk.specs.declared.Walk.{Walk}
use Rattle.walk.specs.Orders.{asking}
use Rattle.finishing.proofs.fetch_all.Goals as goal

pub loop-position-init : goal.loop-position-init
loop-position-init c = (fetched_first c.args.known.bytes.now c.args.walk (asking c.args.registers.now c.args.stack.now 0 []) _ _ (length c.args.out.now) c.args.out.now c.requires refl, refl)

pub argument_at-ty-requires : goal.argument_at-ty-requires
argument_at-ty-requires c = ((accepted-typed c.args.known.bytes.now c.args.known.judged).whole, rw (sym c.arguments-position-end.ensures) c.loop-position-test.true)

pub bounds-known-ty : goal.bounds-known-ty
bounds-known-ty c = type-low c.args.known.bytes.now c.args.known.judged c.loop-position.position c.argument_at-ty.result (rw (sym c.arguments-position-end.ensures) c.loop-position-test.true) c.argument_at-ty.ensures

pub offset_bounds-known-ty : goal.offset_bounds-known-ty
offset_bounds-known-ty c = omega (arith, type-low c.args.known.bytes.now c.args.known.judged c.loop-position.position c.argument_at-ty.result (rw (sym c.arguments-position-end.ensures) c.loop-position-test.true) c.argument_at-ty.ensures)

pub overflow_add-end : goal.overflow_add-end
overflow_add-end c = let z = fits_in c.args.known.bytes.now c.args.walk c.loop-position.at c.args.registers.now c.args.stack.now c.loop-position.done (length c.args.out.now) c.loop-position.out c.args.known.judged c.loop-position.invariant.0 (omega (arith, c.loop-position-test.true, c.loop-position.invariant.1, c.arguments-position-end.ensures)) c.args.known.table.now c.args.known.tabled c.argument_at-ty.result (c.argument_at-ty.ensures ∙ ap (argument_at c.args.known.bytes.now) (sym c.loop-position.invariant.1)) c.shape-shape.result c.shape-shape.ensures in omega (arith, z, c.loop-position.invariant.0.long)

pub fetch-fetch-requires : goal.fetch-fetch-requires
fetch-fetch-requires c = asks-here c.args.known.bytes.now c.args.walk c.loop-position.at c.args.registers.now c.args.stack.now c.loop-position.done (length c.args.out.now) c.loop-position.out c.args.known.judged c.loop-position.invariant.0 (omega (arith, c.loop-position-test.true, c.loop-position.invariant.1, c.arguments-position-end.ensures)) c.args.known.table.now c.args.known.tabled c.argument_at-ty.result (c.argument_at-ty.ensures ∙ ap (argument_at c.args.known.bytes.now) (sym c.loop-position.invariant.1)) c.shape-shape.result c.shape-shape.ensures

pub slice_bounds-copy_out-end : goal.slice_bounds-copy_out-end
slice_bounds-copy_out-end c = fits_in c.args.known.bytes.now c.args.walk c.loop-position.at c.args.registers.now c.args.stack.now c.loop-position.done (length c.args.out.now) c.loop-position.out c.args.known.judged c.loop-position.invariant.0 (omega (arith, c.loop-position-test.true, c.loop-position.invariant.1, c.arguments-position-end.ensures)) c.args.known.table.now c.args.known.tabled c.argument_at-ty.result (c.argument_at-ty.ensures ∙ ap (argument_at c.args.known.bytes.now) (sym c.loop-position.invariant.1)) c.shape-shape.result c.shape-shape.ensures

pub copy_out-requires : goal.copy_out-requires
copy_out-requires c =
    let z = fits_in c.args.known.bytes.now c.args.walk c.loop-position.at c.args.registers.now c.args.stack.now c.loop-position.done (length c.args.out.now) c.loop-position.out c.args.known.judged c.loop-position.invariant.0 (omega (arith, c.loop-position-test.true, c.loop-position.invariant.1, c.arguments-position-end.ensures)) c.args.known.table.now c.args.known.tabled c.argument_at-ty.result (c.argument_at-ty.ensures ∙ ap (argument_at c.args.known.bytes.now) (sym c.loop-position.invariant.1)) c.shape-shape.result c.shape-shape.ensures in
    (c.requires.registers, part-long c.loop-position.out c.loop-position.done _ _ z refl, copies_here c.args.known.bytes.now c.args.walk c.loop-position.at c.args.registers.now c.args.stack.now c.loop-position.done (length c.args.out.now) c.loop-position.out c.args.known.judged c.loop-position.invariant.0 (omega (arith, c.loop-position-test.true, c.loop-position.invariant.1, c.arguments-position-end.ensures)) c.args.known.table.now c.args.known.tabled c.argument_at-ty.result (c.argument_at-ty.ensures ∙ ap (argument_at c.args.known.bytes.now) (sym c.loop-position.invariant.1)) c.shape-shape.result c.shape-shape.ensures c.fetch-fetch.result _ c.requires.stack c.fetch-fetch.ensures)

pub behind-at-requires : goal.behind-at-requires
behind-at-requires c = asks-here c.args.known.bytes.now c.args.walk c.loop-position.at c.args.registers.now c.args.stack.now c.loop-position.done (length c.args.out.now) c.loop-position.out c.args.known.judged c.loop-position.invariant.0 (omega (arith, c.loop-position-test.true, c.loop-position.invariant.1, c.arguments-position-end.ensures)) c.args.known.table.now c.args.known.tabled c.argument_at-ty.result (c.argument_at-ty.ensures ∙ ap (argument_at c.args.known.bytes.now) (sym c.loop-position.invariant.1)) c.shape-shape.result c.shape-shape.ensures

pub loop-position-preserved : goal.loop-position-preserved
loop-position-preserved c =
    let z = fits_in c.args.known.bytes.now c.args.walk c.loop-position.at c.args.registers.now c.args.stack.now c.loop-position.done (length c.args.out.now) c.loop-position.out c.args.known.judged c.loop-position.invariant.0 (omega (arith, c.loop-position-test.true, c.loop-position.invariant.1, c.arguments-position-end.ensures)) c.args.known.table.now c.args.known.tabled c.argument_at-ty.result (c.argument_at-ty.ensures ∙ ap (argument_at c.args.known.bytes.now) (sym c.loop-position.invariant.1)) c.shape-shape.result c.shape-shape.ensures in
    let e = ap (λ (v : Walk). v.position) c.behind-at.ensures in
    (fetched_on c.args.known.bytes.now c.args.walk c.loop-position.at c.args.registers.now c.args.stack.now c.loop-position.done (length c.args.out.now) c.loop-position.out c.args.known.judged c.loop-position.invariant.0 (omega (arith, c.loop-position-test.true, c.loop-position.invariant.1, c.arguments-position-end.ensures)) c.args.known.table.now c.args.known.tabled c.argument_at-ty.result (c.argument_at-ty.ensures ∙ ap (argument_at c.args.known.bytes.now) (sym c.loop-position.invariant.1)) c.shape-shape.result c.shape-shape.ensures c.fetch-fetch.result _ _ _ _ c.behind-at.result refl c.fetch-fetch.ensures c.copy_out.ensures (search rules) refl (search rules) c.behind-at.ensures, omega (arith, e, c.loop-position.invariant.1))

pub returns : goal.returns
returns c = fetched_end c.args.known.bytes.now c.args.walk c.loop-position.at (asking c.args.registers.now c.args.stack.now 0 []) c.loop-position.done (length c.args.out.now) c.arguments-position-end.result c.loop-position.out c.loop-position.invariant.0 c.arguments-position-end.ensures (omega (arith, c.loop-position-test.false, c.loop-position.invariant.1))
