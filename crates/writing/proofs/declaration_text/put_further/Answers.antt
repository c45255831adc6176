-- The arguments behind the first. The invariant: what writes the rest writes all. Assumes nothing.
use native.Mathlib.Omega.{arith}
use Rattle.listing.proofs.Puts.{puts_behind}
use Rattle.writing.proofs.Parts.{headed, argument-sized, listing-first, argument-room, listing-next, end_room, listing-end}
use Rattle.uses.proofs.Uses.{accepted-typed}
use Rattle.writing.proofs.declaration_text.put_further.Goals as goal

pub byte_at-named-requires : goal.byte_at-named-requires
byte_at-named-requires c = omega (arith, headed c.args.d.now c.requires.0)

pub variadic_in-variadic-requires : goal.variadic_in-variadic-requires
variadic_in-variadic-requires c = omega (arith, headed c.args.d.now c.requires.0)

pub loop-i-init : goal.loop-i-init
loop-i-init c = (c.byte_at-named.ensures.0, listing-first c.args.d.now c.args.text.now c.requires.1 c.requires.2)

pub argument_at-argument-requires : goal.argument_at-argument-requires
argument_at-argument-requires c = ((accepted-typed c.args.d.now c.requires.0).whole, omega (arith, c.loop-i-test.true, c.loop-i.invariant.0, (accepted-typed c.args.d.now c.requires.0).named))

pub put-requires : goal.put-requires
put-requires c = omega (arith, argument-room c.argument_at-argument.result c.loop-i.invariant.1 (omega (arith, c.loop-i-test.true, c.loop-i.invariant.0)) c.argument_at-argument.ensures)

pub put_type-requires : goal.put_type-requires
put_type-requires c = (rw c.argument_at-argument.ensures (argument-sized c.args.d.now c.requires.0 c.loop-i.i (omega (arith, c.loop-i-test.true, c.loop-i.invariant.0, (accepted-typed c.args.d.now c.requires.0).named))), omega (arith, puts_behind c.put.ensures, argument-room c.argument_at-argument.result c.loop-i.invariant.1 (omega (arith, c.loop-i-test.true, c.loop-i.invariant.0)) c.argument_at-argument.ensures))

pub loop-i-preserved : goal.loop-i-preserved
loop-i-preserved c = (c.loop-i.invariant.0, listing-next c.argument_at-argument.result c.loop-i.invariant.1 (omega (arith, c.loop-i-test.true, c.loop-i.invariant.0)) c.argument_at-argument.ensures c.put.ensures c.put_type.ensures)

pub put_end-requires : goal.put_end-requires
put_end-requires c = end_room c.variadic_in-variadic.result c.loop-i.invariant.1 (omega (arith, c.loop-i-test.false, c.loop-i.invariant.0)) c.variadic_in-variadic.ensures

pub returns : goal.returns
returns c = listing-end c.variadic_in-variadic.result c.loop-i.invariant.1 (omega (arith, c.loop-i-test.false, c.loop-i.invariant.0)) c.variadic_in-variadic.ensures c.put_end.ensures
