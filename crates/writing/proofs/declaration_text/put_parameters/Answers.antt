-- All parameters. Assumes nothing.
use native.Mathlib.Omega.{arith}
use lib.Dec.{eqb}
use Rattle.listing.proofs.Puts.{puts_behind}
use Rattle.writing.specs.Parts.{parameters_text, empty_text}
use Rattle.writing.proofs.Parts.{headed, argument-sized, as_room, as_put, parameters_none, parameters_room, parameters_done}
use Rattle.uses.proofs.Uses.{accepted-typed}
use Rattle.writing.proofs.declaration_text.put_parameters.Goals as goal

pub byte_at-named-requires : goal.byte_at-named-requires
byte_at-named-requires c = omega (arith, headed c.args.d.now c.requires.0)

pub variadic_in-variadic-requires : goal.variadic_in-variadic-requires
variadic_in-variadic-requires c = omega (arith, headed c.args.d.now c.requires.0)

pub put_empty-requires : goal.put_empty-requires
put_empty-requires c = as_room (parameters_text c.args.d.now) (empty_text (eqb c.variadic_in-variadic.result 1)) c.args.text.now.at (parameters_none c.args.d.now c.byte_at-named.result c.variadic_in-variadic.result c.byte_at-named.ensures.0 c.if-named-eq0.true c.variadic_in-variadic.ensures) c.requires.1

pub returns-then-named-eq0 : goal.returns-then-named-eq0
returns-then-named-eq0 c = as_put (parameters_text c.args.d.now) (empty_text (eqb c.variadic_in-variadic.result 1)) (parameters_none c.args.d.now c.byte_at-named.result c.variadic_in-variadic.result c.byte_at-named.ensures.0 c.if-named-eq0.true c.variadic_in-variadic.ensures) c.put_empty.ensures

pub argument_at-first-requires : goal.argument_at-first-requires
argument_at-first-requires c = ((accepted-typed c.args.d.now c.requires.0).whole, omega (arith, c.if-named-eq0.false, c.byte_at-named.ensures.0, (accepted-typed c.args.d.now c.requires.0).named))

pub put_type-requires : goal.put_type-requires
put_type-requires c = (rw c.argument_at-first.ensures (argument-sized c.args.d.now c.requires.0 0 (omega (arith, c.if-named-eq0.false, c.byte_at-named.ensures.0, (accepted-typed c.args.d.now c.requires.0).named))), omega (arith, parameters_room c.args.d.now c.byte_at-named.result c.argument_at-first.result c.args.text.now.at c.byte_at-named.ensures.0 c.if-named-eq0.false c.argument_at-first.ensures c.requires.1))

pub put_further-requires : goal.put_further-requires
put_further-requires c = (c.requires.0, omega (arith, c.if-named-eq0.false, c.byte_at-named.ensures.0), omega (arith, puts_behind c.put_type.ensures, parameters_room c.args.d.now c.byte_at-named.result c.argument_at-first.result c.args.text.now.at c.byte_at-named.ensures.0 c.if-named-eq0.false c.argument_at-first.ensures c.requires.1))

pub returns-else-named-eq0 : goal.returns-else-named-eq0
returns-else-named-eq0 c = parameters_done c.args.d.now c.byte_at-named.result c.argument_at-first.result c.byte_at-named.ensures.0 c.if-named-eq0.false c.argument_at-first.ensures c.put_type.ensures c.put_further.ensures
