-- The length of the whole text. Assumes nothing.
use native.Mathlib.Omega.{arith}
use Rattle.writing.proofs.Steps.{headed, whole-none, whole-some}
use Rattle.writing.proofs.text_lengths.text_length.Goals as goal

pub byte_at-named-requires : goal.byte_at-named-requires
byte_at-named-requires c = omega (arith, headed c.args.d.now c.requires.0)

pub variadic_in-variadic-requires : goal.variadic_in-variadic-requires
variadic_in-variadic-requires c = omega (arith, headed c.args.d.now c.requires.0)

pub returns-then-named-eq0 : goal.returns-then-named-eq0
returns-then-named-eq0 c = whole-none c.args.d.now c.requires.0 c.byte_at-named.result c.variadic_in-variadic.result c.result_length-back.result c.byte_at-named.ensures.0 c.variadic_in-variadic.ensures c.result_length-back.ensures.0 c.empty_length.result c.cap.result c.if-named-eq0.true c.empty_length.ensures.0 c.cap.ensures

pub returns : goal.returns
returns c = whole-some c.args.d.now c.requires.0 c.byte_at-named.result c.variadic_in-variadic.result c.result_length-back.result c.byte_at-named.ensures.0 c.variadic_in-variadic.ensures c.result_length-back.ensures.0 c.end_length.result c.cap-2.result c.arguments_length.result c.if-named-eq0.false c.end_length.ensures.0 c.cap-2.ensures c.arguments_length.ensures
