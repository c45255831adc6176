-- The result, or void. Assumes nothing.
use native.Mathlib.Omega.{arith}
use Rattle.writing.proofs.Steps.{entry-is, headed, few-types, return_low, result-void, result-type}
use Rattle.writing.proofs.text_lengths.result_length.Goals as goal

pub byte_at-returned-requires : goal.byte_at-returned-requires
byte_at-returned-requires c = omega (arith, headed c.args.d.now c.requires.0)

pub returns-then-returned-eq255 : goal.returns-then-returned-eq255
returns-then-returned-eq255 c = (result-void c.args.d.now c.byte_at-returned.result c.byte_at-returned.ensures.0 c.if-returned-eq255.true, omega arith)

pub entry_at-requires : goal.entry_at-requires
entry_at-requires c = omega (arith, return_low c.args.d.now c.requires.0 c.byte_at-returned.result c.byte_at-returned.ensures.0 c.if-returned-eq255.false, few-types c.args.d.now c.requires.0)

pub returns : goal.returns
returns c = (result-type c.args.d.now c.byte_at-returned.result c.entry_at.result c.byte_at-returned.ensures.0 c.if-returned-eq255.false (entry-is c.byte_at-returned.result c.entry_at.result c.requires.1 (return_low c.args.d.now c.requires.0 c.byte_at-returned.result c.byte_at-returned.ensures.0 c.if-returned-eq255.false) c.entry_at.ensures).0, (entry-is c.byte_at-returned.result c.entry_at.result c.requires.1 (return_low c.args.d.now c.requires.0 c.byte_at-returned.result c.byte_at-returned.ensures.0 c.if-returned-eq255.false) c.entry_at.ensures).1)
