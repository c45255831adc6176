use mathlib.Core.Path.{refl}
use native.Mathlib.Omega.{arith}
use Rattle.reading.proofs.Spelling.{begins-too_long, begins-differs, begins-again, begins-done}
use Rattle.reading.proofs.tokens.begins_token.Goals as goal

pub returns-then-spelling_length-token : goal.returns-then-spelling_length-token
returns-then-spelling_length-token c = begins-too_long _ _ 0 _ c.spelling_length.ensures.0 c.if-spelling_length-token.true

pub loop-j-init : goal.loop-j-init
loop-j-init c = (refl, omega (arith, c.spelling_length.ensures.0, c.if-spelling_length-token.false), omega (arith, c.spelling_length.ensures))

pub returns-then-spelling_byte-token : goal.returns-then-spelling_byte-token
returns-then-spelling_byte-token c = begins-differs _ _ _ _ _ _ c.loop-j.invariant.0 refl c.loop-j.invariant.1 c.loop-j-test.true c.spelling_byte.ensures refl c.if-spelling_byte-token.true

pub loop-j-preserved : goal.loop-j-preserved
loop-j-preserved c = (begins-again _ _ _ _ _ _ c.loop-j.invariant.0 refl c.loop-j.invariant.1 c.loop-j-test.true c.spelling_byte.ensures refl c.if-spelling_byte-token.false, c.loop-j.invariant.1, c.loop-j.invariant.2)

pub returns : goal.returns
returns c = begins-done c.args.token.now _ c.loop-j.j c.loop-j.invariant.0 (omega arith)
