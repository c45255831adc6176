-- The words of the walk's line, in order. Assumes nothing.
use native.Mathlib.Omega.{arith}
use borrow.Author.Tests.{eq-eqb}
use Rattle.listing.specs.Listing.{walk_line}
use Rattle.listing.proofs.Lines.{walk_is}
use Rattle.listing.proofs.Puts.{puts_more}
use Rattle.listing.proofs.line_writing.put_walk.Goals as goal

pub returns-then-variadic-eq0 : goal.returns-then-variadic-eq0
unfolding walk_line
returns-then-variadic-eq0 c = rw (eq-eqb c.args.variadic 0 c.if-variadic-eq0.true) (puts_more c.put.ensures (omega arith))

pub returns : goal.returns
returns c = walk_is c.args.variadic c.args.named c.general_bytes.result.0 c.vector_bytes.result.0 c.if-variadic-eq0.false c.general_bytes.ensures c.vector_bytes.ensures c.put_number.ensures c.put_number-2.ensures c.put_number-3.ensures c.put-2.ensures
