-- Behind the last argument. Assumes nothing.
use mathlib.Core.Bool.{true, false}
use Rattle.writing.specs.Parts.{end_text}
use Rattle.writing.proofs.Parts.{as_room, as_put, end_is}
use Rattle.listing.proofs.Puts.{puts_none}
use Rattle.writing.proofs.declaration_text.put_end.Goals as goal

pub put-requires : goal.put-requires
unfolding end_text
put-requires c = as_room (end_text c.args.variadic) (end_text true) c.args.text.now.at (end_is c.args.variadic true c.if-variadic.true) c.requires

pub returns-then-variadic : goal.returns-then-variadic
unfolding end_text
returns-then-variadic c = as_put (end_text c.args.variadic) (end_text true) (end_is c.args.variadic true c.if-variadic.true) c.put.ensures

pub returns-else-variadic : goal.returns-else-variadic
unfolding end_text
returns-else-variadic c = as_put (end_text c.args.variadic) (end_text false) (end_is c.args.variadic false c.if-variadic.false) (puts_none c.args.text.now)
