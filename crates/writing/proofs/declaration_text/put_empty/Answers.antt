-- Where there is no argument. Assumes nothing.
use mathlib.Core.Bool.{true, false}
use Rattle.writing.specs.Parts.{empty_text}
use Rattle.writing.proofs.Parts.{as_room, as_put, empty-is}
use Rattle.writing.proofs.declaration_text.put_empty.Goals as goal

pub put-requires : goal.put-requires
unfolding empty_text
put-requires c = as_room (empty_text c.args.variadic) (empty_text true) c.args.text.now.at (empty-is c.args.variadic true c.if-variadic.true) c.requires

pub returns-then-variadic : goal.returns-then-variadic
unfolding empty_text
returns-then-variadic c = as_put (empty_text c.args.variadic) (empty_text true) (empty-is c.args.variadic true c.if-variadic.true) c.put.ensures

pub put-requires-else-variadic : goal.put-requires-else-variadic
unfolding empty_text
put-requires-else-variadic c = as_room (empty_text c.args.variadic) (empty_text false) c.args.text.now.at (empty-is c.args.variadic false c.if-variadic.false) c.requires

pub returns-else-variadic : goal.returns-else-variadic
unfolding empty_text
returns-else-variadic c = as_put (empty_text c.args.variadic) (empty_text false) (empty-is c.args.variadic false c.if-variadic.false) c.put-else-variadic.ensures
