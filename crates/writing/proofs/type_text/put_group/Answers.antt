-- The word for a union, or for a struct. Assumes nothing.
use mathlib.Core.Bool.{true, false}
use Rattle.writing.specs.Texts.{group_text}
use Rattle.writing.proofs.Texts.{group-room, group-is}
use Rattle.writing.proofs.type_text.put_group.Goals as goal

pub put-requires : goal.put-requires
unfolding group_text
put-requires c = group-room c.args.union true c.args.text.now.at c.if-union.true c.requires

pub returns-then-union : goal.returns-then-union
unfolding group_text
returns-then-union c = group-is c.args.union true c.if-union.true c.put.ensures

pub put-requires-else-union : goal.put-requires-else-union
unfolding group_text
put-requires-else-union c = group-room c.args.union false c.args.text.now.at c.if-union.false c.requires

pub returns-else-union : goal.returns-else-union
unfolding group_text
returns-else-union c = group-is c.args.union false c.if-union.false c.put-else-union.ensures
