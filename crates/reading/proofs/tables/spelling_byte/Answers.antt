-- `spelling_byte` meets its contract: the table's test is computed.
-- Assumes nothing.
use borrow.Author.Rules.{rules}
use Rattle.reading.proofs.Lists.{spelling_list}
use Rattle.reading.proofs.Tested.{byte-right}
use Rattle.reading.proofs.tables.spelling_byte.Goals as goal

pub returns : goal.returns
unfolding spelling_list
returns c = byte-right c.args.i c.args.j (search rules) (search rules)
