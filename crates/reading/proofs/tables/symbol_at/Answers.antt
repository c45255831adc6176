-- `symbol_at` meets its contract: the table's test is computed.
-- Assumes nothing.
use borrow.Author.Rules.{rules}
use Rattle.reading.proofs.Lists.{production_list}
use Rattle.reading.proofs.Tested.{symbol-right}
use Rattle.reading.proofs.tables.symbol_at.Goals as goal

pub returns : goal.returns
unfolding production_list
returns c = symbol-right c.args.p c.args.j (search rules) (search rules)
