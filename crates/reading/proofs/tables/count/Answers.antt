-- `count` meets its contract: the table's test is computed. Assumes nothing.
use mathlib.Core.Path.{◌∙◌}
use native.Mathlib.Omega.{arith}
use borrow.Author.Rules.{rules}
use Rattle.reading.proofs.Lists.{production_list}
use Rattle.reading.proofs.Tested.{count-right}
use Rattle.reading.proofs.tables.count.Goals as goal

pub returns : goal.returns
unfolding production_list
returns c = (c.from.ensures ∙ (count-right c.args.p (search rules)).0, omega (arith, c.from.ensures, (count-right c.args.p (search rules)).1))
