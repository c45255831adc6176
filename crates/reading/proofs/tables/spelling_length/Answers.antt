-- `spelling_length` meets its contract: the table's test is computed. Assumes nothing.
use mathlib.Core.Path.{◌∙◌}
use native.Mathlib.Omega.{arith}
use borrow.Author.Rules.{rules}
use Rattle.reading.proofs.Lists.{spelling_list}
use Rattle.reading.proofs.Tested.{length-right}
use Rattle.reading.proofs.tables.spelling_length.Goals as goal

pub returns : goal.returns
unfolding spelling_list
returns c = (c.from.ensures ∙ (length-right c.args.i (search rules)).0, omega (arith, c.from.ensures, (length-right c.args.i (search rules)).1))
