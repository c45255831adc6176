-- `joins_on` meets its contract.
-- Assumes nothing.
use mathlib.Core.Path.{◌∙◌}
use native.Mathlib.Omega.{arith}
use borrow.Author.Rules.{rules}
use borrow.Author.Tests.{le-ltb}
use Rattle.reading.proofs.Spelling.{joins-some, joins-empty}
use Rattle.reading.proofs.tokens.joins_on.Goals as goal

pub returns-then-start-i : goal.returns-then-start-i
returns-then-start-i c = joins-some c.args.text.now c.args.start c.args.i _ c.if-start-i.true (search rules) c.joined.ensures

pub returns-else-start-i : goal.returns-else-start-i
returns-else-start-i c = le-ltb _ _ (omega arith) ∙ joins-empty c.args.text.now c.args.start c.args.i _ (omega arith)
