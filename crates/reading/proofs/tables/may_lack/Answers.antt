-- `may_lack` meets its contract: the table's test is computed. Assumes nothing.
use mathlib.Core.Path.{ap, ◌∙◌}
use Prim.Native.Nat.{ℕ}
use native.Mathlib.Omega.{arith}
use borrow.Author.Tests.{le-leb}
use Rattle.reading.specs.Coded.{absent_code}
use Rattle.reading.proofs.Lists.{absent_list}
use Rattle.reading.proofs.Tested.{absent-right, absent-past}
use Rattle.reading.proofs.Takers.{may-code, may-past}
use Rattle.grammar.specs.Prototype.{declarations}
use Rattle.reading.proofs.tables.may_lack.Goals as goal

pub returns-then-symbol-ge86 : goal.returns-then-symbol-ge86
returns-then-symbol-ge86 c = le-leb 86 c.args.symbol c.if-symbol-ge86.true ∙ may-past (declarations.absent c.args.symbol) (absent-past c.args.symbol c.if-symbol-ge86.true)

pub returns-else-symbol-ge86 : goal.returns-else-symbol-ge86
unfolding absent_list
returns-else-symbol-ge86 c = may-code (declarations.absent c.args.symbol) _ (absent-right c.from.result (omega (arith, c.from.ensures, c.if-symbol-ge86.false)) ∙ ap (λ (z : ℕ). absent_code (declarations.absent z)) c.from.ensures)
