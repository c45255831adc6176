-- `rule` meets its contract: the table's test is computed. Assumes nothing.
use mathlib.Core.Path.{sym, ap, ◌∙◌}
use Prim.Native.Nat.{ℕ}
use native.Mathlib.Omega.{arith}
use borrow.Author.Rules.{rules}
use Rattle.reading.specs.Coded.{rest_at}
use Rattle.reading.proofs.Lists.{rule_list}
use Rattle.reading.proofs.Tested.{rule-right, rule-past}
use Rattle.reading.proofs.Takers.{counted-sub}
use Rattle.grammar.specs.Prototype.{declarations}
use Rattle.reading.proofs.tables.rule.Goals as goal

pub returns-then-symbol-lt86 : goal.returns-then-symbol-lt86
unfolding rule_list
returns-then-symbol-lt86 c =
    let r = rule-right c.from.result c.args.k (omega (arith, c.from.ensures, c.if-symbol-lt86.true)) (search rules) in
    let e = counted-sub _ _ c.checked_sub.ensures ∙ c.from-then-symbol-lt86.ensures in
    (ap (λ (z : ℕ). declarations.rule z c.args.k) (sym c.from.ensures) ∙ r.0 ∙ ap rest_at (sym e), omega (arith, e, r.1))

pub returns-else-symbol-lt86 : goal.returns-else-symbol-lt86
returns-else-symbol-lt86 c = (rule-past _ _ (omega (arith, c.if-symbol-lt86.false)), omega arith)
