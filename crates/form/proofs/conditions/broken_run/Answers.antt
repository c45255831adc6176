use Rattle.std.proofs.Common.{rules, tests, refl}
use Rattle.std.proofs.lemmas.Iterator.{YieldsList-from_range}
use native.Mathlib.Omega.{arith}
use mathlib.Core.Path.{sym, ◌∙◌}
use borrow.Author.Tests.{ne_eqb, eqb-false}
use Rattle.form.specs.Conditions.{high_member, broken_run}
use Rattle.form.proofs.Search.{found_any}
use Rattle.form.proofs.conditions.broken_run.Goals as goal
use Rattle.form.proofs.conditions.broken_run.Goals.{then-count-eq0, else-count-eq0}

pub returns-else-byte_at-end : goal.returns-else-byte_at-end
unfolding broken_run
returns-else-byte_at-end c =
    let any = found_any (high_member c.args.d.now c.args.owner) c.args.first c.args.count _ _ _ c.any.result c.any.ensures.ran (YieldsList-from_range c.args.first _ _ refl (omega arith)) refl (λ x b q k. search (rules, tests)) in
    elim c.if-count-eq0.branch [
      | then-count-eq0 w ↦ absurd (eqb-false c.args.count 0 (sym w.value-is ∙ c.if-byte_at-end.false) w.if-count-eq0.true)
      | else-count-eq0 w ↦ rw (ne_eqb _ _ w.if-count-eq0.false, ← w.byte_at.ensures.0, sym w.value-is ∙ c.if-byte_at-end.false) any
    ]
