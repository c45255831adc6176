-- `old_check` meets its contract.
-- Assumes nothing.
use mathlib.Core.Path.{sym, ◌∙◌}
use Rattle.old_layout.proofs.Layouts.{passed-on, checked-laid, checked-refused}
use Rattle.old_layout.proofs.deciding.old_check.Goals as goal

pub returns-in_err-old_layout_of : goal.returns-in_err-old_layout_of
returns-in_err-old_layout_of c = passed-on _ c.from_residual.ensures.1 ∙ checked-refused c.args.d.now _ (sym c.old_layout_of.ensures ∙ c.in_err-old_layout_of.was)

pub returns : goal.returns
returns c = checked-laid c.args.d.now _ (sym c.old_layout_of.ensures ∙ c.in_ok-old_layout_of.was)
