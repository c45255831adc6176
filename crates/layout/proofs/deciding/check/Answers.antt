use mathlib.Core.Path.{sym, ◌∙◌}
use Rattle.layout.proofs.Layouts.{passed-on, checked-laid, checked-refused}
use Rattle.layout.proofs.deciding.check.Goals as goal

pub returns-in_err-layout_of : goal.returns-in_err-layout_of
returns-in_err-layout_of c = passed-on _ c.from_residual.ensures.1 ∙ checked-refused c.args.d.now _ (sym c.layout_of.ensures ∙ c.in_err-layout_of.was)

pub returns : goal.returns
returns c = checked-laid c.args.d.now _ (sym c.layout_of.ensures ∙ c.in_ok-layout_of.was)
