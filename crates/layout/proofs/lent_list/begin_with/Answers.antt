use mathlib.Core.Path.{sym, ◌∙◌}
use native.Mathlib.Omega.{arith}
use Rattle.std.proofs.lemmas.Result.{IfOk-from_err}
use Rattle.layout.proofs.Layouts.{passed-on}
use Rattle.layout.proofs.Lists.{list-refused, list-short, list-laid}
use Rattle.layout.proofs.lent_list.begin_with.Goals as goal

pub returns-in_err-layout : goal.returns-in_err-layout
returns-in_err-layout c = (
  passed-on _ c.from_residual.ensures.1 ∙ list-refused c.args.d.now c.args.room _ (sym c.layout_with.ensures.0 ∙ c.in_err-layout.was),
  c.layout_with.ensures.1,
  c.layout_with.ensures.2,
  IfOk-from_err _ _ c.from_residual.ensures.0,
)

pub returns-then-room-arguments : goal.returns-then-room-arguments
returns-then-room-arguments c =
    let laid = c.in_ok-layout.ensures.3 in (
      list-short c.args.d.now c.args.room laid.1 (omega (arith, c.arguments.ensures)) _ c.from.ensures,
      c.layout_with.ensures.1,
      c.layout_with.ensures.2,
      tt,
    )

pub returns : goal.returns
returns c =
    let laid = c.in_ok-layout.ensures.3 in (
      list-laid c.args.d.now c.args.room laid.1 (omega (arith, c.arguments.ensures)) _ laid.0,
      c.layout_with.ensures.1,
      c.layout_with.ensures.2,
      (laid.0, omega (arith, c.arguments.ensures), laid.2, laid.3),
    )
