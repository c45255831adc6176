use mathlib.Core.Path.{sym, ◌∙◌}
use Rattle.form.proofs.Judgment.{passed, refused}
use Rattle.std.proofs.lemmas.Result.{IfOk-from_err}
use Rattle.uses.proofs.Uses.{accepted-types}
use Rattle.layout.proofs.Layouts.{passed-on, table-refused, table-worked}
use Rattle.layout.proofs.deciding.judge.Goals as goal

pub returns-in_err-judge : goal.returns-in_err-judge
returns-in_err-judge c =
    let wrong = refused _ _ _ (sym c.in_err-judge.was ∙ c.judge.ensures.0) in (
      passed-on _ c.from_residual.ensures.1 ∙ sym c.in_err-judge.was ∙ c.judge.ensures.0,
      table-refused c.args.d.now c.args.table.now _ c.judge.ensures.1 wrong.0,
      λ e. absurd (wrong.0 e),
      IfOk-from_err _ _ c.from_residual.ensures.0,
    )

pub fill_classes-requires : goal.fill_classes-requires
fill_classes-requires c =
    let right = passed _ _ c.in_ok-judge.ensures.0 in
    (accepted-types c.args.d.now right, c.judge.ensures.2 right)

pub returns : goal.returns
returns c =
    let right = passed _ _ c.in_ok-judge.ensures.0 in (
      c.in_ok-judge.ensures.0,
      table-worked c.args.d.now c.args.table.now _ c.judge.ensures.1 right _ c.fill_classes.ensures.0,
      λ e. c.fill_classes.ensures.1,
      (right, c.fill_classes.ensures.1),
    )
