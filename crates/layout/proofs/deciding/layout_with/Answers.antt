use mathlib.Core.Path.{sym, ◌∙◌}
use Rattle.std.proofs.lemmas.Result.{IfOk-from_err}
use Rattle.std.proofs.lemmas.Map.Keys.{le_from_not_gt}
use Rattle.places.proofs.Orders.{over_from_gt}
use Rattle.layout.proofs.Layouts.{passed-on, answer-judged, answer-wide, answer-small, laid-accepted}
use Rattle.layout.proofs.Verdict.{accepted-uses}
use Rattle.layout.proofs.deciding.layout_with.Goals as goal

pub returns-in_err-judge : goal.returns-in_err-judge
returns-in_err-judge c = (
  passed-on _ c.from_residual.ensures.1 ∙ answer-judged c.args.d.now _ (sym c.in_err-judge.was ∙ c.judge.ensures.0),
  c.judge.ensures.1,
  λ e. c.judge.ensures.2 (accepted-uses c.args.d.now e),
  IfOk-from_err _ _ c.from_residual.ensures.0,
)

pub returns-then-gt : goal.returns-then-gt
returns-then-gt c =
    let right = c.in_ok-judge.ensures.3.0 in (
      answer-wide c.args.d.now right c.layout-layout.result c.layout-layout.ensures _ c.from.ensures (over_from_gt _ _ (sym c.gt.ensures ∙ c.if-gt.true)),
      c.judge.ensures.1,
      λ e. c.in_ok-judge.ensures.3.1,
      tt,
    )

pub returns : goal.returns
returns c =
    let right = c.in_ok-judge.ensures.3.0 in
    let laid = answer-small c.args.d.now right c.layout-layout.result c.layout-layout.ensures (le_from_not_gt _ _ (sym c.gt.ensures ∙ c.if-gt.false)) in (
      laid,
      c.judge.ensures.1,
      λ e. c.in_ok-judge.ensures.3.1,
      (c.layout-layout.ensures, (laid-accepted c.args.d.now _ (sym laid)).0, right, c.in_ok-judge.ensures.3.1),
    )
