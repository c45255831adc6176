-- `judge` meets its contract.
-- Assumes nothing.
use mathlib.Core.Path.{◌∙◌}
use Rattle.std.proofs.lemmas.Result.{err_from_is_err_and}
use Rattle.form.proofs.Judgment.{passed}
use Rattle.old_layout.proofs.Uses.{accepted-types, judged-types, types-whole, types-named, judged-passing}
use Rattle.old_layout.proofs.deciding.judge.Goals as goal

pub returns-in_err-judge : goal.returns-in_err-judge
returns-in_err-judge c =
    let d = c.args.d.now in
    let p = err_from_is_err_and c.from_residual.result c.from_residual.ensures.1 in
    (rw (p.1, p.2) (judged-types d _ c.in_err-judge.ensures.0), c.judge.ensures.1, λ e. c.judge.ensures.2 (accepted-types d e))

pub judge_passing-requires : goal.judge_passing-requires
judge_passing-requires c =
    let right = passed _ _ c.in_ok-judge.ensures.0 in
    (types-whole c.args.d.now right, types-named c.args.d.now right)

pub returns : goal.returns
returns c =
    let d = c.args.d.now in
    (c.judge_passing.ensures ∙ judged-passing d (passed _ _ c.in_ok-judge.ensures.0), c.judge.ensures.1, λ e. c.judge.ensures.2 (accepted-types d e))
