-- `judge_kept` meets its contract.
-- Assumes nothing.
use mathlib.Core.Path.{sym, ◌∙◌}
use Rattle.std.proofs.lemmas.Result.{err_from_is_err_and}
use Rattle.form.proofs.Judgment.{passed, judgment-none}
use Rattle.old_types.proofs.Orders.{right-whole, kept-right}
use Rattle.old_types.proofs.Judged.{judged-form, judged-omitted}
use Rattle.old_types.proofs.refusals.judge_kept.Goals as goal

pub returns-in_err-judge_form : goal.returns-in_err-judge_form
returns-in_err-judge_form c =
    let p = err_from_is_err_and c.from_residual.result c.from_residual.ensures.1 in
    rw (p.1, p.2) (judged-form c.args.d.now _ c.in_err-judge_form.ensures)

pub has_omitted-requires : goal.has_omitted-requires
has_omitted-requires c = right-whole c.args.d.now (passed _ _ c.in_ok-judge_form.ensures)

pub returns-then-has_omitted : goal.returns-then-has_omitted
returns-then-has_omitted c = rw c.from.ensures (judged-omitted c.args.d.now (passed _ _ c.in_ok-judge_form.ensures) (sym c.has_omitted.ensures ∙ c.if-has_omitted.true))

pub returns : goal.returns
returns c = judgment-none _ _ (kept-right c.args.d.now (passed _ _ c.in_ok-judge_form.ensures) (sym c.has_omitted.ensures ∙ c.if-has_omitted.false))
