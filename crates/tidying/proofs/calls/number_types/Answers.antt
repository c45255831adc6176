-- `number_types` meets its contract.
-- Assumes nothing.
use native.Mathlib.Omega.{arith}
use Rattle.layout.specs.Layout.{check_answer}
use Rattle.layout.proofs.Verdict.{accepted-uses}
use Rattle.std.proofs.lemmas.Result.{err_from_is_err_and, MatchResult-weaker}
use Rattle.form.proofs.Judgment.{passed, refused}
use Rattle.tidying.proofs.Answering.{number-early, number-many, no_twenty_nine}
use Rattle.tidying.proofs.calls.number_types.Goals as goal

pub returns-in_err-check : goal.returns-in_err-check
unfolding check_answer
returns-in_err-check c =
    let p = err_from_is_err_and c.from_residual.result c.from_residual.ensures.1 in
    let q = refused _ _ _ c.in_err-check.ensures in
    rw (p.1, p.2) (number-early c.args.d.now q.0 _ q.1)

pub mark_all-requires : goal.mark_all-requires
unfolding check_answer
mark_all-requires c = accepted-uses c.args.d.now (passed _ _ c.in_ok-check.ensures)

pub invariant_of-of_call : goal.invariant_of-of_call
unfolding check_answer
invariant_of-of_call c = record { judged = accepted-uses c.args.d.now (passed _ _ c.in_ok-check.ensures); marked = c.mark_all.ensures }

pub returns : goal.returns
unfolding check_answer
returns c =
    let v = passed _ _ c.in_ok-check.ensures in
    MatchResult-weaker c.of_call.result c.of_call.ensures
    (λ tidied e. (no_twenty_nine c.args.d.now v (omega (arith, tidied.few, rw e at tidied.sum)), rw e))
    (λ refusal h. number-many c.args.d.now v h.1 refusal h.0)
