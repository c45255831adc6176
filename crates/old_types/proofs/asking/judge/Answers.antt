-- `judge` meets its contract.
-- Assumes nothing.
use native.Mathlib.Omega.{arith}
use Rattle.std.proofs.lemmas.Result.{err_from_is_err_and}
use Rattle.form.proofs.Judgment.{passed, judgment-none}
use Rattle.old_types.proofs.Orders.{accepted-kept, accepted-headed}
use Rattle.old_types.proofs.Questions.{judged-types, judged-eight, question-right, answered-types}
use Rattle.old_types.proofs.asking.judge.Goals as goal

pub returns-in_err-judge : goal.returns-in_err-judge
returns-in_err-judge c =
    let d = c.args.d.now in
    let p = err_from_is_err_and c.from_residual.result c.from_residual.ensures.1 in
    (rw (p.1, p.2) (judged-types d c.args.t _ c.in_err-judge.ensures.0), c.judge.ensures.1, λ e. c.judge.ensures.2 (answered-types d c.args.t e))

pub bounds-d-5 : goal.bounds-d-5
bounds-d-5 c = omega (arith, accepted-headed c.args.d.now (accepted-kept c.args.d.now (passed _ _ c.in_ok-judge.ensures.0)))

pub returns-then-d-t : goal.returns-then-d-t
returns-then-d-t c =
    let d = c.args.d.now in
    (rw c.from.ensures (judged-eight d c.args.t (passed _ _ c.in_ok-judge.ensures.0) (omega arith)), c.judge.ensures.1, λ e. c.judge.ensures.2 (answered-types d c.args.t e))

pub returns : goal.returns
returns c =
    let d = c.args.d.now in
    (judgment-none _ _ (question-right d c.args.t (passed _ _ c.in_ok-judge.ensures.0) (omega arith)), c.judge.ensures.1, λ e. c.judge.ensures.2 (answered-types d c.args.t e))
