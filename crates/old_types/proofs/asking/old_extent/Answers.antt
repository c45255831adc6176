-- `type_extent` meets its contract.
-- Assumes nothing.
use mathlib.Core.Path.{sym}
use Rattle.std.proofs.lemmas.Result.{err_from_is_err_and}
use Rattle.form.proofs.Judgment.{passed, passed_on, refused_on}
use Rattle.old_types.specs.Questions.{extent_answer}
use Rattle.old_types.proofs.Questions.{answered-sized, extent_is}
use Rattle.old_types.proofs.Table.{known-low, known-extent}
use Rattle.old_types.proofs.asking.old_extent.Goals as goal

pub returns-in_err-judge : goal.returns-in_err-judge
unfolding extent_answer
returns-in_err-judge c =
    let p = err_from_is_err_and c.from_residual.result c.from_residual.ensures.1 in
    rw (p.1, p.2) (sym (refused_on _ _ _ _ c.in_err-judge.ensures.0))

pub extent_in-requires : goal.extent_in-requires
extent_in-requires c =
    let d = c.args.d.now in
    let e = passed _ _ c.in_ok-judge.ensures.0 in
    known-low d _ (c.judge.ensures.2 e) c.args.t (answered-sized d c.args.t e)

pub returns : goal.returns
unfolding extent_answer
returns c =
    let d = c.args.d.now in
    let e = passed _ _ c.in_ok-judge.ensures.0 in
    let is = extent_is d c.args.t e c.extent_in.result (known-extent d _ (c.judge.ensures.2 e) c.args.t (answered-sized d c.args.t e) c.extent_in.result c.extent_in.ensures) in
    rw is (sym (passed_on _ _ _ c.in_ok-judge.ensures.0))
