-- `type_classes` meets its contract.
-- Assumes nothing.
use mathlib.Core.Path.{sym, ◌∙◌}
use Rattle.std.proofs.lemmas.Result.{err_from_is_err_and}
use Rattle.form.proofs.Judgment.{passed, refused_on}
use Rattle.questions.specs.Runs.{classes_answer}
use Rattle.questions.proofs.Questions.{answered-types, answered-sized}
use Rattle.questions.proofs.Runs.{four-wide, four-pair}
use Rattle.types.proofs.Table.{known-low}
use Rattle.questions.proofs.class_answers.type_classes.Goals as goal

pub returns-in_err-judge : goal.returns-in_err-judge
unfolding classes_answer
returns-in_err-judge c =
    let p = err_from_is_err_and c.from_residual.result c.from_residual.ensures.1 in
    rw (p.1, p.2) (sym (refused_on _ _ _ _ c.in_err-judge.ensures.0))

pub fill_classes-requires : goal.fill_classes-requires
fill_classes-requires c =
    let e = passed _ _ c.in_ok-judge.ensures.0 in
    (answered-types c.args.d.now c.args.t e, c.judge.ensures.2 e)

pub is_wide-requires : goal.is_wide-requires
is_wide-requires c = known-low c.args.d.now _ c.fill_classes.ensures.1.sizes c.args.t (answered-sized c.args.d.now c.args.t (passed _ _ c.in_ok-judge.ensures.0))

pub returns-then-is_wide : goal.returns-then-is_wide
returns-then-is_wide c = four-wide c.args.d.now _ c.args.t (passed _ _ c.in_ok-judge.ensures.0) c.fill_classes.ensures.1 (sym c.is_wide.ensures ∙ c.if-is_wide.true)

pub classes_in-classes-requires : goal.classes_in-classes-requires
classes_in-classes-requires c = known-low c.args.d.now _ c.fill_classes.ensures.1.sizes c.args.t (answered-sized c.args.d.now c.args.t (passed _ _ c.in_ok-judge.ensures.0))

pub returns : goal.returns
returns c = four-pair c.args.d.now _ c.args.t (passed _ _ c.in_ok-judge.ensures.0) c.fill_classes.ensures.1 (sym c.is_wide.ensures ∙ c.if-is_wide.false) c.classes_in-classes.result c.classes_in-classes.ensures
