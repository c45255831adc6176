-- `run_at` meets its contract.
-- Assumes nothing.
use mathlib.Core.Path.{◌≡◌, sym}
use native.Mathlib.Omega.{arith}
use borrow.Author.Tests.{eq-eqb, lt-ltb, le-ltb}
use Rattle.std.proofs.lemmas.Result.{err_from_is_err_and}
use Prim.Native.Nat.{◌<◌}
use Rattle.description.proofs.Records.{no_group}
use Rattle.form.proofs.Judgment.{passed, refused_on}
use Rattle.questions.specs.Questions.{question_refusal}
use Rattle.questions.specs.Runs.{run_answer}
use Rattle.questions.proofs.Questions.{answered-sized}
use Rattle.questions.proofs.Runs.{run-within}
use Rattle.description.specs.Description.{kind_at}
use Rattle.questions.proofs.member_runs.run_at.Goals as goal

pub returns-in_err-judge : goal.returns-in_err-judge
unfolding run_answer
returns-in_err-judge c =
    let p = err_from_is_err_and c.from_residual.result c.from_residual.ensures.1 in
    (rw (p.1, p.2) (sym (refused_on _ _ _ _ c.in_err-judge.ensures.0)), rw p.1 tt)

pub record_at-requires : goal.record_at-requires
record_at-requires c =
    let s = answered-sized c.args.d.now c.args.t (passed _ _ c.in_ok-judge.ensures.0) in
    (s.whole, s.known)

pub bounds-d-5 : goal.bounds-d-5
bounds-d-5 c = omega (arith, (answered-sized c.args.d.now c.args.t (passed _ _ c.in_ok-judge.ensures.0)).whole.headed)

pub returns-in-Group : goal.returns-in-Group
unfolding run_answer
returns-in-Group c =
    let d = c.args.d.now in
    let q : question_refusal d c.args.t ≡ 0 = passed _ _ c.in_ok-judge.ensures.0 in
    let r = c.in-Group.ensures.1 in
    (rw (eq-eqb _ _ q, le-ltb (kind_at d c.args.t) 2 r.0, c.from-types.ensures, r.2.second, r.2.count), omega (arith, run-within d c.args.t q r.0, c.from-types.ensures, r.2.second, r.2.count))

pub returns-in_default : goal.returns-in_default
unfolding run_answer
returns-in_default c =
    let d = c.args.d.now in
    let other : kind_at d c.args.t < 2 = no_group d c.args.t _ c.record_at.ensures.1 c.in_default.not-Group in
    (rw (eq-eqb _ _ (passed _ _ c.in_ok-judge.ensures.0), lt-ltb (kind_at d c.args.t) 2 other), tt)
