-- `member_offsets` meets its contract, by the four ways in which it ends.
-- Assumes nothing.
use mathlib.Core.Path.{◌∙◌}
use native.Mathlib.Omega.{arith}
use Rattle.std.proofs.lemmas.Result.{err_from_is_err_and}
use Rattle.description.proofs.Records.{no_group}
use Rattle.form.proofs.Judgment.{passed}
use Rattle.questions.proofs.Offsets.{ends-refused, ends-other, ends-short, ends-filled}
use Rattle.questions.proofs.Questions.{answered-sized}
use Rattle.questions.proofs.lent_offsets.member_offsets.Goals as goal

pub returns-in_err-judge : goal.returns-in_err-judge
returns-in_err-judge c =
    let p = err_from_is_err_and c.from_residual.result c.from_residual.ensures.1 in
    let e = ends-refused c.args.d.now c.args.t c.args.offsets.now _ c.in_err-judge.ensures.0 in
    (rw (p.1, p.2) e.0, e.1)

pub record_at-requires : goal.record_at-requires
record_at-requires c =
    let s = answered-sized c.args.d.now c.args.t (passed _ _ c.in_ok-judge.ensures.0) in
    (s.whole, s.known)

pub returns-in_default : goal.returns-in_default
returns-in_default c =
    let d = c.args.d.now in
    let q = passed _ _ c.in_ok-judge.ensures.0 in
    ends-other d c.args.t c.args.offsets.now q (answered-sized d c.args.t q) (no_group d c.args.t _ c.record_at.ensures.1 c.in_default.not-Group)

pub returns-then-offsets-count : goal.returns-then-offsets-count
returns-then-offsets-count c =
    let q = passed _ _ c.in_ok-judge.ensures.0 in
    let r = c.in-Group.ensures.1 in
    let e = ends-short c.args.d.now c.args.t c.args.offsets.now q (answered-sized c.args.d.now c.args.t q) r.0 (omega (arith, r.2.count)) in
    (rw c.from.ensures e.0, e.1)

pub write_offsets-requires : goal.write_offsets-requires
write_offsets-requires c =
    let q = passed _ _ c.in_ok-judge.ensures.0 in
    let r = c.in-Group.ensures.1 in (
      record { sized = answered-sized c.args.d.now c.args.t q; group = r.0; tabled = c.judge.ensures.2 q; long = omega (arith, r.2.count) },
      r.1,
      r.2,
    )

pub returns : goal.returns
returns c =
    let q = passed _ _ c.in_ok-judge.ensures.0 in
    let r = c.in-Group.ensures.1 in
    let e = ends-filled c.args.d.now c.args.t c.args.offsets.now q (answered-sized c.args.d.now c.args.t q) r.0 (omega (arith, r.2.count)) in
    (e.0, c.write_offsets.ensures ∙ e.1)
