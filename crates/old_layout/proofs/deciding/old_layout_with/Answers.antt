-- `old_layout_with` meets its contract.
-- Assumes nothing.
use mathlib.Core.Path.{◌∙◌}
use native.Mathlib.Omega.{arith}
use Prim.Native.Nat.{◌≤◌, ◌<◌}
use Rattle.std.proofs.Common.{tests}
use Rattle.form.proofs.Judgment.{passed}
use Rattle.old_layout.proofs.Layouts.{passed-on, answer-judged, answer-wide, answer-small}
use Rattle.old_layout.proofs.Verdict.{accepted-uses}
use Rattle.old_layout.proofs.deciding.old_layout_with.Goals as goal

pub returns-in_err-judge : goal.returns-in_err-judge
returns-in_err-judge c =
    (passed-on _ c.from_residual.ensures.1 ∙ answer-judged c.args.d.now _ c.in_err-judge.ensures.0, c.judge.ensures.1, λ e. c.judge.ensures.2 (accepted-uses c.args.d.now e))

pub invariant_of-layout : goal.invariant_of-layout
invariant_of-layout c = let right = passed _ _ c.in_ok-judge.ensures.0 in record { known = record { right = right; sizes = c.judge.ensures.2 right } }

pub returns-then-gt : goal.returns-then-gt
returns-then-gt c =
    let right = passed _ _ c.in_ok-judge.ensures.0 in
    let over : 16384 < c.layout-layout.result.area.0 = grind (arith, tests) in
    (answer-wide c.args.d.now right c.layout-layout.result c.layout-layout.ensures _ c.from.ensures over, c.judge.ensures.1, λ e. c.judge.ensures.2 right)

pub returns : goal.returns
returns c =
    let right = passed _ _ c.in_ok-judge.ensures.0 in
    let small : c.layout-layout.result.area.0 ≤ 16384 = grind (arith, tests) in
    (answer-small c.args.d.now right c.layout-layout.result c.layout-layout.ensures small, c.judge.ensures.1, λ e. c.judge.ensures.2 right)
