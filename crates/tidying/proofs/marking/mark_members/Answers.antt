use mathlib.Core.Path.{◌≡◌, sym, ◌∙◌}
use Prim.Native.Nat.{◌+◌, ◌-◌}
use native.Mathlib.Omega.{arith}
use Rattle.tidying.proofs.Marks.{run_none, run_step, marks_on}
use Rattle.tidying.proofs.marking.mark_members.Goals as goal

pub loop-at-preserved : goal.loop-at-preserved
loop-at-preserved c =
    let q : c.args.first + c.args.count - (c.loop-at.at + 1) ≡ c.args.first + c.args.count - c.loop-at.at - 1 = omega arith in
    rw (q, c.mix-mark.ensures, c.member_at.ensures)
    (run_step c.args.d.now c.args.marks.now c.loop-at.at (c.args.first + c.args.count - c.loop-at.at) (marks_on c.args.d.now c.args.marks.now c.args.first c.args.count c.loop-at.at c.requires (omega arith) (omega arith)) (omega arith) c.loop-at.mark ∙ c.loop-at.invariant)

pub returns : goal.returns
returns c =
    sym (run_none c.args.d.now c.args.marks.now c.loop-at.at (c.args.first + c.args.count - c.loop-at.at) (marks_on c.args.d.now c.args.marks.now c.args.first c.args.count c.loop-at.at c.requires (omega arith) (omega arith)) (omega arith) c.loop-at.mark)
    ∙ c.loop-at.invariant
