-- All lists are there, and then what is in them.
-- Assumes nothing.
use mathlib.Core.Path.{sym, ◌∙◌}
use native.Mathlib.Omega.{arith}
use Prim.Native.Nat.{◌≤◌}
use lib.ListN.{length}
use Rattle.plans.specs.Plans.{end_of}
use Rattle.by_plan.proofs.Verdicts.{well_cut, well_judged}
use Rattle.by_plan.proofs.judging.well_formed.Goals as goal

pub returns-then-plan-end : goal.returns-then-plan-end
returns-then-plan-end c = sym (well_cut c.args.plan.numbers.now c.args.plan.headed (omega (arith, c.if-plan-end.true, c.end.ensures)))

pub returns-then-all_fit : goal.returns-then-all_fit
returns-then-all_fit c =
    let l : end_of c.args.plan.numbers.now ≤ length c.args.plan.numbers.now = omega (arith, c.if-plan-end.false, c.end.ensures) in
    let f = rw (c.at.ensures.0, c.image.ensures, c.lists-lists.ensures.moves) at (sym c.all_fit.ensures ∙ c.if-all_fit.true) in
    rw (c.at-then-all_fit.ensures.0, c.lists-lists.ensures.bools) at c.bools_below.ensures ∙ sym (well_judged c.args.plan.numbers.now c.args.plan.headed l ∙ rw f)

pub returns-else-all_fit : goal.returns-else-all_fit
returns-else-all_fit c =
    let l : end_of c.args.plan.numbers.now ≤ length c.args.plan.numbers.now = omega (arith, c.if-plan-end.false, c.end.ensures) in
    let f = rw (c.at.ensures.0, c.image.ensures, c.lists-lists.ensures.moves) at (sym c.all_fit.ensures ∙ c.if-all_fit.false) in
    c.if-all_fit.false ∙ sym (well_judged c.args.plan.numbers.now c.args.plan.headed l ∙ rw f)
