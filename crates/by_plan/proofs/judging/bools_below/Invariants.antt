-- What is left to judge comes to what was to be judged at first.
-- Assumes nothing.
use Rattle.std.proofs.Common.{◌≡◌, drop}
use Rattle.plans.specs.Plans.{all_below}
use Rattle.by_plan.proofs.judging.bools_below.Given as goal

abbrev pub invariant-loop-at : goal.invariant-loop-at
invariant-loop-at l = all_below l.values (drop l.at-index l.bools) ≡ all_below l.values l.bools
