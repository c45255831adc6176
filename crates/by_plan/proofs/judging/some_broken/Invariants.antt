-- What is left to judge comes to what was to be judged at first.
-- Assumes nothing.
use Rattle.std.proofs.Common.{◌≡◌, length, drop, true}
use Rattle.plans.specs.Plans.{all_below, some_broken}
use Rattle.by_plan.proofs.judging.some_broken.Given as goal

abbrev pub invariant-loop-at : goal.invariant-loop-at
invariant-loop-at l = (all_below (length l.values) (drop l.at-index l.bools) ≡ true) × (some_broken l.values (drop l.at-index l.bools) ≡ some_broken l.values l.bools)
