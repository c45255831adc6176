-- Each list is the numbers between where it begins and where the next one does.
-- Assumes nothing.
use Rattle.by_plan.proofs.Lists.{are-moves, are-bools}
use Rattle.by_plan.proofs.head.Plan.lists.Goals as goal

pub returns : goal.returns
returns c = record {
  moves = are-moves c.args.self.numbers.now c.requires _ _ _ _ c.fours_at-fours.ensures.0 c.parts_at-parts.ensures.0 c.bools_at-bools.ensures.0 c.end.ensures;
  bools = are-bools c.args.self.numbers.now c.requires _ _ _ _ c.fours_at-fours.ensures.0 c.parts_at-parts.ensures.0 c.bools_at-bools.ensures.0 c.end.ensures;
}
