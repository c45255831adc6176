-- By the answer. Assumes nothing.
use Rattle.std.proofs.Common.{rules}
use Rattle.station.specs.Paper.{answer_under}
use Rattle.callbridge.specs.WalkCalls.{step_given}
use Rattle.callbridge.proofs.Given.{chosen-ok, chosen-err}
use Rattle.callbridge.proofs.cb_step.Goals as goal

pub returns : goal.returns
unfolding step_given answer_under
returns c = search (rules, chosen-ok, chosen-err)
