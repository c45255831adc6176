-- By the answer. Assumes nothing.
use Rattle.std.proofs.Common.{rules}
use Rattle.station.specs.Outcome.{answer_of}
use Rattle.callbridge.specs.StationCalls.{detach_given}
use Rattle.callbridge.proofs.Given.{chosen-ok, chosen-err}
use Rattle.callbridge.proofs.cb_detach.Goals as goal

pub returns : goal.returns
unfolding detach_given answer_of
returns c = search (rules, chosen-ok, chosen-err)
