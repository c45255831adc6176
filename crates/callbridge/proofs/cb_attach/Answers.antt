-- By the answer. Assumes nothing.
use Rattle.std.proofs.Common.{rules}
use Rattle.station.specs.Paper.{answer_under}
use Rattle.callbridge.specs.StationCalls.{attach_given}
use Rattle.callbridge.proofs.Given.{chosen-ok, chosen-err}
use Rattle.callbridge.proofs.cb_attach.Goals as goal

pub returns : goal.returns
unfolding attach_given answer_under
returns c = search (rules, chosen-ok, chosen-err)
