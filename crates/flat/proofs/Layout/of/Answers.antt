-- Field by field. Assumes nothing.
use Rattle.std.proofs.Common.{rules}
use Rattle.flat.specs.Records.{layout_of}
use Rattle.flat.proofs.Layout.of.Goals as goal

pub returns : goal.returns
unfolding layout_of
returns c = search rules
