-- Field by field. Assumes nothing.
use Rattle.std.proofs.Common.{rules}
use Rattle.flat.specs.Records.{placement_of}
use Rattle.flat.proofs.records.PlacementFromLayoutPlacement.from.Goals as goal

pub returns : goal.returns
unfolding placement_of
returns c = search rules
