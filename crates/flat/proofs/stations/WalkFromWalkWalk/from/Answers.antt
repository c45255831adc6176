-- Field by field. Assumes nothing.
use Rattle.std.proofs.Common.{rules}
use Rattle.flat.specs.Stations.{flat_walk}
use Rattle.flat.proofs.stations.WalkFromWalkWalk.from.Goals as goal

pub returns : goal.returns
unfolding flat_walk
returns c = search rules
