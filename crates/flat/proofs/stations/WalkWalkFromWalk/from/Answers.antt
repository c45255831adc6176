-- Field by field. Assumes nothing.
use Rattle.std.proofs.Common.{rules}
use Rattle.flat.specs.Stations.{walk_meant}
use Rattle.flat.proofs.stations.WalkWalkFromWalk.from.Goals as goal

pub returns : goal.returns
unfolding walk_meant
returns c = search rules
