-- Field by field. Assumes nothing.
use Rattle.std.proofs.Common.{rules}
use Rattle.flat.specs.Stations.{flat_station}
use Rattle.flat.proofs.stations.StationFromStationStation.from.Goals as goal

pub returns : goal.returns
unfolding flat_station
returns c = search rules
