-- Field by field. Assumes nothing.
use Rattle.std.proofs.Common.{rules}
use Rattle.flat.specs.Stations.{station_meant}
use Rattle.flat.proofs.stations.StationStationFromStation.from.Goals as goal

pub returns : goal.returns
unfolding station_meant
returns c = search rules
