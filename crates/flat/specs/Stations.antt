-- The station and the walk as flat records: include/callbridge.h, cb_station and cb_walk. Assumes nothing: these are definitions.
use Rattle.std.specs.Prelude.{◌≡◌, cond, not, eqb}
use Rattle.station.specs.declared.Station.{Station as Attached}
use Rattle.walk.specs.declared.Walk.{Walk as Standing}
use Rattle.flat.specs.declared.Station.{Station}
use Rattle.flat.specs.declared.Walk.{Walk}

-- what a record means: "0 in `attached` is not attached, any other number is attached"
unfoldable pub station_meant : Station → Attached
station_meant s = record { attached = not (eqb s.attached 0); length = s.length; number = s.number }

-- the record that is written: 1 where something is attached, and the reserved bytes are zero
unfoldable pub flat_station : Attached → Station
flat_station s = record {
  length = s.length;
  number = s.number;
  attached = cond s.attached 1 0;
  reserved_1 = 0;
  reserved_2 = 0;
}

unfoldable pub walk_meant : Walk → Standing
walk_meant w = record { number = w.number; position = w.position; general = w.general; vector = w.vector; overflow = w.overflow }

unfoldable pub flat_walk : Standing → Walk
flat_walk w = record {
  position = w.position;
  general = w.general;
  vector = w.vector;
  overflow = w.overflow;
  number = w.number;
  reserved_4 = 0;
}

-- a record that was written means what it was made of
abbrev pub StationMeans : Type 0
StationMeans = (s : Attached) → station_meant (flat_station s) ≡ s

abbrev pub WalkMeans : Type 0
WalkMeans = (w : Standing) → walk_meant (flat_walk w) ≡ w
