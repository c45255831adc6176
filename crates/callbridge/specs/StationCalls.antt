-- What the calls of the C interface that attach, detach and change give: include/callbridge.h. Assumes nothing: these are definitions.
use Rattle.std.specs.Prelude.{List, Result, ℕ}
use Rattle.form.specs.declared.Refusal.{Refusal}
use Rattle.station.specs.Paper.{kcb, answer_under}
use Rattle.station.specs.Outcome.{answer_of}
use Rattle.station.specs.Attachment.{attach_refusal, attach_station, detach_refusal, detach_station, detach_seat}
use Rattle.flat.specs.declared.Station.{Station}
use Rattle.flat.specs.Stations.{station_meant, flat_station}
use Rattle.callbridge.specs.Outcome.{left_in}

-- cb_attach
unfoldable pub attach_given : Station → List ℕ → List ℕ → Result Station Refusal
attach_given s seat d =
    answer_under kcb d (attach_refusal kcb (station_meant s) seat d) (flat_station (attach_station kcb (station_meant s) seat d))

-- cb_detach
unfoldable pub detach_given : Station → List ℕ → Result Station Refusal
detach_given s seat = answer_of (detach_refusal (station_meant s) seat) (flat_station (detach_station (station_meant s) seat))

-- cb_change (request 2026-09): "It equals detach, its answer ignored, then attach". What the detach leaves of the lent record is what a refusal leaves
unfoldable pub freed_station : Station → List ℕ → Station
freed_station s seat = left_in (detach_given s seat) s

unfoldable pub change_given : Station → List ℕ → List ℕ → Result Station Refusal
change_given s seat d = attach_given (freed_station s seat) (detach_seat (station_meant s) seat) d
