-- A station that nothing was ever attached to.
-- Assumes nothing.
use mathlib.Core.Path.{refl}
use Rattle.station.specs.Attachment.{new_station}
use Rattle.station.proofs.new_station.Goals as goal

pub returns : goal.returns
unfolding new_station
returns c = refl
