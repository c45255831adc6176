-- A cleared seat with the description copied into it.
-- Assumes nothing.
use mathlib.Core.Path.{◌∙◌}
use Rattle.station.proofs.Filled.{filled-seat}
use Rattle.station.proofs.fill.Goals as goal

pub returns : goal.returns
returns c = c.copy.ensures ∙ filled-seat c.args.seat.now _ c.args.d.now c.requires.0 c.requires.1 c.clear.ensures
