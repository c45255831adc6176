-- A detach, its answer ignored, then an attach.
-- Assumes nothing.
use Rattle.station.specs.Paper.{kcb}
use Rattle.station.proofs.Changes.{change-composed}
use Rattle.station.proofs.change.Goals as goal

pub returns : goal.returns
returns c = change-composed kcb c.args.station.now c.args.seat.now c.args.d.now _ _ _ _ _ c.detach.ensures.1 c.detach.ensures.2 c.attach.ensures
