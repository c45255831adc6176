-- A detach, its answer ignored, then an attach. Assumes nothing.
use Rattle.callbridge.proofs.Given.{change-composed}
use Rattle.callbridge.proofs.cb_change.Goals as goal

pub returns : goal.returns
returns c = change-composed c.args.station.now c.args.seat.now c.args.d.now _ _ _ _ _ c.cb_detach.ensures.1.0 c.cb_detach.ensures.1.1 c.cb_attach.ensures
