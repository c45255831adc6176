-- The invariant: no type so far differs, so one does exactly where one of the rest does.
-- Assumes nothing.
use Rattle.finishing.proofs.Checks.{Alike}
use Rattle.finishing.proofs.other_types.Given as goal

abbrev pub invariant-loop-i : goal.invariant-loop-i
invariant-loop-i l = Alike l.known.bytes.now l.asked l.position l.i
