-- `some_broken` meets its contract. The invariant: what is left to search finds what the whole search finds.
-- Assumes nothing.
use Rattle.moving.proofs.Searching.{Searching}
use Rattle.moving.proofs.refusals.some_broken.Given as goal

abbrev pub invariant-loop-i : goal.invariant-loop-i
invariant-loop-i l = Searching l.described.bytes.now l.values l.start.0 l.i
