-- The invariant: the record and what is written so far, with what is to come, make up the whole.
-- Assumes nothing.
use mathlib.Core.Path.{◌≡◌}
use mathlib.Core.List.{[]}
use lib.ListN.{length}
use Rattle.finishing.proofs.Copies.{Fetched}
use Rattle.walk.specs.Orders.{asking}
use Rattle.finishing.proofs.fetch_all.Given as goal

abbrev pub invariant-loop-position : goal.invariant-loop-position
invariant-loop-position l = Fetched l.known.bytes.now l.initial.at l.at (asking l.registers l.stack 0 []) l.done (length l.initial.out) l.out × (l.at.position ≡ l.position)
