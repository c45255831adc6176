-- `addresses::copy` meets its contract. The invariant: `done` bytes are copied.
-- Assumes nothing.
use mathlib.Core.Path.{◌≡◌}
use Rattle.addresses.specs.Copy.{copied}
use Rattle.addresses.proofs.copy.Given as goal

abbrev pub invariant-loop-done : goal.invariant-loop-done
invariant-loop-done l = l.dst ≡ copied l.initial.dst l.to l.src l.from l.done
