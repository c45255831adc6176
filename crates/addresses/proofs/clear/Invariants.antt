-- `addresses::clear` meets its contract. The invariant: `done` bytes are zeros, and those behind them are as they were.
-- Assumes nothing.
use mathlib.Core.Path.{◌≡◌}
use mathlib.Core.List.{◌++◌}
use lib.ListN.{drop, replicate}
use Rattle.addresses.proofs.clear.Given as goal

abbrev pub invariant-loop-done : goal.invariant-loop-done
invariant-loop-done l = l.dst ≡ replicate l.done 0 ++ drop l.done l.initial.dst
