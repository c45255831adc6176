-- `is_number` meets its contract: the rest is digits where all behind the first are.
-- Assumes nothing.
use mathlib.Core.Path.{◌≡◌}
use Prim.Native.Nat.{◌≤◌}
use lib.ListN.{length, drop}
use Rattle.grammar.specs.Grammar.{all_digits}
use Rattle.reading.proofs.tokens.is_number.Given as goal

abbrev pub invariant-loop-j : goal.invariant-loop-j
invariant-loop-j l = (all_digits (drop l.j l.token) ≡ all_digits (drop 1 l.token)) × (l.j ≤ length l.token)
