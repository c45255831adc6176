-- The invariant: what is left to search finds what the whole search finds.
-- Assumes nothing.
use mathlib.Core.Path.{◌≡◌}
use Prim.Native.Nat.{◌-◌}
use Rattle.description.specs.Description.{arguments_in}
use Rattle.form.specs.Search.{first_from}
use Rattle.uses.specs.Uses.{wrong_argument, first_wrong}
use Rattle.uses.proofs.some_wrong.Given as goal

abbrev pub invariant-loop-i : goal.invariant-loop-i
invariant-loop-i l = first_from (wrong_argument l.d) l.i (arguments_in l.d - l.i) ≡ first_wrong l.d
