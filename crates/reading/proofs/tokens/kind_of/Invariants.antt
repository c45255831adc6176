-- `kind_of` meets its contract: the fixed tokens that are left say what all did.
-- Assumes nothing.
use mathlib.Core.Path.{◌≡◌}
use Prim.Native.Nat.{◌+◌, ◌≤◌}
use lib.ListN.{drop}
use Rattle.grammar.specs.Grammar.{word_kind}
use Rattle.grammar.specs.Prototype.{spellings}
use Rattle.reading.proofs.tokens.kind_of.Given as goal

abbrev pub invariant-loop-i : goal.invariant-loop-i
invariant-loop-i l = (word_kind (drop l.i spellings) (l.i + 3) l.token ≡ word_kind spellings 3 l.token) × (l.i ≤ 45)
