-- `begins_token` meets its contract: what is left begins so as all did.
-- Assumes nothing.
use mathlib.Core.Path.{◌≡◌}
use mathlib.Core.List.{[]}
use Prim.Native.Nat.{◌≤◌}
use lib.ListN.{length, get_or, drop}
use Rattle.grammar.specs.Machine.{begins}
use Rattle.grammar.specs.Prototype.{spellings}
use Rattle.reading.proofs.tokens.begins_token.Given as goal

abbrev pub invariant-loop-j : goal.invariant-loop-j
invariant-loop-j l = (begins (drop l.j l.token) (drop l.j (get_or spellings l.i [])) ≡ begins l.token (get_or spellings l.i [])) × (length l.token ≤ length (get_or spellings l.i [])) × (length (get_or spellings l.i []) ≤ 11)
