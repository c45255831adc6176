-- `read_on` meets its contract: what is left to read answers as the whole text does.
-- Assumes nothing.
use mathlib.Core.Path.{◌≡◌}
use mathlib.Core.List.{[]}
use Prim.Native.Nat.{◌+◌, ◌*◌, ◌≤◌}
use lib.ListN.{length, drop}
use lib.Seq.{slice}
use Rattle.reading.specs.Code.{tops, answer_of}
use Rattle.grammar.specs.Machine.{at, read_from, read_text}
use Rattle.grammar.specs.Prototype.{declarations}
use Rattle.grammar.specs.Grammar.{is_number}
use Rattle.reading.proofs.texts.read_on.Given as goal

abbrev pub invariant-loop-i : goal.invariant-loop-i
invariant-loop-i l = (answer_of (read_from declarations (at (slice l.start l.i l.text) (tops l.symbols.cells l.symbols.depth) []) l.i (drop l.i l.text)) ≡ answer_of (read_text declarations (tops l.initial.symbols.cells l.initial.symbols.depth) l.text)) × (l.start ≤ l.i) × (l.i ≤ length l.text) × (l.symbols.depth ≤ 6 + 4 * l.start) × (l.number ≡ is_number (slice l.start l.i l.text))
