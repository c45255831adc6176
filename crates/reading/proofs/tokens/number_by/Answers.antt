-- `number_by` meets its contract.
-- Assumes nothing.
use native.Mathlib.Omega.{arith}
use Rattle.reading.proofs.Spelling.{part-slice}
use mathlib.Core.Path.{sym, ap, ◌∙◌}
use Prim.Native.Nat.{ℕ, ◌+◌}
use lib.Seq.{slice, length-slice}
use borrow.Author.Tests.{lt-leb}
use Rattle.reading.proofs.Digits.{by_none}
use Rattle.grammar.specs.Grammar.{is_number}
use Rattle.reading.proofs.tokens.number_by.Goals as goal

pub returns-then-next-start : goal.returns-then-next-start
returns-then-next-start c = c.number_on.ensures ∙ ap (λ (s : ℕ). is_number (slice s (c.args.i + 1) c.args.text.now)) (sym c.if-next-start.true)

pub returns-else-next-i : goal.returns-else-next-i
returns-else-next-i c = lt-leb _ _ c.if-next-i.false ∙ by_none c.args.text.now c.args.i c.args.next c.if-next-i.false

pub is_number-requires : goal.is_number-requires
is_number-requires c = rw (part-slice c.args.next (c.args.i + 1) c.args.text.now (omega arith)) (omega (arith, length-slice c.args.next (c.args.i + 1) c.args.text.now (omega arith)))

pub returns-then-next-i : goal.returns-then-next-i
returns-then-next-i c = c.is_number.ensures ∙ ap is_number (part-slice c.args.next (c.args.i + 1) c.args.text.now (omega arith))
