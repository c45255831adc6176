-- `wide_word` meets its contract.
-- Assumes nothing.
use mathlib.Core.Path.{sym, ◌∙◌}
use native.Mathlib.Omega.{arith}
use borrow.Author.Tests.{eqb-false}
use Rattle.classify.proofs.OverTwo.{vector-word, memory_word, other-memory}
use Rattle.classify.proofs.wide_aggregates.wide_word.Goals.{else-eq-via-then-eq+else-is_vector, else-eq-via-else-eq}
use Rattle.classify.proofs.wide_aggregates.wide_word.Goals as goal

pub returns-then-is_vector : goal.returns-then-is_vector
returns-then-is_vector c = vector-word _ (c.is_vector.ensures ∙ rw c.if-is_vector.true)

pub returns-else-eq : goal.returns-else-eq
returns-else-eq c = elim c.else-eq.branch [
  | else-eq-via-then-eq+else-is_vector w ↦ memory_word _ (w.is_vector.ensures ∙ rw w.if-is_vector.false)
  | else-eq-via-else-eq w ↦ memory_word _ (other-memory c.args.known.d.now c.args.k c.requires.0 c.requires.1 (omega (arith, c.requires.2, c.requires.3)) (λ e. eqb-false c.args.size.0 32 (sym c.eq.ensures ∙ w.if-eq.false) (c.requires.2 ∙ e)))
]
