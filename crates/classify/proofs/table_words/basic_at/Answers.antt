-- `basic_at` meets its contract.
-- Assumes nothing.
use mathlib.Core.Path.{◌∙◌}
use native.Mathlib.Omega.{arith}
use borrow.Author.Tests.{ne_eqb}
use Rattle.classify.specs.Classify.{gap, basic_at}
use Rattle.classify.proofs.Steps.{gap-small}
use Rattle.classify.proofs.table_words.basic_at.Goals as goal

pub add-requires : goal.add-requires
unfolding gap
add-requires c = omega (arith, c.of-parts.ensures.gap, gap-small c.args.code, c.requires)

pub returns : goal.returns
unfolding basic_at
returns c = c.merge_both.ensures ∙ rw (ne_eqb c.args.code 16 (λ e. omega (arith, e, c.requires.0)), c.put_class-first.ensures, c.put_class.ensures, c.add.ensures, c.of-parts.ensures.first, c.of-parts.ensures.second, c.of-parts.ensures.gap)
