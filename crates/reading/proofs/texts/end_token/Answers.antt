-- Nothing, or the token that was read. Assumes nothing.
use Rattle.grammar.specs.Prototype.{spellings}
use Rattle.grammar.specs.Grammar.{kind_of}
use Rattle.reading.proofs.Spelling.{part-slice}
use lib.Seq.{length-slice}
use mathlib.Core.Path.{ap, ◌∙◌}
use native.Mathlib.Omega.{arith}
use borrow.Author.Rules.{rules}
use borrow.Author.Tests.{eq-eqb}
use Rattle.reading.proofs.Steps.{flush-none, flush-token}
use Rattle.reading.proofs.texts.end_token.Goals as goal

pub returns-then-start-i : goal.returns-then-start-i
returns-then-start-i c = rw (eq-eqb c.args.start c.args.i c.if-start-i.true) (flush-none c.args.text.now c.args.start c.args.i c.args.symbols.now.depth c.args.symbols.now.cells c.if-start-i.true, omega arith)

pub kind_of-requires : goal.kind_of-requires
kind_of-requires c = rw (part-slice c.args.start c.args.i c.args.text.now (omega arith)) (omega (arith, c.if-start-i.false, length-slice c.args.start c.args.i c.args.text.now (omega arith)))

pub lead-requires : goal.lead-requires
lead-requires c = omega (arith, c.kind_of.ensures.1)

pub returns-else-start-i : goal.returns-else-start-i
returns-else-start-i c = (flush-token c.args.text.now c.args.start c.args.i _ _ _ _ _ (omega arith) (search rules) (c.kind_of.ensures.0 ∙ ap (kind_of spellings) (part-slice c.args.start c.args.i c.args.text.now (omega arith))) c.lead.ensures.0, omega (arith, c.lead.ensures.1))
