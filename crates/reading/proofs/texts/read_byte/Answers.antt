-- Branch by branch. Assumes nothing.
use Rattle.reading.specs.Code.{tops}
use Rattle.grammar.specs.Prototype.{declarations}
use Rattle.grammar.specs.Machine.{possible}
use Rattle.reading.proofs.Spelling.{part-slice}
use lib.Seq.{length-slice}
use Prim.Native.Nat.{◌+◌}
use mathlib.Core.Path.{refl, sym, ap, ◌∙◌}
use borrow.Author.Tests.{eqb-true, eqb-false}
use native.Mathlib.Omega.{arith}
use borrow.Author.Rules.{rules}
use Rattle.reading.proofs.Digits.{none_number}
use Rattle.reading.proofs.Steps.{step-joined, step-lost, step-blank, step-begin}
use Rattle.reading.proofs.texts.read_byte.Goals as goal

pub could-requires : goal.could-requires
could-requires c = rw (part-slice c.args.start (c.args.i + 1) c.args.text.now (omega arith)) (omega (arith, length-slice c.args.start (c.args.i + 1) c.args.text.now (omega arith)), c.number_on-more.ensures)

pub returns-then-joins_on : goal.returns-then-joins_on
returns-then-joins_on c = rw c.then_some.ensures (step-joined c.args.text.now c.args.start c.args.i c.args.symbols.now.depth _ _ _ (search rules) (search rules) (search rules) c.joins_on.ensures c.if-joins_on.true (c.could.ensures ∙ ap (possible declarations (tops c.args.symbols.now.cells c.args.symbols.now.depth)) (part-slice c.args.start (c.args.i + 1) c.args.text.now (omega arith))))

pub returns-then-not-end_token : goal.returns-then-not-end_token
returns-then-not-end_token c = step-lost c.args.text.now c.args.start c.args.i c.args.symbols.now.depth _ _ c.joins_on.ensures c.if-joins_on.false _ _ _ c.end_token.ensures.0 c.if-not-end_token.true

pub returns-then-has_class : goal.returns-then-has_class
returns-then-has_class c = step-blank c.args.text.now c.args.start c.args.i c.args.symbols.now.depth _ _ c.joins_on.ensures c.if-joins_on.false _ _ _ _ c.end_token.ensures.0 c.if-not-end_token.false refl (eqb-true _ 0 (sym c.has_class.ensures ∙ c.if-has_class.true)) (omega (arith, c.end_token.ensures.1))

pub number_on-digit-requires : goal.number_on-digit-requires
number_on-digit-requires c = (omega arith, search rules, none_number c.args.text.now c.args.i)

pub could-requires-2 : goal.could-requires-2
could-requires-2 c = rw (part-slice c.args.i (c.args.i + 1) c.args.text.now (omega arith)) (omega (arith, length-slice c.args.i (c.args.i + 1) c.args.text.now (omega arith)), c.number_on-digit.ensures)

pub returns : goal.returns
returns c = rw c.then_some-2.ensures (step-begin c.args.text.now c.args.start c.args.i c.args.symbols.now.depth _ _ c.joins_on.ensures c.if-joins_on.false _ _ _ _ _ (search rules) c.end_token.ensures.0 c.if-not-end_token.false refl (eqb-false _ 0 (sym c.has_class.ensures ∙ c.if-has_class.false)) (omega (arith, c.end_token.ensures.1)) (c.could-2.ensures ∙ ap (possible declarations (tops c.end_token.new.symbols.cells c.end_token.new.symbols.depth)) (part-slice c.args.i (c.args.i + 1) c.args.text.now (omega arith))))
