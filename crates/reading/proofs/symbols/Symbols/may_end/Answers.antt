-- What must come is not left out. Assumes nothing.
use mathlib.Core.Path.{sym, ◌∙◌}
use native.Mathlib.Omega.{arith}
use Rattle.reading.proofs.Takers.{ends-none, ends-below, ends-done}
use Rattle.grammar.specs.Prototype.{declarations}
use Rattle.reading.proofs.symbols.Symbols.may_end.Goals as goal

pub returns-then-not-may_lack : goal.returns-then-not-may_lack
returns-then-not-may_lack c = sym (sym c.loop-place.invariant.0 ∙ ends-none declarations _ 0 _ _ c.loop-place-test.true c.may_lack.ensures c.if-not-may_lack.true)

pub loop-place-preserved : goal.loop-place-preserved
loop-place-preserved c = (sym (ends-below declarations _ 0 _ _ c.loop-place-test.true c.may_lack.ensures c.if-not-may_lack.false) ∙ c.loop-place.invariant.0, omega arith)

pub returns : goal.returns
returns c = ends-done declarations c.args.self.now.cells 0 c.loop-place.place c.args.self.now.depth c.loop-place.invariant.0 (omega arith)
