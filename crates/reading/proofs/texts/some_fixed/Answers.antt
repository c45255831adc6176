-- The fixed tokens that are left say what all did. Assumes nothing.
use mathlib.Core.Path.{refl, sym, ◌∙◌}
use native.Mathlib.Omega.{arith}
use Rattle.reading.proofs.Spelling.{fixed_here, fixed_next, fixed_none}
use Rattle.grammar.specs.Prototype.{declarations}
use Rattle.reading.proofs.texts.some_fixed.Goals as goal

pub loop-i-init : goal.loop-i-init
loop-i-init c = (refl, omega arith)

pub returns-then-fixed_fits : goal.returns-then-fixed_fits
returns-then-fixed_fits c = fixed_here _ _ c.loop-i-test.true declarations _ c.loop-i.invariant.0 (sym c.fixed_fits.ensures ∙ c.if-fixed_fits.true)

pub loop-i-preserved : goal.loop-i-preserved
loop-i-preserved c = (fixed_next _ _ c.loop-i-test.true declarations _ c.loop-i.invariant.0 (sym c.fixed_fits.ensures ∙ c.if-fixed_fits.false), omega arith)

pub returns : goal.returns
returns c = fixed_none declarations _ _ c.loop-i.i c.loop-i.invariant.0 (omega arith)
