-- Both register offsets, or the overflow offset.
-- Assumes nothing.
use mathlib.Core.Path.{refl, sym, ap, ◌∙◌}
use native.Mathlib.Omega.{arith}
use Rattle.walk.proofs.Fetches.{moved-registers, moved-stack, raised-small}
use Rattle.units.specs.Raise.{raise}
use Rattle.walk.proofs.Walk.behind.Goals as goal

pub returns-then-fits : goal.returns-then-fits
returns-then-fits c = moved-registers c.args.self c.args.shape _ c.add.result c.add-then-fits.result (sym c.fits.ensures ∙ c.if-fits.true) refl (omega (arith, c.add.ensures, c.general_bytes.ensures, c.from-needed.ensures.general)) (omega (arith, c.add-then-fits.ensures, c.vector_bytes.ensures, c.from-needed.ensures.vector))

pub add-end-requires : goal.add-end-requires
add-end-requires c = omega (arith, raised-small c.args.shape.align.0 c.args.self.overflow.0 c.raised.result.0 c.requires.1.align c.requires.0.overflow c.raised.ensures, c.requires.1.size)

pub raised_to-requires : goal.raised_to-requires
raised_to-requires c = (omega arith, omega (arith, raised-small c.args.shape.align.0 c.args.self.overflow.0 c.raised.result.0 c.requires.1.align c.requires.0.overflow c.raised.ensures, c.requires.1.size, c.add-end.ensures))

pub returns : goal.returns
returns c = moved-stack c.args.self c.args.shape _ c.raised.result.0 c.raised_to.result (sym c.fits.ensures ∙ c.if-fits.false) refl c.raised.ensures (c.raised_to.ensures ∙ ap (raise 8) c.add-end.ensures)
