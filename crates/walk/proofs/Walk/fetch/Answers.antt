-- From the registers where they fit, and else from the stack.
-- Assumes nothing.
use mathlib.Core.Path.{sym, ◌∙◌}
use Rattle.walk.proofs.Fetches.{none-fits, read-stack, read_one, read-two}
use Rattle.walk.proofs.Walk.fetch.Goals as goal

pub returns-then-not-fits : goal.returns-then-not-fits
returns-then-not-fits c = read-stack c.args.self c.args.shape c.raised-offset.result.0 (sym c.fits.ensures ∙ c.if-not-fits.true) c.raised-offset.ensures

pub returns-in-Stack : goal.returns-in-Stack
returns-in-Stack c = absurd (none-fits c.args.self c.args.shape.kinds c.fits.result c.in-Stack.is c.fits.ensures (c.if-not-fits.false))

pub returns-in-One : goal.returns-in-One
returns-in-One c = read_one c.args.self c.args.shape c.in-One.kind c.from-none.result c.read.result.0 c.in-One.is (sym c.fits.ensures ∙ c.if-not-fits.false) c.from-none.ensures c.read.ensures

pub returns-in-Two : goal.returns-in-Two
returns-in-Two c = read-two c.args.self c.args.shape c.in-Two.low c.in-Two.high c.from-none.result c.from.result c.read-first.result.0 c.read-second.result.0 c.in-Two.is (sym c.fits.ensures ∙ c.if-not-fits.false) c.from-none.ensures c.from.ensures c.read-first.ensures c.read-second.ensures
