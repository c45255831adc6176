-- The lines are those of the layout or of the refusal. Assumes nothing.
use Rattle.std.specs.Prelude.{Err, Ok}
use mathlib.Core.Path.{sym, ◌∙◌}
use native.Mathlib.Omega.{arith}
use Rattle.listing.proofs.Puts.{puts_more}
use Rattle.listing.proofs.Lines.{accepted-laid, listing-is}
use Rattle.listing.proofs.put_listing.Goals as goal

pub put_laid-requires : goal.put_laid-requires
put_laid-requires c = (c.requires, accepted-laid c.args.d.now c.in-Ok.layout (sym c.layout_with.ensures.0 ∙ c.in-Ok.is))

pub returns-in-Ok : goal.returns-in-Ok
returns-in-Ok c = listing-is c.args.d.now (Ok c.in-Ok.layout) (sym c.in-Ok.is ∙ c.layout_with.ensures.0) c.put_laid.ensures

pub returns-in-Err : goal.returns-in-Err
returns-in-Err c = listing-is c.args.d.now (Err c.in-Err.refusal) (sym c.in-Err.is ∙ c.layout_with.ensures.0) (puts_more c.put_refused.ensures (omega arith))
