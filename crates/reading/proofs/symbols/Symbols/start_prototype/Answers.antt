-- The symbols are stored. Assumes nothing.
use mathlib.Core.Path.{refl}
use native.Mathlib.Omega.{arith}
use Rattle.reading.proofs.Takers.{start-stored}
use Rattle.reading.proofs.symbols.Symbols.start_prototype.Goals as goal

pub returns : goal.returns
returns c = (start-stored c.args.self.now.cells (omega arith), refl)
