-- The symbol is stored. Assumes nothing.
use mathlib.Core.Path.{refl}
use native.Mathlib.Omega.{arith}
use Rattle.reading.proofs.Takers.{types-stored}
use Rattle.reading.proofs.symbols.Symbols.start_types.Goals as goal

pub returns : goal.returns
returns c = (types-stored c.args.self.now.cells (omega arith), refl)
