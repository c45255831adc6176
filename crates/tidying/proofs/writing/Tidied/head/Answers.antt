-- `head` meets its contract.
-- Assumes nothing.
use mathlib.Core.Path.{refl}
use native.Mathlib.Omega.{arith}
use Rattle.tidying.proofs.All.{all-headed}
use Rattle.tidying.proofs.Stores.{write_low, head_stands}
use Rattle.tidying.proofs.writing.Tidied.head.Goals as goal

pub overflow_cast-result : goal.overflow_cast-result
overflow_cast-result c = omega (arith, write_low c.args.self.now.numbering.types.bytes.now c.args.self.now.numbering.numbers c.args.self.now.numbering.originals c.args.self.now.numbering.count c.args.self.now.all)

pub bounds-d-6 : goal.bounds-d-6
bounds-d-6 c = omega (arith, all-headed c.args.self.now.numbering.types.bytes.now c.args.self.now.numbering.types.judged)

pub bounds-d-7 : goal.bounds-d-7
bounds-d-7 c = omega (arith, all-headed c.args.self.now.numbering.types.bytes.now c.args.self.now.numbering.types.judged)

pub bounds-d-8 : goal.bounds-d-8
bounds-d-8 c = omega (arith, all-headed c.args.self.now.numbering.types.bytes.now c.args.self.now.numbering.types.judged)

pub returns : goal.returns
returns c = (refl, head_stands c.args.self.now.numbering.types.bytes.now c.args.self.now.numbering.numbers c.args.self.now.numbering.originals c.args.self.now.numbering.count c.args.self.now.all c.args.self.now.members c.return_number-returns.result c.args.self.now.sum c.return_number-returns.ensures)
