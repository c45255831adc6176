-- `length` meets its contract.
-- Assumes nothing.
use native.Mathlib.Omega.{arith}
use Rattle.tidying.proofs.All.{all-headed}
use Rattle.tidying.proofs.Stores.{write_low, write_length}
use Rattle.tidying.proofs.writing.Tidied.length.Goals as goal

pub byte_at-arguments-requires : goal.byte_at-arguments-requires
byte_at-arguments-requires c = omega (arith, all-headed c.args.self.now.numbering.types.bytes.now c.args.self.now.numbering.types.judged)

pub overflow_mul-result : goal.overflow_mul-result
overflow_mul-result c = omega (arith, write_low c.args.self.now.numbering.types.bytes.now c.args.self.now.numbering.numbers c.args.self.now.numbering.originals c.args.self.now.numbering.count c.args.self.now.all)

pub overflow_add-result : goal.overflow_add-result
overflow_add-result c = omega (arith, write_low c.args.self.now.numbering.types.bytes.now c.args.self.now.numbering.numbers c.args.self.now.numbering.originals c.args.self.now.numbering.count c.args.self.now.all)

pub overflow_add-result-2 : goal.overflow_add-result-2
overflow_add-result-2 c = omega (arith, c.args.self.now.few, write_low c.args.self.now.numbering.types.bytes.now c.args.self.now.numbering.numbers c.args.self.now.numbering.originals c.args.self.now.numbering.count c.args.self.now.all)

pub overflow_add-result-3 : goal.overflow_add-result-3
overflow_add-result-3 c = omega (arith, c.byte_at-arguments.ensures, c.args.self.now.few, write_low c.args.self.now.numbering.types.bytes.now c.args.self.now.numbering.numbers c.args.self.now.numbering.originals c.args.self.now.numbering.count c.args.self.now.all)

pub returns : goal.returns
returns c = omega (arith, c.byte_at-arguments.ensures, c.args.self.now.sum, write_length c.args.self.now.numbering.types.bytes.now c.args.self.now.numbering.numbers c.args.self.now.numbering.originals c.args.self.now.numbering.count c.args.self.now.all)
