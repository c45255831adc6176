-- `return_number` meets its contract.
-- Assumes nothing.
use native.Mathlib.Omega.{arith}
use mathlib.Core.Path.{refl}
use Rattle.tidying.proofs.All.{all-headed}
use Rattle.tidying.proofs.Answering.{return_void, return_type, return_small}
use Rattle.tidying.proofs.writing.Tidied.return_number.Goals as goal

pub byte_at-returns-requires : goal.byte_at-returns-requires
byte_at-returns-requires c = omega (arith, all-headed c.args.self.now.numbering.types.bytes.now c.args.self.now.numbering.types.judged)

pub returns-then-returns-eq255 : goal.returns-then-returns-eq255
returns-then-returns-eq255 c = return_void c.args.self.now.numbering.types.bytes.now c.args.self.now.numbering.numbers c.args.self.now.numbering.originals c.args.self.now.numbering.count c.args.self.now.all c.byte_at-returns.result c.byte_at-returns.ensures.0 c.if-returns-eq255.true

pub bounds-self-returns : goal.bounds-self-returns
bounds-self-returns c = return_small c.args.self.now.numbering.types.bytes.now c.args.self.now.numbering.numbers c.args.self.now.numbering.originals c.args.self.now.numbering.count c.args.self.now.all c.byte_at-returns.result c.byte_at-returns.ensures.0 c.if-returns-eq255.false

pub returns : goal.returns
returns c = return_type c.args.self.now.numbering.types.bytes.now c.args.self.now.numbering.numbers c.args.self.now.numbering.originals c.args.self.now.numbering.count c.args.self.now.all c.byte_at-returns.result _ c.byte_at-returns.ensures.0 c.if-returns-eq255.false refl
