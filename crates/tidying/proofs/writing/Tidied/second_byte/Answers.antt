-- `second_byte` meets its contract.
-- Assumes nothing.
use mathlib.Core.Path.{◌∙◌}
use native.Mathlib.Omega.{arith}
use Rattle.tidying.proofs.Stores.{right_whole, element_low, second-high, second-zero, second-one}
use Rattle.tidying.proofs.writing.Tidied.second_byte.Goals as goal

pub record_at-requires : goal.record_at-requires
record_at-requires c = (right_whole c.args.self.now.numbering.types.bytes.now c.args.self.now.numbering.types.judged, c.requires.0)

pub returns-in-Basic : goal.returns-in-Basic
returns-in-Basic c = let r = c.in-Basic.ensures.1 in r.1.second ∙ second-zero c.args.self.now.numbering.types.bytes.now c.args.self.now.numbering.numbers c.args.k c.args.start r.0

pub bounds-self-element : goal.bounds-self-element
bounds-self-element c = let r = c.in-Array.ensures.1 in omega (arith, r.1.second, element_low c.args.self.now.numbering.types.bytes.now c.args.self.now.numbering.types.judged c.args.k c.requires.0 r.0)

pub returns-in-Array : goal.returns-in-Array
returns-in-Array c = let r = c.in-Array.ensures.1 in rw r.1.second (second-one c.args.self.now.numbering.types.bytes.now c.args.self.now.numbering.numbers c.args.k c.args.start r.0)

pub returns-in-Group : goal.returns-in-Group
returns-in-Group c = second-high c.args.self.now.numbering.types.bytes.now c.args.self.now.numbering.numbers c.args.k c.args.start (omega (arith, c.in-Group.ensures.1.0))
