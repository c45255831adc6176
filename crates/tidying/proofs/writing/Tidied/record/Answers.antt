-- `record` meets its contract.
-- Assumes nothing.
use mathlib.Core.Path.{refl, ◌∙◌}
use native.Mathlib.Omega.{arith}
use Rattle.tidying.proofs.Stores.{write_low, right_whole, kind-byte_low, sum-low, record_stands}
use Rattle.tidying.proofs.writing.Tidied.record.Goals as goal

pub bounds-self-j : goal.bounds-self-j
bounds-self-j c = omega (arith, c.requires.0, write_low c.args.self.now.numbering.types.bytes.now c.args.self.now.numbering.numbers c.args.self.now.numbering.originals c.args.self.now.numbering.count c.args.self.now.all)

pub kind_at-kind-requires : goal.kind_at-kind-requires
kind_at-kind-requires c = (right_whole c.args.self.now.numbering.types.bytes.now c.args.self.now.numbering.types.judged, rw c.from-k.ensures (c.args.self.now.all.numbers.olds c.args.j c.requires.0))

pub count_at-count-requires : goal.count_at-count-requires
count_at-count-requires c = (right_whole c.args.self.now.numbering.types.bytes.now c.args.self.now.numbering.types.judged, rw c.from-k.ensures (c.args.self.now.all.numbers.olds c.args.j c.requires.0))

pub second_byte-second-requires : goal.second_byte-second-requires
second_byte-second-requires c = (rw c.from-k.ensures (c.args.self.now.all.numbers.olds c.args.j c.requires.0), omega (arith, c.requires.1, c.args.self.now.sum, c.args.self.now.few, sum-low c.args.self.now.numbering.types.bytes.now c.args.self.now.numbering.numbers c.args.self.now.numbering.originals c.args.self.now.numbering.count c.args.self.now.all c.args.j c.requires.0))

pub overflow_cast-result : goal.overflow_cast-result
overflow_cast-result c = omega (arith, c.kind_at-kind.ensures, kind-byte_low c.args.self.now.numbering.types.bytes.now c.args.self.now.numbering.types.judged c.from-k.result (rw c.from-k.ensures (c.args.self.now.all.numbers.olds c.args.j c.requires.0)))

pub returns : goal.returns
returns c = (refl, rw (c.kind_at-kind.ensures, c.count_at-count.ensures.0, c.from-k.ensures) (record_stands c.args.self.now.numbering.types.bytes.now c.args.self.now.numbering.numbers c.args.self.now.numbering.originals c.args.self.now.numbering.count c.args.self.now.all c.args.j c.args.start c.second_byte-second.result c.requires.0 c.requires.1 (c.second_byte-second.ensures ∙ rw c.from-k.ensures)))
