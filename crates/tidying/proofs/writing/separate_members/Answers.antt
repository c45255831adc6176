use mathlib.Core.Path.{sym, ◌∙◌}
use native.Mathlib.Omega.{arith}
use Rattle.tidying.proofs.Stores.{write_low, right_whole, sum-none, sum-next, sum-end}
use Rattle.tidying.proofs.writing.separate_members.Goals as goal

pub loop-j-init : goal.loop-j-init
loop-j-init c = (sym (sum-none c.args.numbering.now.types.bytes.now c.args.numbering.now.numbers c.args.numbering.now.originals c.args.numbering.now.count c.requires), omega arith)

pub bounds-numbering-j : goal.bounds-numbering-j
bounds-numbering-j c = omega (arith, write_low c.args.numbering.now.types.bytes.now c.args.numbering.now.numbers c.args.numbering.now.originals c.args.numbering.now.count c.requires)

pub run_length-sum-requires : goal.run_length-sum-requires
run_length-sum-requires c = (right_whole c.args.numbering.now.types.bytes.now c.args.numbering.now.types.judged, rw c.from-k.ensures (c.requires.numbers.olds c.loop-j.j (omega arith)))

pub overflow_add-sum : goal.overflow_add-sum
overflow_add-sum c = omega (arith, c.loop-j.invariant.1, write_low c.args.numbering.now.types.bytes.now c.args.numbering.now.numbers c.args.numbering.now.originals c.args.numbering.now.count c.requires, c.run_length-sum.ensures.1)

pub loop-j-preserved : goal.loop-j-preserved
loop-j-preserved c =
    (sum-next c.args.numbering.now.types.bytes.now c.args.numbering.now.numbers c.args.numbering.now.originals c.args.numbering.now.count c.requires c.loop-j.j c.loop-j.sum c.run_length-sum.result (omega arith) c.loop-j.invariant.0 (c.run_length-sum.ensures.0 ∙ rw c.from-k.ensures), omega (arith, c.loop-j.invariant.1, c.run_length-sum.ensures.1))

pub returns : goal.returns
returns c = sum-end c.args.numbering.now.types.bytes.now c.args.numbering.now.numbers c.args.numbering.now.originals c.args.numbering.now.count c.requires c.loop-j.j c.loop-j.sum (omega arith) c.loop-j.invariant.0
