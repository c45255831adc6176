use mathlib.Core.Path.{◌∙◌}
use native.Mathlib.Omega.{arith}
use lib.ListN.{length-set}
use Rattle.writing.proofs.Steps.{entry-low, lengths_none, lengths-next, headed, few-types, type-sized, table_done}
use Rattle.writing.proofs.text_lengths.fill_lengths.Goals as goal

pub byte_at-types-requires : goal.byte_at-types-requires
byte_at-types-requires c = omega (arith, headed c.args.d.now c.requires)

pub loop-k-init : goal.loop-k-init
loop-k-init c = (c.byte_at-types.ensures.0, omega arith, omega arith, lengths_none c.args.d.now c.args.table.now)

pub length_of-many-requires : goal.length_of-many-requires
length_of-many-requires c = (type-sized c.args.d.now c.requires c.loop-k.k (omega (arith, c.loop-k-test.true, c.loop-k.invariant.0)), c.loop-k.invariant.3)

pub overflow_cast-table : goal.overflow_cast-table
overflow_cast-table c = omega (arith, c.length_of-many.ensures, entry-low c.args.d.now c.loop-k.k)

pub bounds-table-k : goal.bounds-table-k
bounds-table-k c = omega (arith, c.loop-k-test.true, c.loop-k.invariant.0, few-types c.args.d.now c.requires)

pub loop-k-preserved : goal.loop-k-preserved
loop-k-preserved c = (c.loop-k.invariant.0, omega (arith, c.loop-k-test.true), length-set c.loop-k.table c.loop-k.k c.length_of-many.result ∙ c.loop-k.invariant.2, lengths-next c.args.d.now c.loop-k.table c.loop-k.k c.length_of-many.result (omega (arith, c.loop-k-test.true, c.loop-k.invariant.0, few-types c.args.d.now c.requires)) c.loop-k.invariant.2 c.loop-k.invariant.3 c.length_of-many.ensures)

pub returns : goal.returns
returns c = table_done c.args.d.now c.loop-k.table c.loop-k.k (omega (arith, c.loop-k-test.false, c.loop-k.invariant.0, c.loop-k.invariant.1)) c.loop-k.invariant.3
