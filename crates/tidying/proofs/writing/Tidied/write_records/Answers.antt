use mathlib.Core.Path.{◌≡◌, sym, ◌∙◌}
use Prim.Native.Nat.{◌+◌, ◌*◌}
use native.Mathlib.Omega.{arith}
use Rattle.tidying.specs.Call.{call_of}
use Rattle.tidying.specs.Tidy.{tidy_of}
use Rattle.tidying.proofs.Stores.{write_low, write_part, right_whole, sum-none, sum-next, sum-low}
use Rattle.tidying.proofs.writing.Tidied.write_records.Goals as goal

pub loop-j-init : goal.loop-j-init
loop-j-init c = (sym (sum-none c.args.self.now.numbering.types.bytes.now c.args.self.now.numbering.numbers c.args.self.now.numbering.originals c.args.self.now.numbering.count c.args.self.now.all), c.requires)

pub record-record-requires : goal.record-record-requires
record-record-requires c = (omega arith, c.loop-j.invariant.0)

pub bounds-self-j : goal.bounds-self-j
bounds-self-j c = omega (arith, write_low c.args.self.now.numbering.types.bytes.now c.args.self.now.numbering.numbers c.args.self.now.numbering.originals c.args.self.now.numbering.count c.args.self.now.all)

pub run_length-start-requires : goal.run_length-start-requires
run_length-start-requires c = (right_whole c.args.self.now.numbering.types.bytes.now c.args.self.now.numbering.types.judged, rw c.from.ensures (c.args.self.now.all.numbers.olds c.loop-j.j (omega arith)))

pub overflow_add-start : goal.overflow_add-start
overflow_add-start c = omega (arith, c.loop-j.invariant.0, c.args.self.now.sum, c.args.self.now.few, sum-low c.args.self.now.numbering.types.bytes.now c.args.self.now.numbering.numbers c.args.self.now.numbering.originals c.args.self.now.numbering.count c.args.self.now.all c.loop-j.j (omega arith), c.run_length-start.ensures.1)

pub loop-j-preserved : goal.loop-j-preserved
loop-j-preserved c = (
  sum-next c.args.self.now.numbering.types.bytes.now c.args.self.now.numbering.numbers c.args.self.now.numbering.originals c.args.self.now.numbering.count c.args.self.now.all c.loop-j.j c.loop-j.start c.run_length-start.result (omega arith) c.loop-j.invariant.0 (c.run_length-start.ensures.0 ∙ rw c.from.ensures),
  write_part (tidy_of (call_of c.args.self.now.numbering.types.bytes.now)) c.loop-j.out c.copy_from_slice.new.self (11 + 4 * c.loop-j.j) _ _ c.loop-j.invariant.1 (rw c.copy_from_slice.ensures.after c.record-record.ensures.1) (rw c.copy_from_slice.ensures.after (c.record-record.ensures.0 ∙ omega arith)) (omega arith),
)

pub returns : goal.returns
returns c = let q : c.loop-j.j ≡ c.args.self.now.numbering.count = omega arith in rw (← q) c.loop-j.invariant.1
