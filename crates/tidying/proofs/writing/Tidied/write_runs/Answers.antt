use mathlib.Core.Path.{◌≡◌, refl, ◌∙◌}
use Prim.Native.Nat.{◌+◌, ◌-◌, ◌*◌}
use lib.ListN.{get_or}
use Rattle.tidying.specs.Asks.{run_length}
use native.Mathlib.Omega.{arith}
use Rattle.tidying.specs.Call.{call_of}
use Rattle.tidying.specs.Tidy.{tidy_of}
use Rattle.tidying.proofs.Stores.{write_low, write_length, write_part, part_length, right_whole, sum-none, sum-next, sum-end, sum-low, run-ask, run_stands}
use Rattle.tidying.proofs.writing.Tidied.write_runs.Goals as goal

pub overflow_mul-from : goal.overflow_mul-from
overflow_mul-from c = omega (arith, write_low c.args.self.now.numbering.types.bytes.now c.args.self.now.numbering.numbers c.args.self.now.numbering.originals c.args.self.now.numbering.count c.args.self.now.all)

pub overflow_add-from : goal.overflow_add-from
overflow_add-from c = omega (arith, write_low c.args.self.now.numbering.types.bytes.now c.args.self.now.numbering.numbers c.args.self.now.numbering.originals c.args.self.now.numbering.count c.args.self.now.all)

pub loop-j-init : goal.loop-j-init
loop-j-init c = (omega (arith, sum-none c.args.self.now.numbering.types.bytes.now c.args.self.now.numbering.numbers c.args.self.now.numbering.originals c.args.self.now.numbering.count c.args.self.now.all), c.requires)

pub bounds-self-j : goal.bounds-self-j
bounds-self-j c = omega (arith, write_low c.args.self.now.numbering.types.bytes.now c.args.self.now.numbering.numbers c.args.self.now.numbering.originals c.args.self.now.numbering.count c.args.self.now.all)

pub run_length-count-requires : goal.run_length-count-requires
run_length-count-requires c = (right_whole c.args.self.now.numbering.types.bytes.now c.args.self.now.numbering.types.judged, rw c.from-k.ensures (c.args.self.now.all.numbers.olds c.loop-j.j (omega arith)))

pub a_at-requires : goal.a_at-requires
a_at-requires c = (right_whole c.args.self.now.numbering.types.bytes.now c.args.self.now.numbering.types.judged, rw c.from-k.ensures (c.args.self.now.all.numbers.olds c.loop-j.j (omega arith)))

pub overflow_add-from-in-loop-j : goal.overflow_add-from-in-loop-j
overflow_add-from-in-loop-j c = omega (arith, c.loop-j.invariant.0, c.args.self.now.sum, c.args.self.now.few, write_low c.args.self.now.numbering.types.bytes.now c.args.self.now.numbering.numbers c.args.self.now.numbering.originals c.args.self.now.numbering.count c.args.self.now.all, sum-low c.args.self.now.numbering.types.bytes.now c.args.self.now.numbering.numbers c.args.self.now.numbering.originals c.args.self.now.numbering.count c.args.self.now.all c.loop-j.j (omega arith), c.run_length-count.ensures.1)

pub slice_bounds-write_run-end : goal.slice_bounds-write_run-end
slice_bounds-write_run-end c =
    let e : c.run_length-count.result ≡ run_length c.args.self.now.numbering.types.bytes.now (get_or c.args.self.now.numbering.originals c.loop-j.j 0) = c.run_length-count.ensures.0 ∙ rw c.from-k.ensures in
    omega (arith, e, c.loop-j.invariant.0, c.loop-j.invariant.1.size, write_length c.args.self.now.numbering.types.bytes.now c.args.self.now.numbering.numbers c.args.self.now.numbering.originals c.args.self.now.numbering.count c.args.self.now.all, sum-low c.args.self.now.numbering.types.bytes.now c.args.self.now.numbering.numbers c.args.self.now.numbering.originals c.args.self.now.numbering.count c.args.self.now.all c.loop-j.j (omega arith))

pub write_run-requires : goal.write_run-requires
write_run-requires c =
    let e : c.run_length-count.result ≡ run_length c.args.self.now.numbering.types.bytes.now (get_or c.args.self.now.numbering.originals c.loop-j.j 0) = c.run_length-count.ensures.0 ∙ rw c.from-k.ensures in
    rw (part_length c.loop-j.out c.loop-j.from c.run_length-count.result (c.loop-j.from + c.run_length-count.result - c.loop-j.from) (omega (arith, e, c.loop-j.invariant.0, c.loop-j.invariant.1.size, write_length c.args.self.now.numbering.types.bytes.now c.args.self.now.numbering.numbers c.args.self.now.numbering.originals c.args.self.now.numbering.count c.args.self.now.all, sum-low c.args.self.now.numbering.types.bytes.now c.args.self.now.numbering.numbers c.args.self.now.numbering.originals c.args.self.now.numbering.count c.args.self.now.all c.loop-j.j (omega arith))) (omega arith), c.a_at.ensures.0, c.run_length-count.ensures.0, c.from-k.ensures) (run-ask c.args.self.now.numbering.types.bytes.now c.args.self.now.numbering.numbers c.args.self.now.numbering.originals c.args.self.now.numbering.count c.args.self.now.all c.loop-j.j (omega arith))

pub loop-j-preserved : goal.loop-j-preserved
loop-j-preserved c =
    let e : c.run_length-count.result ≡ run_length c.args.self.now.numbering.types.bytes.now (get_or c.args.self.now.numbering.originals c.loop-j.j 0) = c.run_length-count.ensures.0 ∙ rw c.from-k.ensures in
    let long = c.write_run.ensures.0 ∙ part_length c.loop-j.out c.loop-j.from c.run_length-count.result (c.loop-j.from + c.run_length-count.result - c.loop-j.from) (omega (arith, e, c.loop-j.invariant.0, c.loop-j.invariant.1.size, write_length c.args.self.now.numbering.types.bytes.now c.args.self.now.numbering.numbers c.args.self.now.numbering.originals c.args.self.now.numbering.count c.args.self.now.all, sum-low c.args.self.now.numbering.types.bytes.now c.args.self.now.numbering.numbers c.args.self.now.numbering.originals c.args.self.now.numbering.count c.args.self.now.all c.loop-j.j (omega arith))) (omega arith) in (
      omega (arith, c.loop-j.invariant.0, sum-next c.args.self.now.numbering.types.bytes.now c.args.self.now.numbering.numbers c.args.self.now.numbering.originals c.args.self.now.numbering.count c.args.self.now.all c.loop-j.j _ c.run_length-count.result (omega arith) refl e),
      write_part (tidy_of (call_of c.args.self.now.numbering.types.bytes.now)) c.loop-j.out c.write_run.new.run c.loop-j.from _ _ c.loop-j.invariant.1
          (run_stands c.args.self.now.numbering.types.bytes.now c.args.self.now.numbering.numbers c.args.self.now.numbering.originals c.args.self.now.numbering.count c.args.self.now.all c.loop-j.j c.loop-j.from c.write_run.new.run (omega arith) c.loop-j.invariant.0 (long ∙ e)
          (λ i m. rw (c.a_at.ensures.0, c.from-k.ensures) at (c.write_run.ensures.1 i (omega (arith, m, c.write_run.ensures.0)))))
          (omega (arith, long)) (omega arith),
    )

pub returns : goal.returns
returns c =
    let q : c.loop-j.from ≡ 11 + 4 * c.args.self.now.numbering.count + c.args.self.now.members = omega (arith, c.loop-j.invariant.0, c.args.self.now.sum, sum-end c.args.self.now.numbering.types.bytes.now c.args.self.now.numbering.numbers c.args.self.now.numbering.originals c.args.self.now.numbering.count c.args.self.now.all c.loop-j.j _ (omega arith) refl) in
    rw (← q) c.loop-j.invariant.1
