-- `write` meets its contract.
-- Assumes nothing.
use mathlib.Core.Path.{refl, ◌∙◌}
use Prim.Native.Nat.{◌+◌, ◌-◌, ◌*◌}
use lib.ListN.{length}
use Rattle.description.specs.Description.{arguments_in}
use native.Mathlib.Omega.{arith}
use Rattle.tidying.specs.Call.{call_of}
use Rattle.tidying.specs.Tidy.{tidy_of}
use Rattle.tidying.proofs.Stores.{write_low, write_length, write_none, write_part, write_all, part_length, arguments_stand}
use Rattle.tidying.proofs.writing.Tidied.write.Goals as goal

pub write_records-requires : goal.write_records-requires
write_records-requires c =
    write_part (tidy_of (call_of c.args.self.now.numbering.types.bytes.now)) c.args.out.now c.copy_from_slice.new.self 0 11 11 (write_none _ _ c.requires) (rw c.copy_from_slice.ensures.after c.head-head.ensures.1) (rw c.copy_from_slice.ensures.after c.head-head.ensures.0) refl

pub overflow_mul-from : goal.overflow_mul-from
overflow_mul-from c = omega (arith, write_low c.args.self.now.numbering.types.bytes.now c.args.self.now.numbering.numbers c.args.self.now.numbering.originals c.args.self.now.numbering.count c.args.self.now.all)

pub overflow_add-from : goal.overflow_add-from
overflow_add-from c = omega (arith, write_low c.args.self.now.numbering.types.bytes.now c.args.self.now.numbering.numbers c.args.self.now.numbering.originals c.args.self.now.numbering.count c.args.self.now.all)

pub overflow_add-from-2 : goal.overflow_add-from-2
overflow_add-from-2 c = omega (arith, write_low c.args.self.now.numbering.types.bytes.now c.args.self.now.numbering.numbers c.args.self.now.numbering.originals c.args.self.now.numbering.count c.args.self.now.all, c.args.self.now.few)

pub slice_bounds-write_arguments-count : goal.slice_bounds-write_arguments-count
slice_bounds-write_arguments-count c = omega (arith, c.write_runs.ensures.size, write_length c.args.self.now.numbering.types.bytes.now c.args.self.now.numbering.numbers c.args.self.now.numbering.originals c.args.self.now.numbering.count c.args.self.now.all, c.args.self.now.sum)

pub slice_bounds-write_arguments-start : goal.slice_bounds-write_arguments-start
slice_bounds-write_arguments-start c = omega (arith, c.write_runs.ensures.size, write_length c.args.self.now.numbering.types.bytes.now c.args.self.now.numbering.numbers c.args.self.now.numbering.originals c.args.self.now.numbering.count c.args.self.now.all, c.args.self.now.sum)

pub write_arguments-requires : goal.write_arguments-requires
write_arguments-requires c = part_length c.write_runs.new.out (11 + 4 * c.args.self.now.numbering.count + c.args.self.now.members) (arguments_in c.args.self.now.numbering.types.bytes.now) (length c.write_runs.new.out - (11 + 4 * c.args.self.now.numbering.count + c.args.self.now.members)) (omega (arith, c.write_runs.ensures.size, write_length c.args.self.now.numbering.types.bytes.now c.args.self.now.numbering.numbers c.args.self.now.numbering.originals c.args.self.now.numbering.count c.args.self.now.all, c.args.self.now.sum)) (omega (arith, c.write_runs.ensures.size, write_length c.args.self.now.numbering.types.bytes.now c.args.self.now.numbering.numbers c.args.self.now.numbering.originals c.args.self.now.numbering.count c.args.self.now.all, c.args.self.now.sum))

pub returns : goal.returns
returns c =
    let long = c.write_arguments.ensures.0 ∙ part_length c.write_runs.new.out (11 + 4 * c.args.self.now.numbering.count + c.args.self.now.members) (arguments_in c.args.self.now.numbering.types.bytes.now) (length c.write_runs.new.out - (11 + 4 * c.args.self.now.numbering.count + c.args.self.now.members)) (omega (arith, c.write_runs.ensures.size, write_length c.args.self.now.numbering.types.bytes.now c.args.self.now.numbering.numbers c.args.self.now.numbering.originals c.args.self.now.numbering.count c.args.self.now.all, c.args.self.now.sum)) (omega (arith, c.write_runs.ensures.size, write_length c.args.self.now.numbering.types.bytes.now c.args.self.now.numbering.numbers c.args.self.now.numbering.originals c.args.self.now.numbering.count c.args.self.now.all, c.args.self.now.sum)) in
    write_all (tidy_of (call_of c.args.self.now.numbering.types.bytes.now)) _ (length (tidy_of (call_of c.args.self.now.numbering.types.bytes.now)))
    (write_part (tidy_of (call_of c.args.self.now.numbering.types.bytes.now)) c.write_runs.new.out c.write_arguments.new.arguments (11 + 4 * c.args.self.now.numbering.count + c.args.self.now.members) _ _ c.write_runs.ensures
    (rw c.args.self.now.sum (arguments_stand c.args.self.now.numbering.types.bytes.now c.args.self.now.numbering.numbers c.args.self.now.numbering.originals c.args.self.now.numbering.count c.args.self.now.all c.write_arguments.new.arguments long (λ i m. c.write_arguments.ensures.1 i (omega (arith, m, c.write_arguments.ensures.0)))))
    (omega (arith, long, c.write_runs.ensures.size, write_length c.args.self.now.numbering.types.bytes.now c.args.self.now.numbering.numbers c.args.self.now.numbering.originals c.args.self.now.numbering.count c.args.self.now.all, c.args.self.now.sum)) (omega (arith, c.write_runs.ensures.size, write_length c.args.self.now.numbering.types.bytes.now c.args.self.now.numbering.numbers c.args.self.now.numbering.originals c.args.self.now.numbering.count c.args.self.now.all, c.args.self.now.sum)))
    refl
