use mathlib.Core.Path.{ap, ◌∙◌}
use mathlib.Core.List.{List}
use Prim.Native.Nat.{ℕ}
use lib.ListN.{length}
use Rattle.plans.specs.Cuts.{plan_of}
use Rattle.planning.proofs.Writing.{length_over}
use mathlib.Core.Path.{refl}
use native.Mathlib.Omega.{arith}
use Rattle.planning.proofs.Heads.{is_hidden, lists_ask, room-eights, room-fours, room-parts, room-bools, order, counts-small, whole-written}
use Rattle.planning.proofs.calls.write_plan.Goals as goal

pub join_all-count-requires : goal.join_all-count-requires
join_all-count-requires c = (c.requires.0, refl, is_hidden c.args.described.bytes.now c.requires.0 _ c.requires.1)

pub write_kind-fours-requires : goal.write_kind-fours-requires
write_kind-fours-requires c = (omega (arith, c.join_all-count.ensures.1), room-eights c.args.described.bytes.now c.requires.0 _ c.join_all-count.ensures.0 _ c.requires.2, lists_ask c.args.described.bytes.now c.requires.0 _ c.join_all-count.ensures.0)

pub write_kind-parts-requires : goal.write_kind-parts-requires
write_kind-parts-requires c = (omega (arith, c.join_all-count.ensures.1), room-fours c.args.described.bytes.now c.requires.0 _ c.join_all-count.ensures.0 _ (omega (arith, c.requires.2)) _ c.write_kind-fours.ensures.1, lists_ask c.args.described.bytes.now c.requires.0 _ c.join_all-count.ensures.0)

pub write_kind-bools-requires : goal.write_kind-bools-requires
write_kind-bools-requires c = (omega (arith, c.join_all-count.ensures.1), room-parts c.args.described.bytes.now c.requires.0 _ c.join_all-count.ensures.0 _ (omega (arith, c.requires.2)) _ c.write_kind-fours.ensures.1 _ c.write_kind-parts.ensures.1, lists_ask c.args.described.bytes.now c.requires.0 _ c.join_all-count.ensures.0)

pub write_bools-end-requires : goal.write_bools-end-requires
write_bools-end-requires c = (c.requires.0, room-bools c.args.described.bytes.now c.requires.0 _ c.join_all-count.ensures.0 _ (omega (arith, c.requires.2)) _ c.write_kind-fours.ensures.1 _ c.write_kind-parts.ensures.1 _ c.write_kind-bools.ensures.1)

pub write_call-requires : goal.write_call-requires
write_call-requires c = (c.requires.0, c.requires.1, omega (arith, c.requires.2))

pub overflow_sub-fours : goal.overflow_sub-fours
overflow_sub-fours c = (order c.args.described.bytes.now c.requires.0 _ c.join_all-count.ensures.0 _ c.requires.2 _ c.write_kind-fours.ensures.1 _ c.write_kind-parts.ensures.1 _ c.write_kind-bools.ensures.1 _ c.write_bools-end.ensures.1).0

pub overflow_sub-parts : goal.overflow_sub-parts
overflow_sub-parts c = (order c.args.described.bytes.now c.requires.0 _ c.join_all-count.ensures.0 _ c.requires.2 _ c.write_kind-fours.ensures.1 _ c.write_kind-parts.ensures.1 _ c.write_kind-bools.ensures.1 _ c.write_bools-end.ensures.1).1.0

pub put_two-requires : goal.put_two-requires
put_two-requires c = (omega (arith, c.requires.2), (counts-small c.args.described.bytes.now c.requires.0 _ c.join_all-count.ensures.0 _ c.requires.2 _ c.write_kind-fours.ensures.1 _ c.write_kind-parts.ensures.1 _ c.write_kind-bools.ensures.1 _ c.write_bools-end.ensures.1).0, (counts-small c.args.described.bytes.now c.requires.0 _ c.join_all-count.ensures.0 _ c.requires.2 _ c.write_kind-fours.ensures.1 _ c.write_kind-parts.ensures.1 _ c.write_kind-bools.ensures.1 _ c.write_bools-end.ensures.1).1.0)

pub overflow_sub-bools : goal.overflow_sub-bools
overflow_sub-bools c = (order c.args.described.bytes.now c.requires.0 _ c.join_all-count.ensures.0 _ c.requires.2 _ c.write_kind-fours.ensures.1 _ c.write_kind-parts.ensures.1 _ c.write_kind-bools.ensures.1 _ c.write_bools-end.ensures.1).1.1.0

pub overflow_sub-end : goal.overflow_sub-end
overflow_sub-end c = (order c.args.described.bytes.now c.requires.0 _ c.join_all-count.ensures.0 _ c.requires.2 _ c.write_kind-fours.ensures.1 _ c.write_kind-parts.ensures.1 _ c.write_kind-bools.ensures.1 _ c.write_bools-end.ensures.1).1.1.1

pub put_two-requires-2 : goal.put_two-requires-2
put_two-requires-2 c = (omega (arith, c.requires.2), (counts-small c.args.described.bytes.now c.requires.0 _ c.join_all-count.ensures.0 _ c.requires.2 _ c.write_kind-fours.ensures.1 _ c.write_kind-parts.ensures.1 _ c.write_kind-bools.ensures.1 _ c.write_bools-end.ensures.1).1.1.0, (counts-small c.args.described.bytes.now c.requires.0 _ c.join_all-count.ensures.0 _ c.requires.2 _ c.write_kind-fours.ensures.1 _ c.write_kind-parts.ensures.1 _ c.write_kind-bools.ensures.1 _ c.write_bools-end.ensures.1).1.1.1)

pub write_returned-requires : goal.write_returned-requires
write_returned-requires c = (c.requires.0, c.requires.1, omega (arith, c.requires.2))

pub shape_of-plan : goal.shape_of-plan
shape_of-plan c = ap (λ (x : List ℕ). length x) (whole-written c.args.described.bytes.now c.requires.0 _ c.join_all-count.ensures.0 _ c.requires.2 _ c.write_kind-fours.ensures.1 _ c.write_kind-parts.ensures.1 _ c.write_kind-bools.ensures.1 _ c.write_bools-end.ensures.1 c.args.plan.now _ _ _ _ _ _ _ _ c.write_kind-fours.ensures.0 c.write_kind-parts.ensures.0 c.write_kind-bools.ensures.0 c.write_bools-end.ensures.0 c.write_call.ensures c.put_two.ensures.0 c.put_two-2.ensures.0 c.write_returned.ensures).0 ∙ length_over c.args.plan.now 0 (plan_of c.args.described.bytes.now)

pub returns : goal.returns
returns c = whole-written c.args.described.bytes.now c.requires.0 _ c.join_all-count.ensures.0 _ c.requires.2 _ c.write_kind-fours.ensures.1 _ c.write_kind-parts.ensures.1 _ c.write_kind-bools.ensures.1 _ c.write_bools-end.ensures.1 c.args.plan.now _ _ _ _ _ _ _ _ c.write_kind-fours.ensures.0 c.write_kind-parts.ensures.0 c.write_kind-bools.ensures.0 c.write_bools-end.ensures.0 c.write_call.ensures c.put_two.ensures.0 c.put_two-2.ensures.0 c.write_returned.ensures
