-- `at`, `worked_out`, `of_elements` and `of_members` meet their contracts: what is left is the elements or members from number i on.
-- Assumes nothing.
use mathlib.Core.Bool.{Bool}
use mathlib.Core.List.{List}
use mathlib.Core.Path.{◌≡◌, ap, ◌∙◌}
use Prim.Native.Nat.{ℕ, max, ◌+◌, ◌-◌, ◌≤◌}
use native.Mathlib.Omega.{arith}
use Rattle.std.proofs.lemmas.Grind.{common_steps}
use lib.ListN.{get_or}
use Rattle.classify.specs.Asks.{AskMembers}
use Rattle.classify.specs.Classify.{elements_at, classes_at, members_at}
use Rattle.classify.specs.Table.{pair_in}
use Rattle.classify.proofs.Known.{end_is}
use Rattle.classify.proofs.Packed.{none-packed}
use Rattle.classify.proofs.Steps.{elements_ask, elements_none, elements_done, member-ready, members-asks, member-fits, member-ask, members-ask, members-done, members-none, basic-code, basic-done, array-ask, array-done, group-ask, group-done}
use Rattle.description.specs.Description.{types_in, member_at, model_in}
use Rattle.types.specs.Decode.{tys_from, ty_at}
use Rattle.types.specs.Asks.{IsExtent}
use Rattle.types.specs.Table.{IsEntry, Sizes}
use Rattle.types.specs.declared.Extent.{Extent}
use Rattle.types.proofs.Runs.{member-low, element-low}
use Rattle.types.proofs.Table.{known-low, known-extent}
use Rattle.types.proofs.Trees.{sized-below}
use Rattle.classify.proofs.aggregates.Known.+type_classes.Goals as goal

-- size and alignment of the member at place i, by the table
member-extent : (d t : List ℕ) → Sizes (model_in d) d (types_in d) t → (k i n : ℕ) (u : Bool) (x o : ℕ) → AskMembers d k i n u x o → 1 ≤ n → (m : ℕ) → m ≡ member_at d i → (r : Extent) → IsEntry (get_or t m 0) r → IsExtent (model_in d) (ty_at d m) r
member-extent d t w k i n u x o p pos m em r e = known-extent d t w m (member-ready d k i n u x o p pos m em) r e

pub of_elements-loop-init : goal.of_elements-loop-init
of_elements-loop-init t c =
    let e : c.args.count - 0 ≡ c.args.count = omega arith in
    rw e (c.requires.0, λ r h. h ∙ ap (elements_at (classes_at (model_in c.args.self.d.now) 2 (ty_at c.args.self.d.now c.args.k)) c.args.size.0 c.args.count c.args.at.0) none-packed)

pub of_elements-loop-preserved : goal.of_elements-loop-preserved
of_elements-loop-preserved t c =
    let e : c.args.count - (c.loop.counter + 1) ≡ c.args.count - c.loop.counter - 1 = omega arith in
    rw e (
      elements_ask c.args.self.d.now c.args.k (c.args.count - c.loop.counter) c.args.size.0 c.loop.offset.0 c.loop.invariant.0 (omega (arith, c.loop-test.true)) c.add-offset.result.0 c.add-offset.ensures,
      λ r h. c.loop.invariant.1 r (elements_done (classes_at (model_in c.args.self.d.now) 2 (ty_at c.args.self.d.now c.args.k)) c.args.size.0 (c.args.count - c.loop.counter) c.loop.offset.0 c.add-offset.result.0 (pair_in c.loop.merged.0) (pair_in c.at.result.0) (pair_in c.merged-merged.result.0) r (omega (arith, c.loop-test.true)) c.at.ensures c.merged-merged.ensures c.add-offset.ensures h),
    )

pub of_elements-returns : goal.of_elements-returns
of_elements-returns t c =
    c.loop.invariant.1 (pair_in c.loop.merged.0) (elements_none (classes_at (model_in c.args.self.d.now) 2 (ty_at c.args.self.d.now c.args.k)) c.args.size.0 (c.args.count - c.loop.counter) c.loop.offset.0 (pair_in c.loop.merged.0) (omega (arith, c.loop-test.false)))

pub of_members-loop-i-init : goal.of_members-loop-i-init
of_members-loop-i-init t c =
    let e : c.args.first + c.args.count - c.args.first ≡ c.args.count = omega arith in
    rw e (c.requires.0, λ r h. h ∙ ap (members_at (model_in c.args.self.d.now) 2 (tys_from (ty_at c.args.self.d.now) c.args.self.d.now c.args.first c.args.count) c.args.union 0 c.args.at.0) none-packed)

pub of_members-offset_after-offset-requires : goal.of_members-offset_after-offset-requires
of_members-offset_after-offset-requires t c =
    let q = members-asks c.args.self.d.now c.args.k c.loop-i.i (c.args.first + c.args.count - c.loop-i.i) c.args.union c.loop-i.end.0 c.args.at.0 c.loop-i.invariant.0 (omega (arith, c.loop-i-test.true)) c.member_at-member.result c.member_at-member.ensures c.extent_in-extent.result (member-extent c.args.self.d.now c.args.self.table.now c.args.self.ready.sizes c.args.k c.loop-i.i (c.args.first + c.args.count - c.loop-i.i) c.args.union c.loop-i.end.0 c.args.at.0 c.loop-i.invariant.0 (omega (arith, c.loop-i-test.true)) c.member_at-member.result c.member_at-member.ensures c.extent_in-extent.result c.extent_in-extent.ensures) in
    (omega (arith, q), q.1.1)

pub of_members-add-requires : goal.of_members-add-requires
of_members-add-requires t c =
    omega (arith, c.offset_after-offset.ensures, member-fits c.args.self.d.now c.args.k c.loop-i.i (c.args.first + c.args.count - c.loop-i.i) c.args.union c.loop-i.end.0 c.args.at.0 c.loop-i.invariant.0 (omega (arith, c.loop-i-test.true)) c.member_at-member.result c.member_at-member.ensures c.extent_in-extent.result (member-extent c.args.self.d.now c.args.self.table.now c.args.self.ready.sizes c.args.k c.loop-i.i (c.args.first + c.args.count - c.loop-i.i) c.args.union c.loop-i.end.0 c.args.at.0 c.loop-i.invariant.0 (omega (arith, c.loop-i-test.true)) c.member_at-member.result c.member_at-member.ensures c.extent_in-extent.result c.extent_in-extent.ensures))

pub of_members-at-requires : goal.of_members-at-requires
of_members-at-requires t c =
    let low = member-low c.args.self.d.now c.args.k c.loop-i.i (c.args.first + c.args.count - c.loop-i.i) c.loop-i.end.0 1 c.loop-i.invariant.0.run (omega (arith, c.loop-i-test.true)) c.member_at-member.result c.member_at-member.ensures in
    (omega (arith, c.decreases, low), (member-ask c.args.self.d.now c.args.k c.loop-i.i (c.args.first + c.args.count - c.loop-i.i) c.args.union c.loop-i.end.0 c.args.at.0 c.loop-i.invariant.0 (omega (arith, c.loop-i-test.true)) c.member_at-member.result c.member_at-member.ensures c.extent_in-extent.result (member-extent c.args.self.d.now c.args.self.table.now c.args.self.ready.sizes c.args.k c.loop-i.i (c.args.first + c.args.count - c.loop-i.i) c.args.union c.loop-i.end.0 c.args.at.0 c.loop-i.invariant.0 (omega (arith, c.loop-i-test.true)) c.member_at-member.result c.member_at-member.ensures c.extent_in-extent.result c.extent_in-extent.ensures) c.offset_after-offset.result.0 c.add.result.0 c.offset_after-offset.ensures c.add.ensures, omega (arith, low, c.requires.1)))

pub of_members-add-requires-in-loop-i : goal.of_members-add-requires-in-loop-i
of_members-add-requires-in-loop-i t c =
    let q = members-asks c.args.self.d.now c.args.k c.loop-i.i (c.args.first + c.args.count - c.loop-i.i) c.args.union c.loop-i.end.0 c.args.at.0 c.loop-i.invariant.0 (omega (arith, c.loop-i-test.true)) c.member_at-member.result c.member_at-member.ensures c.extent_in-extent.result (member-extent c.args.self.d.now c.args.self.table.now c.args.self.ready.sizes c.args.k c.loop-i.i (c.args.first + c.args.count - c.loop-i.i) c.args.union c.loop-i.end.0 c.args.at.0 c.loop-i.invariant.0 (omega (arith, c.loop-i-test.true)) c.member_at-member.result c.member_at-member.ensures c.extent_in-extent.result c.extent_in-extent.ensures) in
    omega (arith, q, c.offset_after-offset.ensures, member-fits c.args.self.d.now c.args.k c.loop-i.i (c.args.first + c.args.count - c.loop-i.i) c.args.union c.loop-i.end.0 c.args.at.0 c.loop-i.invariant.0 (omega (arith, c.loop-i-test.true)) c.member_at-member.result c.member_at-member.ensures c.extent_in-extent.result (member-extent c.args.self.d.now c.args.self.table.now c.args.self.ready.sizes c.args.k c.loop-i.i (c.args.first + c.args.count - c.loop-i.i) c.args.union c.loop-i.end.0 c.args.at.0 c.loop-i.invariant.0 (omega (arith, c.loop-i-test.true)) c.member_at-member.result c.member_at-member.ensures c.extent_in-extent.result c.extent_in-extent.ensures))

pub of_members-loop-i-preserved : goal.of_members-loop-i-preserved
of_members-loop-i-preserved t c =
    let e : c.args.first + c.args.count - (c.loop-i.i + 1) ≡ c.args.first + c.args.count - c.loop-i.i - 1 = omega arith in
    let larger : c.max-end.result.0 ≡ max c.loop-i.end.0 c.add-in-loop-i.result.0 = grind (arith, common_steps) in
    let end = end_is c.args.union c.loop-i.end.0 c.extent_in-extent.result.align.0 c.extent_in-extent.result.size.0 c.offset_after-offset.result.0 c.max-end.result.0 c.offset_after-offset.ensures (larger ∙ ap (max c.loop-i.end.0) c.add-in-loop-i.ensures) in
    rw e (
      members-ask c.args.self.d.now c.args.k c.loop-i.i (c.args.first + c.args.count - c.loop-i.i) c.args.union c.loop-i.end.0 c.args.at.0 c.loop-i.invariant.0 (omega (arith, c.loop-i-test.true)) c.member_at-member.result c.member_at-member.ensures c.extent_in-extent.result (member-extent c.args.self.d.now c.args.self.table.now c.args.self.ready.sizes c.args.k c.loop-i.i (c.args.first + c.args.count - c.loop-i.i) c.args.union c.loop-i.end.0 c.args.at.0 c.loop-i.invariant.0 (omega (arith, c.loop-i-test.true)) c.member_at-member.result c.member_at-member.ensures c.extent_in-extent.result c.extent_in-extent.ensures) c.max-end.result.0 end,
      λ r h. c.loop-i.invariant.1 r (members-done c.args.self.d.now c.args.k c.loop-i.i (c.args.first + c.args.count - c.loop-i.i) c.args.union c.loop-i.end.0 c.args.at.0 c.loop-i.invariant.0 (omega (arith, c.loop-i-test.true)) c.member_at-member.result c.member_at-member.ensures c.extent_in-extent.result (member-extent c.args.self.d.now c.args.self.table.now c.args.self.ready.sizes c.args.k c.loop-i.i (c.args.first + c.args.count - c.loop-i.i) c.args.union c.loop-i.end.0 c.args.at.0 c.loop-i.invariant.0 (omega (arith, c.loop-i-test.true)) c.member_at-member.result c.member_at-member.ensures c.extent_in-extent.result c.extent_in-extent.ensures) c.offset_after-offset.result.0 c.add.result.0 c.max-end.result.0 (pair_in c.loop-i.merged.0) (pair_in c.at.result.0) (pair_in c.merged-merged.result.0) r c.offset_after-offset.ensures c.add.ensures end c.at.ensures c.merged-merged.ensures h),
    )

pub of_members-returns : goal.of_members-returns
of_members-returns t c =
    c.loop-i.invariant.1 (pair_in c.loop-i.merged.0) (members-none c.args.self.d.now c.loop-i.i (c.args.first + c.args.count - c.loop-i.i) c.args.union c.loop-i.end.0 c.args.at.0 (pair_in c.loop-i.merged.0) (omega (arith, c.loop-i-test.false)))

pub worked_out-basic_at-requires : goal.worked_out-basic_at-requires
worked_out-basic_at-requires t c =
    let r = c.in-Basic.ensures.1 in
    (basic-code c.args.self.d.now c.args.k c.args.at.0 c.in-Basic.code c.requires.0 r.1.second r.0, omega (arith, c.requires.0.fits))

pub worked_out-returns-in-Basic : goal.worked_out-returns-in-Basic
worked_out-returns-in-Basic t c =
    let r = c.in-Basic.ensures.1 in
    c.from.ensures.1 ∙ basic-done c.args.self.d.now c.args.k c.args.at.0 c.in-Basic.code c.requires.0.sized r.1.second r.0 c.basic_at.result c.basic_at.ensures

pub worked_out-extent_in-requires : goal.worked_out-extent_in-requires
worked_out-extent_in-requires t c =
    let r = c.in-Array.ensures.1 in
    known-low c.args.self.d.now c.args.self.table.now c.args.self.ready.sizes c.in-Array.element (sized-below c.args.self.d.now c.args.k c.requires.0.sized c.in-Array.element (element-low c.args.self.d.now c.args.k c.in-Array.element c.requires.0.sized r.1.second r.0))

pub worked_out-of_elements-requires : goal.worked_out-of_elements-requires
worked_out-of_elements-requires t c =
    let r = c.in-Array.ensures.1 in
    let low = element-low c.args.self.d.now c.args.k c.in-Array.element c.requires.0.sized r.1.second r.0 in
    (omega (arith, c.decreases, low), (array-ask c.args.self.d.now c.args.k c.args.at.0 c.in-Array.element c.requires.0 r.1.second c.in-Array.count r.1.count r.0 c.extent_in.result (known-extent c.args.self.d.now c.args.self.table.now c.args.self.ready.sizes c.in-Array.element (sized-below c.args.self.d.now c.args.k c.requires.0.sized c.in-Array.element low) c.extent_in.result c.extent_in.ensures), omega (arith, low, c.requires.1)))

pub worked_out-returns-in-Array : goal.worked_out-returns-in-Array
worked_out-returns-in-Array t c =
    let r = c.in-Array.ensures.1 in
    let low = element-low c.args.self.d.now c.args.k c.in-Array.element c.requires.0.sized r.1.second r.0 in
    array-done c.args.self.d.now c.args.k c.args.at.0 c.in-Array.element c.requires.0 r.1.second c.in-Array.count r.1.count r.0 c.extent_in.result (known-extent c.args.self.d.now c.args.self.table.now c.args.self.ready.sizes c.in-Array.element (sized-below c.args.self.d.now c.args.k c.requires.0.sized c.in-Array.element low) c.extent_in.result c.extent_in.ensures) (pair_in c.of_elements.result.0) (pair_in c.cleaned.result.0) c.of_elements.ensures c.cleaned.ensures

pub worked_out-of_members-requires : goal.worked_out-of_members-requires
worked_out-of_members-requires t c =
    let r = c.in-Group.ensures.1 in
    (omega (arith, c.decreases), (group-ask c.args.self.d.now c.args.k c.args.at.0 c.in-Group.first c.requires.0 r.2.second c.in-Group.count r.2.count r.0 r.2.few c.in-Group.union r.1, c.requires.1))

pub worked_out-returns-in-Group : goal.worked_out-returns-in-Group
worked_out-returns-in-Group t c =
    let r = c.in-Group.ensures.1 in
    group-done c.args.self.d.now c.args.k c.args.at.0 c.in-Group.first c.requires.0 r.2.second c.in-Group.count r.2.count r.0 r.2.few c.in-Group.union r.1 (pair_in c.of_members.result.0) (pair_in c.cleaned-in-Group.result.0) c.of_members.ensures c.cleaned-in-Group.ensures
