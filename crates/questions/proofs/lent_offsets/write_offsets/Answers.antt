use mathlib.Core.Path.{◌≡◌, ap, ◌∙◌}
use Prim.Native.Nat.{ℕ, ◌+◌, max}
use native.Mathlib.Omega.{arith}
use Rattle.std.proofs.lemmas.Grind.{common_steps}
use lib.ListN.{length}
use Rattle.questions.specs.Offsets.{OffsetAt}
use Rattle.questions.proofs.Offsets.{before-first, member-known, offset-asks, end_asks, offset-is, before-next}
use Rattle.description.specs.Description.{types_in}
use Rattle.types.specs.Table.{filled}
use Rattle.types.proofs.Table.{filled_none, filled_next, length-filled, entry-low, entry-extent}
use Rattle.questions.proofs.lent_offsets.write_offsets.Goals as goal

pub loop-i-init : goal.loop-i-init
loop-i-init c = record {
  left = before-first c.args.d.now c.args.k c.args.first c.args.count c.args.union c.args.table.now (length c.args.offsets.now) c.requires.0 c.requires.2.second (c.requires.2.count, c.requires.2.few) c.requires.1;
  done = filled_none (OffsetAt c.args.d.now c.args.k) c.args.offsets.now;
}

pub overflow_add-first : goal.overflow_add-first
overflow_add-first c = omega arith

pub member_at-requires : goal.member_at-requires
member_at-requires c = (c.requires.0.sized.whole, omega (arith, c.loop-i.invariant.left.run.fits))

pub extent_in-member-requires : goal.extent_in-member-requires
extent_in-member-requires c =
    entry-low c.args.d.now c.args.table.now (types_in c.args.d.now) c.requires.0.tabled c.member_at.result
    (member-known c.args.d.now c.args.k c.args.first c.args.count c.args.union c.loop-i.i c.loop-i.end.0 c.loop-i.invariant.left (omega arith) c.member_at.result c.member_at.ensures)

pub offset_after-offset-requires : goal.offset_after-offset-requires
offset_after-offset-requires c =
    let known = member-known c.args.d.now c.args.k c.args.first c.args.count c.args.union c.loop-i.i c.loop-i.end.0 c.loop-i.invariant.left (omega arith) c.member_at.result c.member_at.ensures in
    let is = entry-extent c.args.d.now c.args.table.now (types_in c.args.d.now) c.requires.0.tabled c.member_at.result known c.extent_in-member.result c.extent_in-member.ensures in
    offset-asks c.args.d.now c.args.k c.args.first c.args.count c.args.union c.loop-i.i c.loop-i.end.0 c.loop-i.invariant.left (omega arith) c.member_at.result c.member_at.ensures c.extent_in-member.result is

pub bounds-offsets-i : goal.bounds-offsets-i
bounds-offsets-i c = rw (c.loop-i.invariant.done, length-filled (OffsetAt c.args.d.now c.args.k) c.loop-i.i c.args.offsets.now) (omega (arith, c.requires.0.long))

pub add-requires : goal.add-requires
add-requires c =
    let known = member-known c.args.d.now c.args.k c.args.first c.args.count c.args.union c.loop-i.i c.loop-i.end.0 c.loop-i.invariant.left (omega arith) c.member_at.result c.member_at.ensures in
    let is = entry-extent c.args.d.now c.args.table.now (types_in c.args.d.now) c.requires.0.tabled c.member_at.result known c.extent_in-member.result c.extent_in-member.ensures in
    omega (arith, end_asks c.args.d.now c.args.k c.args.first c.args.count c.args.union c.loop-i.i c.loop-i.end.0 c.loop-i.invariant.left (omega arith) c.member_at.result c.member_at.ensures c.extent_in-member.result is c.offset_after-offset.result.0 c.offset_after-offset.ensures)

pub loop-i-preserved : goal.loop-i-preserved
loop-i-preserved c =
    let known = member-known c.args.d.now c.args.k c.args.first c.args.count c.args.union c.loop-i.i c.loop-i.end.0 c.loop-i.invariant.left (omega arith) c.member_at.result c.member_at.ensures in
    let is = entry-extent c.args.d.now c.args.table.now (types_in c.args.d.now) c.requires.0.tabled c.member_at.result known c.extent_in-member.result c.extent_in-member.ensures in
    let further : c.max-end.result.0 ≡ max c.loop-i.end.0 (c.offset_after-offset.result.0 + c.extent_in-member.result.size.0) = grind (arith, common_steps) in
    record {
      left = before-next c.args.d.now c.args.k c.args.first c.args.count c.args.union c.loop-i.i c.loop-i.end.0 c.loop-i.invariant.left (omega arith) c.member_at.result c.member_at.ensures c.extent_in-member.result is c.offset_after-offset.result.0 c.max-end.result.0 c.offset_after-offset.ensures further;
      done = rw (c.loop-i.invariant.done, c.offset_after-offset.ensures ∙ offset-is c.args.d.now c.args.k c.args.first c.args.count c.args.union c.loop-i.i c.loop-i.end.0 c.loop-i.invariant.left (omega arith) c.member_at.result c.member_at.ensures c.extent_in-member.result is) (filled_next (OffsetAt c.args.d.now c.args.k) c.loop-i.i c.args.offsets.now);
    }

pub returns : goal.returns
returns c = c.loop-i.invariant.done ∙ ap (λ (n : ℕ). filled (OffsetAt c.args.d.now c.args.k) n c.args.offsets.now) (omega (arith, c.requires.2.count))
