use mathlib.Core.Path.{◌≡◌}
use Prim.Native.Nat.{◌+◌, ◌-◌, max}
use native.Mathlib.Omega.{arith}
use Rattle.std.proofs.lemmas.Grind.{common_steps}
use Rattle.old_types.proofs.Runs.{run_none, member-low, member-asks, run-rest, run-done}
use Rattle.old_types.proofs.Table.{entry-extent}
use Rattle.old_types.proofs.extents.members_extent.Goals as goal

pub end_after-size-requires : goal.end_after-size-requires
end_after-size-requires c =
    let d = c.args.d.now in
    let n = c.args.first + c.args.count - c.loop-at.at in
    let low = member-low d c.args.k c.loop-at.at n c.loop-at.size.0 c.loop-at.align.0 c.loop-at.invariant.left (omega arith) c.member_at.result c.member_at.ensures in
    let is = entry-extent d c.args.table.now c.args.k c.requires.1 c.member_at.result low c.extent_in-member.result c.extent_in-member.ensures in
    let q = member-asks d c.args.k c.loop-at.at n c.loop-at.size.0 c.loop-at.align.0 c.loop-at.invariant.left (omega arith) c.member_at.result c.member_at.ensures c.extent_in-member.result is in
    ((omega (arith, q), q.1.0), omega (arith, q))

pub loop-at-preserved : goal.loop-at-preserved
loop-at-preserved c =
    let d = c.args.d.now in
    let n = c.args.first + c.args.count - c.loop-at.at in
    let low = member-low d c.args.k c.loop-at.at n c.loop-at.size.0 c.loop-at.align.0 c.loop-at.invariant.left (omega arith) c.member_at.result c.member_at.ensures in
    let is = entry-extent d c.args.table.now c.args.k c.requires.1 c.member_at.result low c.extent_in-member.result c.extent_in-member.ensures in
    let rest : c.args.first + c.args.count - (c.loop-at.at + 1) ≡ n - 1 = omega arith in
    let larger : c.max-align.result.0 ≡ max c.loop-at.align.0 c.extent_in-member.result.align.0 = grind (arith, common_steps) in
    record {
      left = rw rest (run-rest d c.args.k c.loop-at.at n c.loop-at.size.0 c.loop-at.align.0 c.loop-at.invariant.left (omega arith) c.member_at.result c.member_at.ensures c.extent_in-member.result is c.args.union c.end_after-size.result.0 c.max-align.result.0 c.end_after-size.ensures larger);
      answers = rw rest (λ r h. c.loop-at.invariant.answers r (run-done d c.args.k c.loop-at.at n c.loop-at.size.0 c.loop-at.align.0 c.loop-at.invariant.left (omega arith) c.member_at.result c.member_at.ensures c.extent_in-member.result is c.args.union c.end_after-size.result.0 c.max-align.result.0 c.end_after-size.ensures larger r h));
    }

pub returns : goal.returns
returns c = c.loop-at.invariant.answers _ (run_none c.args.d.now c.args.k c.loop-at.at (c.args.first + c.args.count - c.loop-at.at) c.args.union (record { size = c.loop-at.size; align = c.loop-at.align }) c.loop-at.invariant.left (omega arith))
