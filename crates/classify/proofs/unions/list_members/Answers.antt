-- `list_members` meets its contract: what is left is the members from place i on.
-- Assumes nothing.
use mathlib.Core.Path.{◌≡◌}
use Prim.Native.Nat.{ℕ, ◌+◌, ◌-◌}
use native.Mathlib.Omega.{arith}
use Rattle.std.proofs.Common.{rules}
use Rattle.classify.proofs.Skips.{listing_none, listing-all, listing-low, listing-skip, listing-room, listing-more}
use Rattle.classify.proofs.unions.list_members.Goals as goal

pub loop-i-init : goal.loop-i-init
loop-i-init c =
    let e : c.args.first + c.args.count - c.args.first ≡ c.args.count = omega arith in
    rw e (listing_none c.args.d.now c.args.k c.args.first c.args.count c.requires.0 c.requires.1 c.requires.3.second c.requires.3.count c.requires.3.few c.args.list.now.members (search rules))

pub loop-i-preserved-then-seen-member : goal.loop-i-preserved-then-seen-member
loop-i-preserved-then-seen-member c =
    let e : c.args.first + c.args.count - (c.loop-i.i + 1) ≡ c.args.first + c.args.count - c.loop-i.i - 1 = omega arith in
    rw e (listing-skip c.args.d.now c.args.k c.loop-i.i (c.args.first + c.args.count - c.loop-i.i) c.loop-i.list.members c.loop-i.list.count c.loop-i.seen c.loop-i.invariant (omega (arith, c.loop-i-test.true)) c.member_at-member.result c.member_at-member.ensures c.if-seen-member.true)

pub bounds-list-list : goal.bounds-list-list
bounds-list-list c =
    let low = listing-low c.args.d.now c.args.k c.loop-i.i (c.args.first + c.args.count - c.loop-i.i) c.loop-i.list.members c.loop-i.list.count c.loop-i.seen c.loop-i.invariant (omega (arith, c.loop-i-test.true)) c.member_at-member.result c.member_at-member.ensures in
    listing-room c.args.d.now c.args.k c.loop-i.i (c.args.first + c.args.count - c.loop-i.i) c.loop-i.list.members c.loop-i.list.count c.loop-i.seen c.loop-i.invariant (omega (arith, c.loop-i-test.true)) c.member_at-member.result c.member_at-member.ensures c.if-seen-member.false (omega (arith, low, c.requires.2))

pub overflow_add-list : goal.overflow_add-list
overflow_add-list c =
    let low = listing-low c.args.d.now c.args.k c.loop-i.i (c.args.first + c.args.count - c.loop-i.i) c.loop-i.list.members c.loop-i.list.count c.loop-i.seen c.loop-i.invariant (omega (arith, c.loop-i-test.true)) c.member_at-member.result c.member_at-member.ensures in
    omega (arith, listing-room c.args.d.now c.args.k c.loop-i.i (c.args.first + c.args.count - c.loop-i.i) c.loop-i.list.members c.loop-i.list.count c.loop-i.seen c.loop-i.invariant (omega (arith, c.loop-i-test.true)) c.member_at-member.result c.member_at-member.ensures c.if-seen-member.false (omega (arith, low, c.requires.2)))

pub loop-i-preserved : goal.loop-i-preserved
loop-i-preserved c =
    let e : c.args.first + c.args.count - (c.loop-i.i + 1) ≡ c.args.first + c.args.count - c.loop-i.i - 1 = omega arith in
    let low = listing-low c.args.d.now c.args.k c.loop-i.i (c.args.first + c.args.count - c.loop-i.i) c.loop-i.list.members c.loop-i.list.count c.loop-i.seen c.loop-i.invariant (omega (arith, c.loop-i-test.true)) c.member_at-member.result c.member_at-member.ensures in
    rw e (listing-more c.args.d.now c.args.k c.loop-i.i (c.args.first + c.args.count - c.loop-i.i) c.loop-i.list.members c.loop-i.list.count c.loop-i.seen c.loop-i.invariant (omega (arith, c.loop-i-test.true)) c.member_at-member.result c.member_at-member.ensures c.if-seen-member.false (omega (arith, low, c.requires.2)))

pub returns : goal.returns
returns c =
    listing-all c.args.d.now c.args.k c.args.first c.args.count c.requires.0 c.requires.1 c.requires.3.second c.requires.3.count c.requires.3.few c.loop-i.i (c.args.first + c.args.count - c.loop-i.i) c.loop-i.list.members c.loop-i.list.count c.loop-i.seen c.loop-i.invariant (omega (arith, c.loop-i-test.false))
