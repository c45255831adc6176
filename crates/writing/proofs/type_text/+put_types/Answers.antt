-- `put_type` and `put_members` meet their contracts: the words of a basic type, those of an array's elements, or the members in braces. Assumes nothing.
use native.Mathlib.Omega.{arith}
use Rattle.types.proofs.Trees.{sized-below}
use Rattle.listing.proofs.Puts.{puts_behind}
use Rattle.writing.proofs.Texts.{going_first, going_next, going_end, member-room, member-sized, name_text-length, element-below, basic-room, basic-done, array-room, array-done, members-asked, group-all, group-done}
use Rattle.writing.proofs.type_text.+put_types.Goals as goal

pub put_members-loop-i-init : goal.put_members-loop-i-init
put_members-loop-i-init t c =
    going_first c.args.d.now c.args.first c.args.count c.args.text.now c.requires.1

pub put_members-overflow_add-first : goal.put_members-overflow_add-first
put_members-overflow_add-first t c =
    omega (arith, c.requires.0.fits, c.requires.0.sized.whole, c.loop-i-test.true, c.well_formed.0)

pub put_members-member_at-member-requires : goal.put_members-member_at-member-requires
put_members-member_at-member-requires t c =
    (c.requires.0.sized.whole, omega (arith, c.requires.0.fits, c.loop-i-test.true))

pub put_members-put_type-requires : goal.put_members-put_type-requires
put_members-put_type-requires t c =
    let m = member-sized c.loop-i.i c.member_at-member.result c.requires.0 c.loop-i-test.true c.member_at-member.ensures in (omega (arith, c.decreases, m.0), (m.1, omega (arith, member-room c.member_at-member.result c.loop-i.invariant c.loop-i-test.true c.member_at-member.ensures)))

pub put_members-put_name-requires : goal.put_members-put_name-requires
put_members-put_name-requires t c =
    omega (arith, puts_behind c.put_type.ensures, member-room c.member_at-member.result c.loop-i.invariant c.loop-i-test.true c.member_at-member.ensures)

pub put_members-put_sizes-requires : goal.put_members-put_sizes-requires
put_members-put_sizes-requires t c =
    let m = member-sized c.loop-i.i c.member_at-member.result c.requires.0 c.loop-i-test.true c.member_at-member.ensures in (m.1, omega (arith, puts_behind c.put_type.ensures, puts_behind c.put_name.ensures, name_text-length c.loop-i.i, member-room c.member_at-member.result c.loop-i.invariant c.loop-i-test.true c.member_at-member.ensures))

pub put_members-put-requires : goal.put_members-put-requires
put_members-put-requires t c =
    omega (arith, puts_behind c.put_type.ensures, puts_behind c.put_name.ensures, puts_behind c.put_sizes.ensures, name_text-length c.loop-i.i, member-room c.member_at-member.result c.loop-i.invariant c.loop-i-test.true c.member_at-member.ensures)

pub put_members-loop-i-preserved : goal.put_members-loop-i-preserved
put_members-loop-i-preserved t c =
    going_next c.member_at-member.result c.loop-i.invariant c.loop-i-test.true c.member_at-member.ensures c.put_type.ensures c.put_name.ensures c.put_sizes.ensures c.put.ensures

pub put_members-returns : goal.put_members-returns
put_members-returns t c =
    going_end c.loop-i.invariant c.loop-i-test.false

pub put_type-record_at-requires : goal.put_type-record_at-requires
put_type-record_at-requires t c =
    (c.requires.0.whole, c.requires.0.known)

pub put_type-put_words-requires : goal.put_type-put_words-requires
put_type-put_words-requires t c =
    let r = c.in-Basic.ensures.1 in
    basic-room c.args.d.now c.args.k c.requires.0 c.in-Basic.code c.args.text.now.at r.0 r.1.second c.requires.1

pub put_type-returns-in-Basic : goal.put_type-returns-in-Basic
put_type-returns-in-Basic t c =
    let r = c.in-Basic.ensures.1 in
    basic-done c.args.d.now c.args.k c.requires.0 c.in-Basic.code r.0 r.1.second c.put_words.ensures

pub put_type-put_type-requires : goal.put_type-put_type-requires
put_type-put_type-requires t c =
    let r = c.in-Array.ensures.1 in
    let low = element-below c.args.d.now c.args.k c.requires.0 c.in-Array.element r.0 r.1.second in
    (omega (arith, c.decreases, low), (sized-below c.args.d.now c.args.k c.requires.0 c.in-Array.element low, array-room c.args.d.now c.args.k c.requires.0 c.in-Array.element c.args.text.now.at r.0 r.1.second c.requires.1))

pub put_type-returns-in-Array : goal.put_type-returns-in-Array
put_type-returns-in-Array t c =
    let r = c.in-Array.ensures.1 in
    array-done c.args.d.now c.args.k c.requires.0 c.in-Array.element r.0 r.1.second c.put_type.ensures

pub put_type-put_group-requires : goal.put_type-put_group-requires
put_type-put_group-requires t c =
    let r = c.in-Group.ensures.1 in
    omega (arith, group-all c.args.d.now c.args.k c.requires.0 c.in-Group.union c.in-Group.first c.in-Group.count r.1 r.2.second r.2.count r.0 c.args.text.now.at c.requires.1)

pub put_type-put_members-requires : goal.put_type-put_members-requires
put_type-put_members-requires t c =
    let r = c.in-Group.ensures.1 in
    (omega (arith, c.decreases), (members-asked c.args.d.now c.args.k c.requires.0 c.in-Group.union c.in-Group.first c.in-Group.count r.1 r.2.second r.2.count r.0, omega (arith, puts_behind c.put_group.ensures, group-all c.args.d.now c.args.k c.requires.0 c.in-Group.union c.in-Group.first c.in-Group.count r.1 r.2.second r.2.count r.0 c.args.text.now.at c.requires.1)))

pub put_type-put-requires : goal.put_type-put-requires
put_type-put-requires t c =
    let r = c.in-Group.ensures.1 in
    omega (arith, puts_behind c.put_group.ensures, puts_behind c.put_members.ensures, group-all c.args.d.now c.args.k c.requires.0 c.in-Group.union c.in-Group.first c.in-Group.count r.1 r.2.second r.2.count r.0 c.args.text.now.at c.requires.1)

pub put_type-returns-in-Group : goal.put_type-returns-in-Group
put_type-returns-in-Group t c =
    let r = c.in-Group.ensures.1 in
    group-done c.args.d.now c.args.k c.requires.0 c.in-Group.union c.in-Group.first c.in-Group.count r.1 r.2.second r.2.count r.0 c.put_group.ensures c.put_members.ensures c.put.ensures
