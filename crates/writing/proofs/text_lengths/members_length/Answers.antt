use native.Mathlib.Omega.{arith}
use Rattle.writing.proofs.Steps.{entry-is, adding_first, adding_next, adding_end}
use Rattle.writing.proofs.Texts.{member-sized}
use Rattle.declaring.specs.Length.{braces_length}
use Rattle.writing.proofs.text_lengths.members_length.Goals as goal

pub loop-i-init : goal.loop-i-init
loop-i-init c = adding_first c.args.d.now c.args.first c.args.count (braces_length c.args.union) c.braces-x.result c.braces-x.ensures.0 (omega (arith, c.braces-x.ensures.1))

pub overflow_add-first : goal.overflow_add-first
overflow_add-first c = omega (arith, c.requires.0.fits, c.requires.0.sized.whole, c.loop-i-test.true, c.well_formed.0)

pub member_at-member-requires : goal.member_at-member-requires
member_at-member-requires c = (c.requires.0.sized.whole, omega (arith, c.requires.0.fits, c.loop-i-test.true))

pub entry_at-entry-requires : goal.entry_at-entry-requires
entry_at-entry-requires c = omega (arith, (member-sized c.loop-i.i c.member_at-member.result c.requires.0 c.loop-i-test.true c.member_at-member.ensures).0, c.requires.2.few)

pub digits-many-requires : goal.digits-many-requires
digits-many-requires c = omega (arith, c.loop-i-test.true, c.requires.1)

pub overflow_add-many : goal.overflow_add-many
overflow_add-many c = omega (arith, c.digits-many.ensures.1)

pub overflow_add-entry : goal.overflow_add-entry
overflow_add-entry c = omega (arith, c.digits-many.ensures.1, (entry-is c.member_at-member.result c.entry_at-entry.result c.requires.2 (member-sized c.loop-i.i c.member_at-member.result c.requires.0 c.loop-i-test.true c.member_at-member.ensures).0 c.entry_at-entry.ensures).1)

pub overflow_add-x : goal.overflow_add-x
overflow_add-x c = omega (arith, c.loop-i.invariant.high, c.digits-many.ensures.1, (entry-is c.member_at-member.result c.entry_at-entry.result c.requires.2 (member-sized c.loop-i.i c.member_at-member.result c.requires.0 c.loop-i-test.true c.member_at-member.ensures).0 c.entry_at-entry.ensures).1)

pub loop-i-preserved : goal.loop-i-preserved
loop-i-preserved c = adding_next c.member_at-member.result c.entry_at-entry.result c.digits-many.result c.cap-x.result c.loop-i.invariant c.loop-i-test.true c.member_at-member.ensures (entry-is c.member_at-member.result c.entry_at-entry.result c.requires.2 (member-sized c.loop-i.i c.member_at-member.result c.requires.0 c.loop-i-test.true c.member_at-member.ensures).0 c.entry_at-entry.ensures).0 c.digits-many.ensures.0 c.cap-x.ensures

pub returns : goal.returns
returns c = adding_end c.loop-i.invariant c.loop-i-test.false
