-- `next_part` meets its contract.
-- Assumes nothing.
use mathlib.Core.Path.{sym, ◌∙◌}
use native.Mathlib.Omega.{arith}
use borrow.Author.Tests.{eqb-true, eqb-false}
use lib.ListN.{get_or}
use Rattle.tidying.proofs.Completing.{new_whole, part_low, next-basic, next-element, next-array, next-members, next-member, next-group}
use Rattle.tidying.proofs.numbering.Numbering.next_part.Goals as goal

pub record_at-requires : goal.record_at-requires
record_at-requires c = (new_whole c.args.self.now.types.bytes.now c.args.self.now.numbers c.args.k c.requires, c.requires.known)

pub returns-in-Basic : goal.returns-in-Basic
returns-in-Basic c = next-basic c.args.self.now.types.bytes.now c.args.self.now.numbers c.args.k c.requires c.in-Basic.ensures.1.0

pub is_new-requires : goal.is_new-requires
is_new-requires c = let r = c.in-Array.ensures.1 in rw r.1.second (part_low c.args.self.now.types.bytes.now c.args.self.now.numbers c.args.k c.requires r.0)

pub returns-then-is_new : goal.returns-then-is_new
returns-then-is_new c =
    let r = c.in-Array.ensures.1 in
    rw r.1.second (next-element c.args.self.now.types.bytes.now c.args.self.now.numbers c.args.k c.requires r.0 (eqb-true (get_or c.args.self.now.numbers _ 0) 255 (rw (← r.1.second) (sym c.is_new.ensures ∙ c.if-is_new.true))))

pub returns-else-is_new : goal.returns-else-is_new
returns-else-is_new c =
    let r = c.in-Array.ensures.1 in
    next-array c.args.self.now.types.bytes.now c.args.self.now.numbers c.args.k c.requires r.0 (eqb-false (get_or c.args.self.now.numbers _ 0) 255 (rw (← r.1.second) (sym c.is_new.ensures ∙ c.if-is_new.false)))

pub first_new-requires : goal.first_new-requires
first_new-requires c = let r = c.in-Group.ensures.1 in (rw (r.2.second, r.2.count) (next-members c.args.self.now.types.bytes.now c.args.self.now.numbers c.args.k c.requires r.0), omega (arith, r.2.low, r.2.few))

pub member_at-requires : goal.member_at-requires
member_at-requires c = let r = c.in-Group.ensures.1 in (new_whole c.args.self.now.types.bytes.now c.args.self.now.numbers c.args.k c.requires, omega (arith, c.in_ok-at-in-Group.ensures.1, r.2.second, r.2.count, (next-members c.args.self.now.types.bytes.now c.args.self.now.numbers c.args.k c.requires r.0).fits))

pub returns-in_err-at-in-Group : goal.returns-in_err-at-in-Group
returns-in_err-at-in-Group c =
    let r = c.in-Group.ensures.1 in
    rw c.from_residual.ensures (next-group c.args.self.now.types.bytes.now c.args.self.now.numbers c.args.k c.requires r.0 _ (rw (r.2.second, r.2.count) at c.in_err-at-in-Group.ensures) (omega arith))

pub returns-in_ok-at-in-Group : goal.returns-in_ok-at-in-Group
returns-in_ok-at-in-Group c =
    let r = c.in-Group.ensures.1 in
    rw c.member_at.ensures (next-member c.args.self.now.types.bytes.now c.args.self.now.numbers c.args.k c.requires r.0 c.in_ok-at-in-Group.at (c.in_ok-at-in-Group.ensures.0 ∙ rw (r.2.second, r.2.count)) (omega (arith, c.in_ok-at-in-Group.ensures.1, r.2.second, r.2.count)))
