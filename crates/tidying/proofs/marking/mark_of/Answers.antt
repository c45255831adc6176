-- `mark_of` meets its contract.
-- Assumes nothing.
use mathlib.Core.Path.{◌∙◌}
use Rattle.tidying.proofs.Marks.{mark-whole, mark-basic, element-low, mark-array, mark-ask, mark-group, group-start}
use Rattle.tidying.proofs.marking.mark_of.Goals as goal

pub record_at-requires : goal.record_at-requires
record_at-requires c = (mark-whole c.args.d.now c.requires.0, c.requires.1)

pub returns-in-Basic : goal.returns-in-Basic
returns-in-Basic c = let r = c.in-Basic.ensures.1 in c.mix.ensures ∙ rw r.1.second (mark-basic c.args.d.now c.args.marks.now c.requires.0 c.args.k c.requires.1 c.requires.2 r.0)

pub bounds-marks-element : goal.bounds-marks-element
bounds-marks-element c = let r = c.in-Array.ensures.1 in rw r.1.second (element-low c.args.d.now c.args.marks.now c.requires.0 c.args.k c.requires.1 c.requires.2 r.0)

pub returns-in-Array : goal.returns-in-Array
returns-in-Array c = let r = c.in-Array.ensures.1 in c.mix-in-Array.ensures ∙ rw (c.mix-counted.ensures, r.1.count, r.1.second) (mark-array c.args.d.now c.args.marks.now c.requires.0 c.args.k c.requires.1 c.requires.2 r.0)

pub mark_members-requires : goal.mark_members-requires
mark_members-requires c = let r = c.in-Group.ensures.1 in rw (r.2.second, r.2.count) (mark-ask c.args.d.now c.args.marks.now c.requires.0 c.args.k c.requires.1 c.requires.2 r.0)

pub returns-in-Group : goal.returns-in-Group
returns-in-Group c =
    let r = c.in-Group.ensures.1 in
    c.mark_members.ensures ∙ rw (c.group_mark.ensures, r.1, r.2.second, r.2.count, group-start c.args.d.now c.args.marks.now c.requires.0 c.args.k c.requires.1 c.requires.2 r.0) (mark-group c.args.d.now c.args.marks.now c.requires.0 c.args.k c.requires.1 c.requires.2 r.0)
