-- The length of a type, by its kind. Assumes nothing.
use mathlib.Core.Path.{◌∙◌}
use native.Mathlib.Omega.{arith}
use Rattle.writing.proofs.Steps.{entry-is, basic-length, array-length, group-length, group-asked}
use Rattle.writing.proofs.Texts.{element-below}
use Rattle.writing.proofs.text_lengths.length_of.Goals as goal

pub words_length-requires : goal.words_length-requires
words_length-requires c = let r = c.in-Basic.ensures.1 in (basic-length c.args.d.now c.args.k c.requires.0 c.in-Basic.code r.0 r.1.second).0

pub returns-in-Basic : goal.returns-in-Basic
returns-in-Basic c = let r = c.in-Basic.ensures.1 in c.words_length.ensures ∙ (basic-length c.args.d.now c.args.k c.requires.0 c.in-Basic.code r.0 r.1.second).1

pub entry_at-entry-requires : goal.entry_at-entry-requires
entry_at-entry-requires c = let r = c.in-Array.ensures.1 in omega (arith, element-below c.args.d.now c.args.k c.requires.0 c.in-Array.element r.0 r.1.second, c.requires.1.few)

pub overflow_add-entry : goal.overflow_add-entry
overflow_add-entry c =
    let r = c.in-Array.ensures.1 in
    omega (arith, c.digits-many.ensures.1, (entry-is c.in-Array.element c.entry_at-entry.result c.requires.1 (element-below c.args.d.now c.args.k c.requires.0 c.in-Array.element r.0 r.1.second) c.entry_at-entry.ensures).1)

pub returns-in-Array : goal.returns-in-Array
returns-in-Array c =
    let r = c.in-Array.ensures.1 in
    c.cap.ensures ∙ array-length c.args.d.now c.args.k c.requires.0 c.in-Array.element c.in-Array.count c.entry_at-entry.result c.digits-many.result r.0 r.1.second r.1.count (entry-is c.in-Array.element c.entry_at-entry.result c.requires.1 (element-below c.args.d.now c.args.k c.requires.0 c.in-Array.element r.0 r.1.second) c.entry_at-entry.ensures).0 c.digits-many.ensures.0

pub members_length-requires : goal.members_length-requires
members_length-requires c =
    let r = c.in-Group.ensures.1 in
    (group-asked c.args.d.now c.args.k c.requires.0 c.in-Group.first c.in-Group.count r.0 r.2.second r.2.count, r.2.few, c.requires.1)

pub returns-in-Group : goal.returns-in-Group
returns-in-Group c =
    let r = c.in-Group.ensures.1 in
    c.members_length.ensures ∙ group-length c.args.d.now c.args.k c.requires.0 c.in-Group.union c.in-Group.first c.in-Group.count r.1 r.0 r.2.second r.2.count
