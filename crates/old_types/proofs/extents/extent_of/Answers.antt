-- `extent_of` meets its contract, by the kind of the type.
-- Assumes nothing.
use mathlib.Core.Path.{refl}
use native.Mathlib.Omega.{arith}
use Rattle.old_types.proofs.Runs.{basic-low, basic-done, element-low, array-small, array-done, group-run, group-asks, group-done}
use Rattle.old_types.proofs.Table.{entry-low, entry-extent}
use Rattle.old_types.proofs.extents.extent_of.Goals as goal

pub basic_extent-requires : goal.basic_extent-requires
basic_extent-requires c =
    let r = c.in-Basic.ensures.1 in
    basic-low c.args.d.now c.args.k c.in-Basic.code c.requires.0 r.1.second r.0

pub returns-in-Basic : goal.returns-in-Basic
returns-in-Basic c =
    let r = c.in-Basic.ensures.1 in
    basic-done c.args.d.now c.args.k c.in-Basic.code c.requires.0 r.1.second r.0 c.basic_extent.result c.basic_extent.ensures

pub extent_in-one-requires : goal.extent_in-one-requires
extent_in-one-requires c =
    let r = c.in-Array.ensures.1 in
    entry-low c.args.d.now c.args.table.now c.args.k c.requires.1 c.in-Array.element (element-low c.args.d.now c.args.k c.in-Array.element c.requires.0 r.1.second r.0)

pub mul-requires : goal.mul-requires
mul-requires c =
    let r = c.in-Array.ensures.1 in
    let low = element-low c.args.d.now c.args.k c.in-Array.element c.requires.0 r.1.second r.0 in
    omega (
      arith,
      array-small c.args.d.now c.args.k c.in-Array.element c.requires.0 r.1.second c.in-Array.count r.1.count r.0 c.extent_in-one.result
          (entry-extent c.args.d.now c.args.table.now c.args.k c.requires.1 c.in-Array.element low c.extent_in-one.result c.extent_in-one.ensures),
    )

pub returns-in-Array : goal.returns-in-Array
returns-in-Array c =
    let r = c.in-Array.ensures.1 in
    let low = element-low c.args.d.now c.args.k c.in-Array.element c.requires.0 r.1.second r.0 in
    array-done c.args.d.now c.args.k c.in-Array.element c.requires.0 r.1.second c.in-Array.count r.1.count r.0 c.extent_in-one.result _
    (entry-extent c.args.d.now c.args.table.now c.args.k c.requires.1 c.in-Array.element low c.extent_in-one.result c.extent_in-one.ensures) c.mul.ensures refl

pub members_extent-members-requires : goal.members_extent-members-requires
members_extent-members-requires c =
    let r = c.in-Group.ensures.1 in
    (group-run c.args.d.now c.args.k c.in-Group.first c.requires.0 r.2.second c.in-Group.count r.2.count r.0 r.2.few 0 1 refl refl, c.requires.1)

pub raised_to-requires : goal.raised_to-requires
raised_to-requires c =
    let r = c.in-Group.ensures.1 in
    let q = group-asks c.args.d.now c.args.k c.in-Group.first c.requires.0 r.2.second c.in-Group.count r.2.count r.0 r.2.few c.in-Group.union r.1 c.members_extent-members.result c.members_extent-members.ensures in
    (q.0, omega (arith, q))

pub returns-in-Group : goal.returns-in-Group
returns-in-Group c =
    let r = c.in-Group.ensures.1 in
    group-done c.args.d.now c.args.k c.in-Group.first c.requires.0 r.2.second c.in-Group.count r.2.count r.0 r.2.few c.in-Group.union r.1 c.members_extent-members.result c.members_extent-members.ensures _ c.raised_to.ensures refl
