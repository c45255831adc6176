-- `is_vector` meets its contract.
-- Assumes nothing.
use mathlib.Core.Path.{refl}
use Rattle.classify.proofs.Known.{classed_less}
use Rattle.classify.proofs.OverTwo.{array_whole, group-whole}
use Rattle.types.proofs.Runs.{element-low, group-run}
use Rattle.types.proofs.Table.{known-low}
use Rattle.types.proofs.Trees.{sized-below}
use Rattle.classify.proofs.wide_aggregates.is_vector.Goals as goal

pub returns-in-Basic : goal.returns-in-Basic
returns-in-Basic c = absurd (c.requires.1 c.in-Basic.ensures.1.0)

pub is_wide-requires : goal.is_wide-requires
is_wide-requires c =
    let r = c.in-Array.ensures.1 in
    known-low c.args.known.d.now c.args.known.table.now c.args.known.ready.sizes c.in-Array.element (sized-below c.args.known.d.now c.args.k c.requires.0 c.in-Array.element (element-low c.args.known.d.now c.args.k c.in-Array.element c.requires.0 r.1.second r.0))

pub returns-in-Array : goal.returns-in-Array
returns-in-Array c =
    let r = c.in-Array.ensures.1 in
    array_whole c.args.known.d.now c.args.known.table.now c.args.k c.in-Array.element c.requires.0 c.requires.2 (classed_less _ _ _ _ c.args.k c.args.known.ready c.requires.3) r.1.second r.0 _ c.is_wide.ensures

pub members_wide-requires : goal.members_wide-requires
members_wide-requires c =
    let r = c.in-Group.ensures.1 in
    (group-run c.args.known.d.now c.args.k c.in-Group.first c.requires.0 r.2.second c.in-Group.count r.2.count r.0 r.2.few 0 1 refl refl, c.requires.3)

pub returns-in-Group : goal.returns-in-Group
returns-in-Group c =
    let r = c.in-Group.ensures.1 in
    group-whole c.args.known.d.now c.args.known.table.now c.args.k c.in-Group.first c.requires.0 c.requires.2 (classed_less _ _ _ _ c.args.k c.args.known.ready c.requires.3) r.2.second c.in-Group.count r.2.count r.0 r.2.few _ c.members_wide.ensures
