-- `aggregate_word` meets its contract.
-- Assumes nothing.
use mathlib.Core.Path.{sym, ap, ◌∙◌}
use native.Mathlib.Omega.{arith}
use Prim.Native.Nat.{◌≤◌}
use borrow.Author.Tests.{le-ltb}
use Rattle.std.proofs.lemmas.Grind.{common_steps}
use Rattle.classify.specs.Table.{word_of}
use Rattle.classify.proofs.Steps.{whole-small}
use Rattle.types.proofs.Table.{known-low, known-extent}
use Rattle.classify.proofs.class_table.aggregate_word.Goals as goal

pub wide_word-requires : goal.wide_word-requires
wide_word-requires c =
    let e = known-extent c.args.d.now c.args.table.now c.requires.2.sizes c.args.k c.requires.0 c.extent_in.result c.extent_in.ensures in
    (c.requires.0, c.requires.1, e.size, grind (arith, common_steps), omega arith)

pub different_members-different-requires : goal.different_members-different-requires
different_members-different-requires c =
    let small : c.extent_in.result.size.0 ≤ 16 = grind (arith, common_steps) in
    (record { sized = c.requires.0; fits = omega (arith, (known-extent c.args.d.now c.args.table.now c.requires.2.sizes c.args.k c.requires.0 c.extent_in.result c.extent_in.ensures).size, small) }, known-low c.args.d.now c.args.table.now c.requires.2.sizes c.args.k c.requires.0)

pub of_aggregate-requires : goal.of_aggregate-requires
of_aggregate-requires c =
    let small : c.extent_in.result.size.0 ≤ 16 = grind (arith, common_steps) in
    (c.different_members-different.ensures, record { sized = c.requires.0; fits = omega (arith, (known-extent c.args.d.now c.args.table.now c.requires.2.sizes c.args.k c.requires.0 c.extent_in.result c.extent_in.ensures).size, small) }, omega arith)

pub returns : goal.returns
returns c =
    let small : c.extent_in.result.size.0 ≤ 16 = grind (arith, common_steps) in
    (c.from.ensures ∙ ap word_of (c.of_aggregate.ensures ∙ sym (whole-small c.args.d.now c.args.k c.requires.0 (rw (← (known-extent c.args.d.now c.args.table.now c.requires.2.sizes c.args.k c.requires.0 c.extent_in.result c.extent_in.ensures).size) (le-ltb 16 c.extent_in.result.size.0 (small))))), c.finish.ensures)
