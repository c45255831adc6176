-- `basic_extent` meets its contract.
-- Assumes nothing.
use mathlib.Core.Path.{◌∙◌}
use borrow.Author.Rules.{rules}
use Rattle.old_types.specs.Basic.{sizes, aligns, basic_size, basic_align}
use Rattle.old_types.proofs.Sizes.{within}
use Rattle.old_types.proofs.extents.basic_extent.Goals as goal

pub returns : goal.returns
unfolding basic_size basic_align
returns c = (c.from.ensures ∙ within sizes c.args.code 0 1 (search rules), c.from-2.ensures ∙ within aligns c.args.code 0 1 (search rules))
