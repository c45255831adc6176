-- `end_after` meets its contract.
-- Assumes nothing.
use native.Mathlib.Omega.{arith}
use Rattle.std.proofs.lemmas.Grind.{common_steps}
use borrow.Author.Rules.{rules}
use Rattle.types.specs.Size.{end_after}
use Rattle.types.proofs.Sizes.{offset-high}
use Rattle.types.proofs.extents.end_after.Goals as goal

pub add-requires : goal.add-requires
add-requires c = omega (arith, offset-high c.args.union c.args.end.0 c.args.member.align.0 (search rules), c.offset_after.ensures)

pub returns : goal.returns
unfolding end_after
returns c = grind (arith, common_steps)
