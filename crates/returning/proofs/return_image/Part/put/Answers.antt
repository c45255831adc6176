-- `put_part` meets its contract: a copy into the one image or into the other.
-- Assumes nothing.
use native.Mathlib.Omega.{arith}
use Rattle.std.proofs.Common.{rules}
use Rattle.returning.proofs.Moves.{part-below, part-above, put-below, put-above}
use Rattle.returning.proofs.return_image.Part.put.Goals as goal

pub copy-requires : goal.copy-requires
copy-requires c = part-below _ _ _ _ c.requires (search rules)

pub returns-then-lt : goal.returns-then-lt
returns-then-lt c = put-below _ c.args.value.now c.args.image.now c.args.upper.now c.requires (search rules) _ c.copy.ensures

pub copy-requires-else-lt : goal.copy-requires-else-lt
copy-requires-else-lt c = omega (arith, part-above _ _ _ _ c.requires (search rules) _ c.sub-above.ensures)

pub returns-else-lt : goal.returns-else-lt
returns-else-lt c = put-above _ c.args.value.now c.args.image.now c.args.upper.now c.requires (search rules) _ c.sub-above.ensures _ c.copy-else-lt.ensures
