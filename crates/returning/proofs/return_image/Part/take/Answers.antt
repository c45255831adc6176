-- `take_part` meets its contract: a copy out of the one image or out of the other.
-- Assumes nothing.
use Rattle.std.proofs.Common.{rules}
use Rattle.returning.proofs.Moves.{part-below, part-above, take_below, take-above}
use Rattle.returning.proofs.return_image.Part.take.Goals as goal

pub copy-requires : goal.copy-requires
copy-requires c = let l = part-below _ _ _ _ c.requires (search rules) in (l.1, l.0)

pub returns-then-lt : goal.returns-then-lt
returns-then-lt c = take_below _ c.args.value.now c.args.image.now c.args.upper.now c.requires (search rules) _ c.copy.ensures

pub copy-requires-else-lt : goal.copy-requires-else-lt
copy-requires-else-lt c = let l = part-above _ _ _ _ c.requires (search rules) _ c.sub-above.ensures in (l.1, l.0)

pub returns-else-lt : goal.returns-else-lt
returns-else-lt c = take-above _ c.args.value.now c.args.image.now c.args.upper.now c.requires (search rules) _ c.sub-above.ensures _ c.copy-else-lt.ensures
