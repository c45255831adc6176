-- `fill_images` meets its contract.
-- Assumes nothing.
use Rattle.moving.proofs.Blanks.{filled-images}
use Rattle.moving.proofs.filling.fill_images.Goals as goal

pub returns : goal.returns
returns c = filled-images c.args.described.bytes.now c.args.used c.args.address c.args.values.now c.args.stack.now _ _ c.requires.1 c.requires.0.stack c.blank_images.ensures c.place_all.ensures
