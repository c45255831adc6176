-- `one_part` meets its contract.
-- Assumes nothing.
use Rattle.returning.proofs.Moves.{parts-row}
use Rattle.returning.proofs.return_image.one_part.Goals as goal

pub returns : goal.returns
returns c = parts-row c.args.register _ _ _ _ c.return_address.ensures c.moved.ensures c.no_part.ensures
