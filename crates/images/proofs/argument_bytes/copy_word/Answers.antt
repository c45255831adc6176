-- `copy_word` meets its contract: what is copied by way of a word is copied.
-- Assumes nothing.
use lib.ListN.{length-replicate}
use Rattle.images.proofs.Moves.{copied-by_word}
use Rattle.images.proofs.argument_bytes.copy_word.Goals as goal

pub returns : goal.returns
returns g c = copied-by_word _ _ _ _ _ g.row.N (length-replicate g.row.N 0) _ _ c.copy.ensures c.copy-2.ensures
