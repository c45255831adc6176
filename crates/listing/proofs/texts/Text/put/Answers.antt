-- A word is copied. Assumes nothing.
use Rattle.listing.proofs.Puts.{puts_copy}
use Rattle.listing.proofs.texts.Text.put.Goals as goal

pub returns : goal.returns
returns c = puts_copy c.args.self.now c.args.word.now c.copy.new.dst c.copy.ensures
