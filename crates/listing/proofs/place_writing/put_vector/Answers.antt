-- The digit stands behind xmm. Assumes nothing.
use Rattle.listing.proofs.Words.{vector-is, vector-none}
use Rattle.listing.proofs.place_writing.put_vector.Goals as goal

pub returns-then-n-lt8 : goal.returns-then-n-lt8
returns-then-n-lt8 c = vector-is c.args.n c.if-n-lt8.true c.put.ensures c.put_digit.ensures

pub returns-else-n-lt8 : goal.returns-else-n-lt8
returns-else-n-lt8 c = vector-none c.args.n c.args.text.now c.if-n-lt8.false
