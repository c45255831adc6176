use Rattle.layout.proofs.Steps.{named_by}
use Rattle.layout.proofs.described.Described.place_argument.Goals as goal

pub place_as-requires : goal.place_as-requires
place_as-requires c = (c.requires, named_by c.args.self.bytes.now c.args.i c.named.result c.named.ensures)
