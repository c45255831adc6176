use Rattle.places.proofs.Records.{entry-shape}
use Rattle.places.proofs.Argument.shape.Goals as goal

pub returns : goal.returns
returns c = entry-shape c.args.self.named c.args.self.entry.0 _ c.extent.result c.kinds-kinds.ensures c.extent.ensures
