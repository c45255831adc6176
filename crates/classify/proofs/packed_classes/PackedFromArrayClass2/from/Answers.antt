-- Packing meets its contract.
-- Assumes nothing.
use mathlib.Core.Path.{refl}
use Rattle.classify.proofs.Table.{pack_is}
use Rattle.classify.proofs.packed_classes.PackedFromArrayClass2.from.Goals as goal

pub returns : goal.returns
returns c = pack_is c.args.classes c.well_formed.0.1.0.1 _ c.from.result c.from-2.result c.from.ensures c.from-2.ensures refl
