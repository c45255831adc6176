-- `new` meets its contract: no type has a number.
-- Assumes nothing.
use mathlib.Core.Path.{refl}
use lib.ListN.{get_or-replicate}
use Rattle.tidying.proofs.All.{all_none}
use Rattle.tidying.proofs.numbering.Numbering.new.Goals as goal

pub invariant_of-result : goal.invariant_of-result
invariant_of-result c = record { right = all_none c.args.types.bytes.now c.args.types.judged _ _ refl refl (λ k l. get_or-replicate 64 k 255 0 l) }
