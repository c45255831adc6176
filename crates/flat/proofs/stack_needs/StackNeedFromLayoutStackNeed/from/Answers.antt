-- Field by field. Assumes nothing.
use Rattle.std.proofs.Common.{rules}
use Rattle.flat.specs.StackNeeds.{flat_need}
use Rattle.flat.proofs.stack_needs.StackNeedFromLayoutStackNeed.from.Goals as goal

pub returns : goal.returns
unfolding flat_need
returns c = search rules
