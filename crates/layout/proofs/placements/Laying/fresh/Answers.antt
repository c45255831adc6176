use Rattle.layout.specs.Placements.{laying_fresh}
use Rattle.layout.proofs.placements.Laying.fresh.Goals as goal

pub returns : goal.returns
unfolding laying_fresh
returns c = λ i. record { used = c.fresh.ensures i; values = record { 0 = 0 } }
