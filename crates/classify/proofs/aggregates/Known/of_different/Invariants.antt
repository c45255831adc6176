-- `of_different` meets its contract. The invariant: the classes so far are those of the types passed.
-- Assumes nothing.
use mathlib.Core.Path.{◌≡◌}
use Rattle.classify.specs.Table.{pair_in, listed_at}
use Rattle.classify.proofs.aggregates.Known.of_different.Given as goal

abbrev pub invariant-loop-member : goal.invariant-loop-member
invariant-loop-member l = pair_in l.merged.0 ≡ listed_at l.self.d.now l.different.members l.member-index l.at.0
