-- `lowest` meets its contract. The invariant: what two tables reach from `at` alike they reach from k alike.
-- Assumes nothing.
use Rattle.tidying.specs.Asks.{AskNew}
use Rattle.tidying.proofs.Completing.{Through}
use Rattle.tidying.proofs.numbering.Numbering.lowest.Given as goal

abbrev pub invariant-loop-part : goal.invariant-loop-part
invariant-loop-part l = AskNew l.self.types.bytes.now l.self.numbers l.at × Through l.self.types.bytes.now l.self.numbers l.k l.at

abbrev pub decreases-loop-part : goal.decreases-loop-part
decreases-loop-part l = l.at
