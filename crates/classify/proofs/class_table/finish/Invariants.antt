-- `finish` meets its contract. The invariant: each answer that is there is right.
-- Assumes nothing.
use Prim.Native.Nat.{◌-◌}
use Rattle.classify.specs.Table.{Right}
use Rattle.classify.proofs.class_table.finish.Given as goal

abbrev pub invariant-loop-at : goal.invariant-loop-at
invariant-loop-at l = Right l.d l.finished

abbrev pub decreases-loop-at : goal.decreases-loop-at
decreases-loop-at l = 8 - l.at
