-- `fill_classes` meets its contract. The invariant: each answer that is finished is right, and the entries of the types passed have their classes.
-- Assumes nothing.
use mathlib.Core.Path.{◌≡◌}
use Rattle.classify.specs.Table.{Right, full_entry}
use Rattle.types.specs.Table.{filled}
use Rattle.classify.proofs.class_table.fill_classes.Given as goal

abbrev pub invariant-loop-k : goal.invariant-loop-k
invariant-loop-k l = Right l.d l.finished × (l.table ≡ filled (full_entry l.d) l.k l.initial.table)
