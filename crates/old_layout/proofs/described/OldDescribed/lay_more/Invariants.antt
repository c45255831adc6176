-- `lay_more` meets its contract. The invariant: before argument i, offset and values are those of the layout there.
-- Assumes nothing.
use mathlib.Core.Path.{◌≡◌}
use Rattle.intel386.specs.Arguments.{used_at, value_start}
use Rattle.old_layout.proofs.described.OldDescribed.lay_more.Given as goal

abbrev pub invariant-loop-i : goal.invariant-loop-i
invariant-loop-i l = (l.offset.0 ≡ (used_at l.self.bytes.now l.i).stack.0) × (l.values.0 ≡ value_start l.self.bytes.now l.i)
