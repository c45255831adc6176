-- No row before k is the one that is looked for. Assumes nothing.
use mathlib.Core.Path.{refl, sym, ◌∙◌}
use native.Mathlib.Omega.{arith}
use Rattle.collecting.specs.Arrays.{row_by}
use Rattle.collecting.proofs.Rows.{find-here, none-on, find-end}
use Rattle.collecting.proofs.interning.Rows.find.Goals as goal

pub returns-then-is_row : goal.returns-then-is_row
returns-then-is_row c = (omega arith, sym (find-here c.args.self.now.kinds c.args.self.now.seconds c.args.self.now.counts c.args.self.now.members (row_by c.args.row.now.kind c.args.row.now.second c.args.row.now.count c.args.row.now.run.now) c.args.self.now.types c.loop-k.k c.loop-k-test.true c.loop-k.invariant (sym c.is_row.ensures ∙ c.if-is_row.true)))

pub loop-k-preserved : goal.loop-k-preserved
loop-k-preserved c = none-on c.args.self.now.kinds c.args.self.now.seconds c.args.self.now.counts c.args.self.now.members (row_by c.args.row.now.kind c.args.row.now.second c.args.row.now.count c.args.row.now.run.now) c.loop-k.k c.loop-k.invariant (sym c.is_row.ensures ∙ c.if-is_row.false)

pub returns : goal.returns
returns c = find-end c.args.self.now.kinds c.args.self.now.seconds c.args.self.now.counts c.args.self.now.members (row_by c.args.row.now.kind c.args.row.now.second c.args.row.now.count c.args.row.now.run.now) c.args.self.now.types c.args.self.now.types refl (λ i h. c.loop-k.invariant i (omega (arith, h)))
