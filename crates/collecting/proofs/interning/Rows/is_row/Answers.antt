-- By the kind. Assumes nothing.
use Rattle.collecting.proofs.Rows.{same-kinds, same-basic, same-counts, same-array, group-room, same-group}
use Rattle.collecting.proofs.interning.Rows.is_row.Goals as goal

pub returns-then-self-k : goal.returns-then-self-k
returns-then-self-k c = same-kinds c.args.self.now.kinds c.args.self.now.seconds c.args.self.now.counts c.args.self.now.members c.args.self.now.types c.args.k c.args.row.now.kind c.args.row.now.second c.args.row.now.count c.args.row.now.run.now c.args.self.now.standing.held c.requires c.args.row.now.offered.given c.if-self-k.true

pub returns-then-row-eq0 : goal.returns-then-row-eq0
returns-then-row-eq0 c = same-basic c.args.self.now.kinds c.args.self.now.seconds c.args.self.now.counts c.args.self.now.members c.args.self.now.types c.args.k c.args.row.now.kind c.args.row.now.second c.args.row.now.count c.args.row.now.run.now c.args.self.now.standing.held c.requires c.args.row.now.offered.given c.if-self-k.false c.if-row-eq0.true

pub returns-then-self-k-2 : goal.returns-then-self-k-2
returns-then-self-k-2 c = same-counts c.args.self.now.kinds c.args.self.now.seconds c.args.self.now.counts c.args.self.now.members c.args.self.now.types c.args.k c.args.row.now.kind c.args.row.now.second c.args.row.now.count c.args.row.now.run.now c.args.self.now.standing.held c.requires c.args.row.now.offered.given c.if-self-k.false c.if-row-eq0.false c.if-self-k-2.true

pub returns-then-row-eq1 : goal.returns-then-row-eq1
returns-then-row-eq1 c = same-array c.args.self.now.kinds c.args.self.now.seconds c.args.self.now.counts c.args.self.now.members c.args.self.now.types c.args.k c.args.row.now.kind c.args.row.now.second c.args.row.now.count c.args.row.now.run.now c.args.self.now.standing.held c.requires c.args.row.now.offered.given c.if-self-k.false c.if-row-eq1.true c.if-self-k-2.false

pub same_run-requires : goal.same_run-requires
same_run-requires c = group-room c.args.self.now.kinds c.args.self.now.seconds c.args.self.now.counts c.args.self.now.members c.args.self.now.types c.args.k c.args.row.now.kind c.args.row.now.second c.args.row.now.count c.args.row.now.run.now c.args.self.now.standing.held c.requires c.args.row.now.offered.given c.if-self-k.false c.if-row-eq0.false c.if-row-eq1.false c.if-self-k-2.false _ c.from.ensures

pub returns : goal.returns
returns c = same-group c.args.self.now.kinds c.args.self.now.seconds c.args.self.now.counts c.args.self.now.members c.args.self.now.types c.args.k c.args.row.now.kind c.args.row.now.second c.args.row.now.count c.args.row.now.run.now c.args.self.now.standing.held c.requires c.args.row.now.offered.given c.if-self-k.false c.if-row-eq0.false c.if-row-eq1.false c.if-self-k-2.false _ c.from.ensures _ c.same_run.ensures
