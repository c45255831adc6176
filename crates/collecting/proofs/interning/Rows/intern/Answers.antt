-- Found, refused or added. Assumes nothing.
use mathlib.Core.Path.{sym, ◌∙◌}
use lib.ListN.{length}
use Rattle.collecting.proofs.Adding.{intern-found, intern-crowded, intern-added, crowded_low, crowded_fits}
use Rattle.collecting.proofs.interning.Rows.intern.Goals as goal

pub returns-in-Some-clause-kept : goal.returns-in-Some-clause-kept
returns-in-Some-clause-kept c = intern-found c.args.self.now.kinds c.args.self.now.seconds c.args.self.now.counts c.args.self.now.members c.args.self.now.types c.args.self.now.used c.args.row.now.kind c.args.row.now.second c.args.row.now.count c.args.row.now.run.now c.args.self.now.standing c.args.row.now.offered c.in-Some.k c.in-Some.ensures.1 c.in-Some.ensures.0

pub returns-then-crowded-clause-kept : goal.returns-then-crowded-clause-kept
returns-then-crowded-clause-kept c = intern-crowded c.args.self.now.kinds c.args.self.now.seconds c.args.self.now.counts c.args.self.now.members c.args.self.now.types c.args.self.now.used c.args.row.now.kind c.args.row.now.second c.args.row.now.count c.args.row.now.run.now c.args.self.now.standing c.args.row.now.offered c.in_default.ensures (sym c.crowded.ensures ∙ c.if-crowded.true)

pub add-requires : goal.add-requires
add-requires c =
    let room = sym c.crowded.ensures ∙ c.if-crowded.false in
    (crowded_low c.args.self.now.types c.args.self.now.used (length c.args.row.now.run.now) room, crowded_fits c.args.self.now.types c.args.self.now.used (length c.args.row.now.run.now) room)

pub returns-clause-kept : goal.returns-clause-kept
returns-clause-kept c = intern-added c.args.self.now.kinds c.args.self.now.seconds c.args.self.now.counts c.args.self.now.members c.args.self.now.types c.args.self.now.used c.args.row.now.kind c.args.row.now.second c.args.row.now.count c.args.row.now.run.now c.args.self.now.standing c.args.row.now.offered c.in_default.ensures (sym c.crowded.ensures ∙ c.if-crowded.false) _ c.add.ensures.1
