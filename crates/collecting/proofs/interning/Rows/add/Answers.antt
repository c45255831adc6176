-- The rows before stay, and the last is the new one. Assumes nothing.
use mathlib.Core.Path.{refl}
use Rattle.collecting.proofs.Adding.{rows-added, standing-added}
use Rattle.collecting.proofs.interning.Rows.add.Goals as goal

pub invariant_of-self : goal.invariant_of-self
invariant_of-self c = record { standing = standing-added c.args.self.now.kinds c.args.self.now.seconds c.args.self.now.counts c.args.self.now.members c.args.self.now.types c.args.self.now.used c.args.row.now.kind c.args.row.now.second c.args.row.now.count c.args.row.now.run.now c.args.self.now.standing c.args.row.now.offered c.requires.0 c.requires.1 _ c.second_of-second.ensures _ c.copy_run.ensures.0 c.copy_run.ensures.1 }

pub returns : goal.returns
returns c = (refl, rows-added c.args.self.now.kinds c.args.self.now.seconds c.args.self.now.counts c.args.self.now.members c.args.self.now.types c.args.self.now.used c.args.row.now.kind c.args.row.now.second c.args.row.now.count c.args.row.now.run.now c.args.self.now.standing c.args.row.now.offered c.requires.0 c.requires.1 _ c.second_of-second.ensures _ c.copy_run.ensures.0 c.copy_run.ensures.1)
