-- `of_different` meets its contract.
-- Assumes nothing.
use mathlib.Core.Path.{◌∙◌}
use Prim.Native.Nat.{ℕ}
use native.Mathlib.Omega.{arith}
use Rattle.std.proofs.Common.{length-take-le}
use Rattle.std.proofs.lemmas.List.{get_or-take}
use Rattle.classify.specs.Table.{pair_in}
use Rattle.classify.proofs.Packed.{none-packed}
use Rattle.classify.proofs.Skips.{listed-none, listed-done}
use Rattle.classify.proofs.aggregates.Known.of_different.Goals as goal

pub loop-member-init : goal.loop-member-init
loop-member-init c = none-packed ∙ listed-none c.args.self.d.now c.args.different.now.members c.args.at.0

pub loop-member-preserved : goal.loop-member-preserved
loop-member-preserved c = listed-done c.args.self.d.now c.args.different.now.members c.loop-member.member-index c.args.at.0 c.from.result (pair_in c.loop-member.merged.0) (pair_in c.at.result.0) (pair_in c.merged-merged.result.0) (c.from.ensures ∙ get_or-take c.args.different.now.count c.args.different.now.members c.loop-member.member-index 0 (omega (arith, c.loop-member-test.true, length-take-le {A = ℕ}))) c.loop-member.invariant c.at.ensures c.merged-merged.ensures
