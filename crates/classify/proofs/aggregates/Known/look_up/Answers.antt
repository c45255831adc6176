-- `look_up` meets its contract.
-- Assumes nothing.
use mathlib.Core.Path.{refl, ap, ◌∙◌}
use Prim.Native.Nat.{ℕ, ◌+◌, ◌*◌, ◌%◌}
use native.Mathlib.Omega.{arith}
use lib.ListN.{get_or}
use Rattle.classify.specs.Table.{pair_in}
use Rattle.classify.proofs.Known.{ready_less, look_first, look_low, look_high, look_finished}
use Rattle.classify.proofs.aggregates.Known.look_up.Goals as goal

pub returns-then-offset-eq0 : goal.returns-then-offset-eq0
returns-then-offset-eq0 c = ap pair_in c.packed-packed.ensures.number ∙ look_first c.args.self.d.now c.args.self.table.now c.args.self.finished.now c.args.k c.args.at.0 c.requires.0 (ready_less _ _ _ _ (c.args.k + 1) c.args.self.ready (omega (arith, c.requires.1))) _ refl c.if-offset-eq0.true

pub returns-then-offset-ge8 : goal.returns-then-offset-ge8
returns-then-offset-ge8 c = ap (λ (x : ℕ). pair_in (64 + 8 * x)) (c.first.ensures ∙ ap (λ (x : ℕ). x % 8) c.packed-packed.ensures.number) ∙ look_high c.args.self.d.now c.args.self.table.now c.args.self.finished.now c.args.k c.args.at.0 c.requires.0 (ready_less _ _ _ _ (c.args.k + 1) c.args.self.ready (omega (arith, c.requires.1))) _ refl c.if-offset-ge8.true

pub returns-then-offset-extent_in-le8 : goal.returns-then-offset-extent_in-le8
returns-then-offset-extent_in-le8 c = ap pair_in c.packed-packed.ensures.number ∙ look_low c.args.self.d.now c.args.self.table.now c.args.self.finished.now c.args.k c.args.at.0 c.requires.0 (ready_less _ _ _ _ (c.args.k + 1) c.args.self.ready (omega (arith, c.requires.1))) _ refl (omega (arith, c.extent_in.ensures.size, c.if-offset-extent_in-le8.true))

pub returns-in_default : goal.returns-in_default
returns-in_default c = look_finished c.args.self.d.now c.args.self.table.now c.args.self.finished.now c.args.self.types c.args.k c.args.at.0 c.args.self.ready (omega (arith, c.if-offset-ge8.false)) (get_or c.args.self.finished.now (8 * c.args.k + c.args.at.0) 0) refl (omega arith)
