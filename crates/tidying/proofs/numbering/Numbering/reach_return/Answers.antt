-- `reach_return` meets its contract.
-- Assumes nothing.
use mathlib.Core.Path.{refl, sym, ◌∙◌}
use native.Mathlib.Omega.{arith}
use Rattle.tidying.proofs.All.{all-headed, return_low, return_void, return_type}
use Rattle.tidying.proofs.numbering.Numbering.reach_return.Goals as goal

pub byte_at-returns-requires : goal.byte_at-returns-requires
byte_at-returns-requires c = omega (arith, all-headed c.args.self.now.types.bytes.now c.args.self.now.types.judged)

pub reach-requires : goal.reach-requires
reach-requires c = rw c.byte_at-returns.ensures.0 (return_low c.args.self.now.types.bytes.now c.args.self.now.types.judged (λ e. c.if-returns-ne255.true (c.byte_at-returns.ensures.0 ∙ e)))

pub returns-then-returns-ne255 : goal.returns-then-returns-ne255
returns-then-returns-ne255 c =
    (c.reach.ensures.0, return_type c.args.self.now.types.bytes.now c.args.self.now.originals c.args.self.now.count c.reach.new.self.originals c.reach.new.self.count c.byte_at-returns.result c.byte_at-returns.ensures.0 c.if-returns-ne255.true c.reach.ensures.1.is, λ h. rw c.byte_at-returns.ensures.0 at c.reach.ensures.1.has)

pub returns-else-returns-ne255 : goal.returns-else-returns-ne255
returns-else-returns-ne255 c =
    let e = sym c.byte_at-returns.ensures.0 ∙ c.if-returns-ne255.false in
    (refl, return_void c.args.self.now.types.bytes.now c.args.self.now.originals c.args.self.now.count e, λ h. absurd (h e))
