use mathlib.Core.Path.{sym, ap, ◌∙◌}
use Prim.Native.Nat.{ℕ, ◌+◌}
use native.Mathlib.Omega.{arith}
use lib.Dec.{eqb}
use lib.ListN.{get_or}
use Rattle.form.proofs.Search.{search_stop, search_on, search_end}
use Rattle.tidying.specs.Asks.{unnumbered}
use Rattle.tidying.proofs.numbering.Numbering.first_new.Goals as goal

pub returns-then-is_new : goal.returns-then-is_new
returns-then-is_new c = (
  sym (sym c.loop-at.invariant ∙ search_stop (unnumbered c.args.self.now.types.bytes.now c.args.self.now.numbers) c.loop-at.at (c.args.first + c.args.count) (omega arith)
      (ap (λ (x : ℕ). eqb (get_or c.args.self.now.numbers x 0) 255) (sym c.member_at.ensures) ∙ sym c.is_new.ensures ∙ c.if-is_new.true)),
  omega arith,
)

pub loop-at-preserved : goal.loop-at-preserved
loop-at-preserved c =
    search_on (unnumbered c.args.self.now.types.bytes.now c.args.self.now.numbers) c.loop-at.at (c.args.first + c.args.count) (omega arith)
    (ap (λ (x : ℕ). eqb (get_or c.args.self.now.numbers x 0) 255) (sym c.member_at.ensures) ∙ sym c.is_new.ensures ∙ c.if-is_new.false) ∙ c.loop-at.invariant

pub returns : goal.returns
returns c = omega (arith, sym c.loop-at.invariant ∙ search_end (unnumbered c.args.self.now.types.bytes.now c.args.self.now.numbers) c.loop-at.at (c.args.first + c.args.count) (omega arith))
