-- No move before, another source, or another target.
-- Assumes nothing.
use mathlib.Core.Path.{ap₂}
use mathlib.Core.Bool.{false≢true}
use mathlib.Core.Path.{sym, ap, ◌∙◌}
use Prim.Native.Nat.{◌+◌, ℕ}
use native.Mathlib.Omega.{arith}
use lib.Dec.{eqb}
use Rattle.planning.proofs.Joins.{goes_none, goes-not, goes-if, goes-room}
use Rattle.planning.proofs.joining.goes_on.Goals as goal

pub returns-then-count-eq0 : goal.returns-then-count-eq0
returns-then-count-eq0 c = (goes_none c.args.moves.now c.args.count c.args.source c.args.target c.if-count-eq0.true, λ z. absurd (false≢true z))

pub returns-then-number_at-bytes : goal.returns-then-number_at-bytes
returns-then-number_at-bytes c = (goes-not c.args.moves.now c.args.count c.args.source c.args.target (omega (arith, c.if-count-eq0.false)) (λ z. c.if-number_at-bytes.true (ap₂ ◌+◌ c.number_at.ensures.0 c.number_at-bytes.ensures.0 ∙ z)), λ z. absurd (false≢true z))

pub returns : goal.returns
returns c = (ap (λ (n : ℕ). eqb n c.args.target) (ap₂ ◌+◌ c.number_at-2.ensures.0 c.number_at-bytes.ensures.0) ∙ goes-if c.args.moves.now c.args.count c.args.source c.args.target (omega (arith, c.if-count-eq0.false)) (sym (ap₂ ◌+◌ c.number_at.ensures.0 c.number_at-bytes.ensures.0) ∙ c.if-number_at-bytes.false), λ z. goes-room c.args.moves.now c.args.count c.args.source c.args.target (omega (arith, c.if-count-eq0.false)) (sym (ap₂ ◌+◌ c.number_at.ensures.0 c.number_at-bytes.ensures.0) ∙ c.if-number_at-bytes.false))
