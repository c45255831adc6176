-- The symbol is the topmost that takes the token. Assumes nothing.
use mathlib.Core.Path.{◌≡◌, sym, ◌∙◌}
use Prim.Native.Nat.{suc, ◌-◌}
use native.Mathlib.Omega.{arith}
use Rattle.reading.proofs.Takers.{counted-some, counted-none, takes-here, takes_none, takes-below, takes-done}
use Rattle.grammar.specs.Prototype.{declarations}
use Rattle.reading.proofs.symbols.Symbols.taker.Goals as goal

pub returns-then-is_some : goal.returns-then-is_some
returns-then-is_some c =
    let z : suc (c.loop-place.place - 1) ≡ c.loop-place.place = omega arith in
    (z ∙ sym (takes-here declarations _ _ _ _ c.loop-place-test.true c.rule.ensures.0 (counted-some _ _ c.is_some.ensures c.if-is_some.true)) ∙ c.loop-place.invariant.0, omega arith)

pub returns-then-not-may_lack : goal.returns-then-not-may_lack
returns-then-not-may_lack c =
    (sym (takes_none declarations _ _ _ _ _ c.loop-place-test.true c.rule.ensures.0 (counted-none _ _ c.is_some.ensures c.if-is_some.false) c.may_lack.ensures c.if-not-may_lack.true) ∙ c.loop-place.invariant.0, omega arith)

pub loop-place-preserved : goal.loop-place-preserved
loop-place-preserved c =
    (sym (takes-below declarations _ _ _ _ _ c.loop-place-test.true c.rule.ensures.0 (counted-none _ _ c.is_some.ensures c.if-is_some.false) c.may_lack.ensures c.if-not-may_lack.false) ∙ c.loop-place.invariant.0, omega arith)

pub returns : goal.returns
returns c = (takes-done declarations _ _ _ _ c.loop-place.invariant.0 (omega arith), omega arith)
