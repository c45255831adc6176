-- The symbols of the alternative stand where the symbol stood that takes the token. Assumes nothing.
use mathlib.Core.Path.{◌≡◌, refl, ap, ◌∙◌}
use Prim.Native.Nat.{ℕ, suc, ◌-◌}
use native.Mathlib.Omega.{arith}
use lib.ListN.{get_or}
use Rattle.reading.proofs.Takers.{leads_nowhere, taken-rule, leads_on}
use Rattle.grammar.specs.Prototype.{declarations}
use Rattle.reading.proofs.symbols.Symbols.lead.Goals as goal

pub returns-in_default : goal.returns-in_default
returns-in_default c = (leads_nowhere declarations _ _ _ 0 _ _ c.in_default.ensures.0 refl, omega arith)

pub returns-in_default-rule : goal.returns-in_default-rule
returns-in_default-rule c =
    let z : suc c.in-Some.place - 1 ≡ c.in-Some.place = omega arith in
    absurd (taken-rule declarations c.args.self.now.cells c.args.k c.args.self.now.depth (suc c.in-Some.place) 0 c.in-Some.ensures.0 (λ q. omega arith) (ap (λ (x : ℕ). declarations.rule (get_or c.args.self.now.cells x 0) c.args.k) z ∙ c.in_default-rule.ensures.0) refl)

pub returns : goal.returns
returns c =
    let z : suc c.in-Some.place - 1 ≡ c.in-Some.place = omega arith in
    let y : suc c.in-Some-rule.p - 1 ≡ c.in-Some-rule.p = omega arith in (
      leads_on declarations c.args.self.now.cells c.args.k c.args.self.now.depth (suc c.in-Some.place) (suc c.in-Some-rule.p) _ _ c.in-Some.ensures.0 (λ q. omega arith) (ap (λ (x : ℕ). declarations.rule (get_or c.args.self.now.cells x 0) c.args.k) z ∙ c.in-Some-rule.ensures.0) (λ q. omega arith) (rw (z, y) c.push.ensures.0),
      omega (arith, c.push.ensures.1, c.in-Some.ensures.1),
    )
