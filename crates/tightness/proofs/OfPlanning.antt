-- Written by tools/tightness: each public function of `planning` meets its contract, and the contract is tight. Assumes nothing.
use Rattle.std.specs.Prelude.{◌≡◌}
use mathlib.Core.Path.{sym, ◌∙◌}
use Rattle.tightness.specs.Tight.{Meets, Tight}
use Rattle.tightness.proofs.Laws.{bytes, result, settle}
use Rattle.planning.specs.contracts.plan_of
use Rattle.planning.proofs.plan_of.Met as plan_of_met
use Rattle.planning.proofs.plan_of.Symbol as plan_of_symbol

pub meets_planning_plan_of : Meets plan_of.ended (λ M 𝓤 𝓛. plan_of.clauses 𝓛) plan_of_symbol.name plan_of_symbol.code
meets_planning_plan_of M = plan_of_met.met

pub tight_planning_plan_of : Tight plan_of.ended (λ M 𝓤 𝓛. plan_of.clauses 𝓛)
tight_planning_plan_of c r q w v a b = (settle (result plan_of.ended c) a.ensured b.ensured (λ e f. e.0 ∙ sym f.0), λ i. (tt, (same_plan i, tt)))
  where
    same_plan : w.1.0 ≡ v.1.0
    same_plan = settle bytes a.ensured b.ensured (λ e f. e.1 ∙ sym f.1)
