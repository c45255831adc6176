-- Written by tools/tightness: each public function of `by_plan` meets its contract, and the contract is tight. Assumes nothing.
use Rattle.std.specs.Prelude.{◌≡◌}
use mathlib.Core.Path.{sym, ◌∙◌}
use Rattle.tightness.specs.Tight.{Meets, Tight}
use Rattle.tightness.proofs.Laws.{bytes, result, settle}
use Rattle.by_plan.specs.contracts.gather_by_plan
use Rattle.by_plan.proofs.gather_by_plan.Met as gather_by_plan_met
use Rattle.by_plan.proofs.gather_by_plan.Symbol as gather_by_plan_symbol
use Rattle.by_plan.specs.contracts.place_by_plan
use Rattle.by_plan.proofs.place_by_plan.Met as place_by_plan_met
use Rattle.by_plan.proofs.place_by_plan.Symbol as place_by_plan_symbol
use Rattle.by_plan.specs.contracts.put_by_plan
use Rattle.by_plan.proofs.put_by_plan.Met as put_by_plan_met
use Rattle.by_plan.proofs.put_by_plan.Symbol as put_by_plan_symbol
use Rattle.by_plan.specs.contracts.take_by_plan
use Rattle.by_plan.proofs.take_by_plan.Met as take_by_plan_met
use Rattle.by_plan.proofs.take_by_plan.Symbol as take_by_plan_symbol

pub meets_by_plan_gather_by_plan : Meets gather_by_plan.ended (λ M 𝓤 𝓛. gather_by_plan.clauses 𝓛) gather_by_plan_symbol.name gather_by_plan_symbol.code
meets_by_plan_gather_by_plan M = gather_by_plan_met.met

pub tight_by_plan_gather_by_plan : Tight gather_by_plan.ended (λ M 𝓤 𝓛. gather_by_plan.clauses 𝓛)
tight_by_plan_gather_by_plan c r q w v a b = (settle (result gather_by_plan.ended c) a.ensured b.ensured (λ e f. e.0 ∙ sym f.0), λ i. (tt, (tt, (same_values i, tt))))
  where
    same_values : w.1.1.0 ≡ v.1.1.0
    same_values = settle bytes a.ensured b.ensured (λ e f. e.1 ∙ sym f.1)

pub meets_by_plan_place_by_plan : Meets place_by_plan.ended (λ M 𝓤 𝓛. place_by_plan.clauses 𝓛) place_by_plan_symbol.name place_by_plan_symbol.code
meets_by_plan_place_by_plan M = place_by_plan_met.met

pub tight_by_plan_place_by_plan : Tight place_by_plan.ended (λ M 𝓤 𝓛. place_by_plan.clauses 𝓛)
tight_by_plan_place_by_plan c r q w v a b = (settle (result place_by_plan.ended c) a.ensured b.ensured (λ e f. e.0 ∙ sym f.0), λ i. (tt, (tt, (tt, (same_image i, tt)))))
  where
    same_image : w.1.1.1.0 ≡ v.1.1.1.0
    same_image = settle bytes a.ensured b.ensured (λ e f. e.1 ∙ sym f.1)

pub meets_by_plan_put_by_plan : Meets put_by_plan.ended (λ M 𝓤 𝓛. put_by_plan.clauses 𝓛) put_by_plan_symbol.name put_by_plan_symbol.code
meets_by_plan_put_by_plan M = put_by_plan_met.met

pub tight_by_plan_put_by_plan : Tight put_by_plan.ended (λ M 𝓤 𝓛. put_by_plan.clauses 𝓛)
tight_by_plan_put_by_plan c r q w v a b = (settle (result put_by_plan.ended c) a.ensured b.ensured (λ e f. e.0 ∙ sym f.0), λ i. (tt, (tt, (tt, (same_image i, tt)))))
  where
    same_image : w.1.1.1.0 ≡ v.1.1.1.0
    same_image = settle bytes a.ensured b.ensured (λ e f. e.1 ∙ sym f.1)

pub meets_by_plan_take_by_plan : Meets take_by_plan.ended (λ M 𝓤 𝓛. take_by_plan.clauses 𝓛) take_by_plan_symbol.name take_by_plan_symbol.code
meets_by_plan_take_by_plan M = take_by_plan_met.met

pub tight_by_plan_take_by_plan : Tight take_by_plan.ended (λ M 𝓤 𝓛. take_by_plan.clauses 𝓛)
tight_by_plan_take_by_plan c r q w v a b = (settle (result take_by_plan.ended c) a.ensured b.ensured (λ e f. e.0 ∙ sym f.0), λ i. (tt, (tt, (same_value i, tt))))
  where
    same_value : w.1.1.0 ≡ v.1.1.0
    same_value = settle bytes a.ensured b.ensured (λ e f. e.1 ∙ sym f.1)
