-- Written by tools/tightness: each public function of `uses` meets its contract, and the contract is tight. Assumes nothing.
use Rattle.std.specs.Prelude.{◌≡◌, refl}
use mathlib.Core.Path.{sym, ◌∙◌}
use Rattle.tightness.specs.Tight.{Meets, Tight}
use Rattle.tightness.proofs.Laws.{bytes, equal, result, settle}
use Rattle.uses.specs.contracts.judge_passing
use Rattle.uses.proofs.judge_passing.Met as judge_passing_met
use Rattle.uses.proofs.judge_passing.Symbol as judge_passing_symbol
use Rattle.uses.specs.contracts.judge
use Rattle.uses.proofs.judge.Met as judge_met
use Rattle.uses.proofs.judge.Symbol as judge_symbol

pub meets_uses_judge_passing : Meets judge_passing.ended (λ M 𝓤 𝓛. judge_passing.clauses 𝓛) judge_passing_symbol.name judge_passing_symbol.code
meets_uses_judge_passing M = judge_passing_met.met

pub tight_uses_judge_passing : Tight judge_passing.ended (λ M 𝓤 𝓛. judge_passing.clauses 𝓛)
tight_uses_judge_passing c r q w v a b = (equal (result judge_passing.ended c) a.ensured b.ensured, refl)

pub meets_uses_judge : Meets judge.ended (λ M 𝓤 𝓛. judge.clauses 𝓛) judge_symbol.name judge_symbol.code
meets_uses_judge M = judge_met.met

pub tight_uses_judge : Tight judge.ended (λ M 𝓤 𝓛. judge.clauses 𝓛)
tight_uses_judge c r q w v a b = (settle (result judge.ended c) a.ensured b.ensured (λ e f. e.0 ∙ sym f.0), λ i. (tt, (same_table i, tt)))
  where
    same_table : w.1.0 ≡ v.1.0
    same_table = settle bytes a.ensured b.ensured (λ e f. e.1 ∙ sym f.1)
