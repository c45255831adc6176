-- Written by tools/tightness: each public function of `old_types` meets its contract, and the contract is tight. Assumes nothing.
use Rattle.std.specs.Prelude.{◌≡◌, refl}
use mathlib.Core.Path.{sym, ◌∙◌}
use Rattle.tightness.specs.Tight.{Meets, Tight, TightPart}
use Rattle.tightness.proofs.Laws.{bytes, equal, result, settle}
use Rattle.old_types.specs.contracts.old_extent
use Rattle.old_types.proofs.old_extent.Met as old_extent_met
use Rattle.old_types.proofs.old_extent.Symbol as old_extent_symbol
use Rattle.old_types.specs.contracts.old_run_at
use Rattle.old_types.proofs.old_run_at.Met as old_run_at_met
use Rattle.old_types.proofs.old_run_at.Symbol as old_run_at_symbol
use Rattle.old_types.specs.contracts.old_member_run
use Rattle.old_types.proofs.old_member_run.Met as old_member_run_met
use Rattle.old_types.proofs.old_member_run.Symbol as old_member_run_symbol
use Rattle.old_types.specs.contracts.kept_refusal
use Rattle.old_types.proofs.kept_refusal.Met as kept_refusal_met
use Rattle.old_types.proofs.kept_refusal.Symbol as kept_refusal_symbol
use Rattle.old_types.specs.contracts.judge
use Rattle.old_types.proofs.judge.Met as judge_met
use Rattle.old_types.proofs.judge.Symbol as judge_symbol

pub meets_old_types_old_extent : Meets old_extent.ended (λ M 𝓤 𝓛. old_extent.clauses 𝓛) old_extent_symbol.name old_extent_symbol.code
meets_old_types_old_extent M = old_extent_met.met

pub tight_old_types_old_extent : Tight old_extent.ended (λ M 𝓤 𝓛. old_extent.clauses 𝓛)
tight_old_types_old_extent c r q w v a b = (equal (result old_extent.ended c) a.ensured b.ensured, refl)

pub meets_old_types_old_run_at : Meets old_run_at.ended (λ M 𝓤 𝓛. old_run_at.clauses 𝓛) old_run_at_symbol.name old_run_at_symbol.code
meets_old_types_old_run_at M = old_run_at_met.met

pub tight_old_types_old_run_at : Tight old_run_at.ended (λ M 𝓤 𝓛. old_run_at.clauses 𝓛)
tight_old_types_old_run_at c r q w v a b = (settle (result old_run_at.ended c) a.ensured b.ensured (λ e f. e.0 ∙ sym f.0), refl)

pub meets_old_types_old_member_run : Meets old_member_run.ended (λ M 𝓤 𝓛. old_member_run.clauses 𝓛) old_member_run_symbol.name old_member_run_symbol.code
meets_old_types_old_member_run M = old_member_run_met.met

pub tight_old_types_old_member_run : TightPart old_member_run.ended (λ c r. r.now) (λ M 𝓤 𝓛. old_member_run.clauses 𝓛)
tight_old_types_old_member_run c r q w v a b = (equal bytes a.ensured b.ensured, refl)

pub meets_old_types_kept_refusal : Meets kept_refusal.ended (λ M 𝓤 𝓛. kept_refusal.clauses 𝓛) kept_refusal_symbol.name kept_refusal_symbol.code
meets_old_types_kept_refusal M = kept_refusal_met.met

pub tight_old_types_kept_refusal : Tight kept_refusal.ended (λ M 𝓤 𝓛. kept_refusal.clauses 𝓛)
tight_old_types_kept_refusal c r q w v a b = (equal (result kept_refusal.ended c) a.ensured b.ensured, refl)

pub meets_old_types_judge : Meets judge.ended (λ M 𝓤 𝓛. judge.clauses 𝓛) judge_symbol.name judge_symbol.code
meets_old_types_judge M = judge_met.met

pub tight_old_types_judge : Tight judge.ended (λ M 𝓤 𝓛. judge.clauses 𝓛)
tight_old_types_judge c r q w v a b = (settle (result judge.ended c) a.ensured b.ensured (λ e f. e.0 ∙ sym f.0), λ i. (tt, (same_table i, tt)))
  where
    same_table : w.1.0 ≡ v.1.0
    same_table = settle bytes a.ensured b.ensured (λ e f. e.1 ∙ sym f.1)
