-- Written by tools/tightness: each public function of `tidying` meets its contract, and the contract is tight. Assumes nothing.
use Rattle.std.specs.Prelude.{◌≡◌, refl}
use mathlib.Core.Path.{sym, ◌∙◌}
use Rattle.tightness.specs.Tight.{Meets, Tight}
use Rattle.tightness.proofs.Laws.{bytes, equal, result, settle}
use Rattle.tidying.specs.contracts.tidy_length
use Rattle.tidying.proofs.tidy_length.Met as tidy_length_met
use Rattle.tidying.proofs.tidy_length.Symbol as tidy_length_symbol
use Rattle.tidying.specs.contracts.tidy
use Rattle.tidying.proofs.tidy.Met as tidy_met
use Rattle.tidying.proofs.tidy.Symbol as tidy_symbol

pub meets_tidying_tidy_length : Meets tidy_length.ended (λ M 𝓤 𝓛. tidy_length.clauses 𝓛) tidy_length_symbol.name tidy_length_symbol.code
meets_tidying_tidy_length M = tidy_length_met.met

pub tight_tidying_tidy_length : Tight tidy_length.ended (λ M 𝓤 𝓛. tidy_length.clauses 𝓛)
tight_tidying_tidy_length c r q w v a b = (equal (result tidy_length.ended c) a.ensured b.ensured, refl)

pub meets_tidying_tidy : Meets tidy.ended (λ M 𝓤 𝓛. tidy.clauses 𝓛) tidy_symbol.name tidy_symbol.code
meets_tidying_tidy M = tidy_met.met

pub tight_tidying_tidy : Tight tidy.ended (λ M 𝓤 𝓛. tidy.clauses 𝓛)
tight_tidying_tidy c r q w v a b = (settle (result tidy.ended c) a.ensured b.ensured (λ e f. e.0 ∙ sym f.0), λ i. (tt, (same_out i, tt)))
  where
    same_out : w.1.0 ≡ v.1.0
    same_out = settle bytes a.ensured b.ensured (λ e f. e.1 ∙ sym f.1)
