-- Written by tools/tightness: each public function of `old_layout` meets its contract, and the contract is tight. Assumes nothing.
use Rattle.std.specs.Prelude.{◌≡◌, refl}
use mathlib.Core.Path.{sym, ◌∙◌}
use Rattle.tightness.specs.Tight.{Meets, Tight}
use Rattle.tightness.proofs.Laws.{bytes, equal, result, settle}
use Rattle.old_layout.specs.contracts.old_layout_with
use Rattle.old_layout.proofs.old_layout_with.Met as old_layout_with_met
use Rattle.old_layout.proofs.old_layout_with.Symbol as old_layout_with_symbol
use Rattle.old_layout.specs.contracts.old_layout_of
use Rattle.old_layout.proofs.old_layout_of.Met as old_layout_of_met
use Rattle.old_layout.proofs.old_layout_of.Symbol as old_layout_of_symbol
use Rattle.old_layout.specs.contracts.old_check
use Rattle.old_layout.proofs.old_check.Met as old_check_met
use Rattle.old_layout.proofs.old_check.Symbol as old_check_symbol

pub meets_old_layout_old_layout_with : Meets old_layout_with.ended (λ M 𝓤 𝓛. old_layout_with.clauses 𝓛) old_layout_with_symbol.name old_layout_with_symbol.code
meets_old_layout_old_layout_with M = old_layout_with_met.met

pub tight_old_layout_old_layout_with : Tight old_layout_with.ended (λ M 𝓤 𝓛. old_layout_with.clauses 𝓛)
tight_old_layout_old_layout_with c r q w v a b = (settle (result old_layout_with.ended c) a.ensured b.ensured (λ e f. e.0 ∙ sym f.0), λ i. (tt, (same_table i, tt)))
  where
    same_table : w.1.0 ≡ v.1.0
    same_table = settle bytes a.ensured b.ensured (λ e f. e.1 ∙ sym f.1)

pub meets_old_layout_old_layout_of : Meets old_layout_of.ended (λ M 𝓤 𝓛. old_layout_of.clauses 𝓛) old_layout_of_symbol.name old_layout_of_symbol.code
meets_old_layout_old_layout_of M = old_layout_of_met.met

pub tight_old_layout_old_layout_of : Tight old_layout_of.ended (λ M 𝓤 𝓛. old_layout_of.clauses 𝓛)
tight_old_layout_old_layout_of c r q w v a b = (equal (result old_layout_of.ended c) a.ensured b.ensured, refl)

pub meets_old_layout_old_check : Meets old_check.ended (λ M 𝓤 𝓛. old_check.clauses 𝓛) old_check_symbol.name old_check_symbol.code
meets_old_layout_old_check M = old_check_met.met

pub tight_old_layout_old_check : Tight old_check.ended (λ M 𝓤 𝓛. old_check.clauses 𝓛)
tight_old_layout_old_check c r q w v a b = (equal (result old_check.ended c) a.ensured b.ensured, refl)
