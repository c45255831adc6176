-- Written by tools/tightness: each public function of `returning` meets its contract, and the contract is tight. Assumes nothing.
use Rattle.std.specs.Prelude.{◌≡◌, refl}
use mathlib.Core.Path.{sym, ◌∙◌}
use Rattle.tightness.specs.Tight.{Meets, Tight}
use Rattle.tightness.proofs.Laws.{bytes, equal, result, settle}
use Rattle.returning.specs.contracts.put_returned
use Rattle.returning.proofs.put_returned.Met as put_returned_met
use Rattle.returning.proofs.put_returned.Symbol as put_returned_symbol
use Rattle.returning.specs.contracts.take_returned
use Rattle.returning.proofs.take_returned.Met as take_returned_met
use Rattle.returning.proofs.take_returned.Symbol as take_returned_symbol
use Rattle.returning.specs.contracts.length_for
use Rattle.returning.proofs.length_for.Met as length_for_met
use Rattle.returning.proofs.length_for.Symbol as length_for_symbol
use Rattle.returning.specs.contracts.parts_of
use Rattle.returning.proofs.parts_of.Met as parts_of_met
use Rattle.returning.proofs.parts_of.Symbol as parts_of_symbol

pub meets_returning_put_returned : Meets put_returned.ended (λ M 𝓤 𝓛. put_returned.clauses 𝓛) put_returned_symbol.name put_returned_symbol.code
meets_returning_put_returned M = put_returned_met.met

pub tight_returning_put_returned : Tight put_returned.ended (λ M 𝓤 𝓛. put_returned.clauses 𝓛)
tight_returning_put_returned c r q w v a b = (settle (result put_returned.ended c) a.ensured b.ensured (λ e f. e.0 ∙ sym f.0), λ i. (tt, (tt, (tt, (same_image i, (same_upper i, tt))))))
  where
    same_image : w.1.1.1.0 ≡ v.1.1.1.0
    same_image = settle bytes a.ensured b.ensured (λ e f. e.1.0 ∙ sym f.1.0)

    same_upper : w.1.1.1.1.0 ≡ v.1.1.1.1.0
    same_upper = settle bytes a.ensured b.ensured (λ e f. e.1.1 ∙ sym f.1.1)

pub meets_returning_take_returned : Meets take_returned.ended (λ M 𝓤 𝓛. take_returned.clauses 𝓛) take_returned_symbol.name take_returned_symbol.code
meets_returning_take_returned M = take_returned_met.met

pub tight_returning_take_returned : Tight take_returned.ended (λ M 𝓤 𝓛. take_returned.clauses 𝓛)
tight_returning_take_returned c r q w v a b = (settle (result take_returned.ended c) a.ensured b.ensured (λ e f. e.0 ∙ sym f.0), λ i. (tt, (tt, (tt, (same_value i, tt)))))
  where
    same_value : w.1.1.1.0 ≡ v.1.1.1.0
    same_value = settle bytes a.ensured b.ensured (λ e f. e.1 ∙ sym f.1)

pub meets_returning_length_for : Meets length_for.ended (λ M 𝓤 𝓛. length_for.clauses 𝓛) length_for_symbol.name length_for_symbol.code
meets_returning_length_for M = length_for_met.met

pub tight_returning_length_for : Tight length_for.ended (λ M 𝓤 𝓛. length_for.clauses 𝓛)
tight_returning_length_for c r q w v a b = (settle (result length_for.ended c) a.ensured b.ensured (λ e f i. record { 0 = (e ∙ sym f) i }), refl)

pub meets_returning_parts_of : Meets parts_of.ended (λ M 𝓤 𝓛. parts_of.clauses 𝓛) parts_of_symbol.name parts_of_symbol.code
meets_returning_parts_of M = parts_of_met.met

pub tight_returning_parts_of : Tight parts_of.ended (λ M 𝓤 𝓛. parts_of.clauses 𝓛)
tight_returning_parts_of c r q w v a b = (equal (result parts_of.ended c) a.ensured b.ensured, refl)
