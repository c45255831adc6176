-- Written by tools/tightness: each public function of `addresses` meets its contract, and the contract is tight. Assumes nothing.
use Rattle.std.specs.Prelude.{◌≡◌, refl}
use Rattle.tightness.specs.Tight.{Meets, Tight}
use Rattle.tightness.proofs.Laws.{bytes, equal}
use Rattle.addresses.specs.contracts.copy
use Rattle.addresses.proofs.copy.Met as copy_met
use Rattle.addresses.proofs.copy.Symbol as copy_symbol
use Rattle.addresses.specs.contracts.clear
use Rattle.addresses.proofs.clear.Met as clear_met
use Rattle.addresses.proofs.clear.Symbol as clear_symbol

pub meets_addresses_copy : Meets copy.ended (λ M 𝓤 𝓛. copy.clauses 𝓛) copy_symbol.name copy_symbol.code
meets_addresses_copy M = copy_met.met

pub tight_addresses_copy : Tight copy.ended (λ M 𝓤 𝓛. copy.clauses 𝓛)
tight_addresses_copy c r q w v a b = (refl, λ i. (same_dst i, (tt, (tt, (tt, (tt, tt))))))
  where
    same_dst : w.0 ≡ v.0
    same_dst = equal bytes a.ensured b.ensured

pub meets_addresses_clear : Meets clear.ended (λ M 𝓤 𝓛. clear.clauses 𝓛) clear_symbol.name clear_symbol.code
meets_addresses_clear M = clear_met.met

pub tight_addresses_clear : Tight clear.ended (λ M 𝓤 𝓛. clear.clauses 𝓛)
tight_addresses_clear c r q w v a b = (refl, λ i. (same_dst i, tt))
  where
    same_dst : w.0 ≡ v.0
    same_dst = equal bytes a.ensured b.ensured
