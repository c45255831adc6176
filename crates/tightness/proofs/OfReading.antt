-- Written by tools/tightness: each public function of `reading` meets its contract, and the contract is tight. Assumes nothing.
use Rattle.std.specs.Prelude.{refl}
use Rattle.tightness.specs.Tight.{Meets, Tight}
use Rattle.tightness.proofs.Laws.{equal, result}
use Rattle.reading.specs.contracts.read_prototype
use Rattle.reading.proofs.read_prototype.Met as read_prototype_met
use Rattle.reading.proofs.read_prototype.Symbol as read_prototype_symbol
use Rattle.reading.specs.contracts.read_types
use Rattle.reading.proofs.read_types.Met as read_types_met
use Rattle.reading.proofs.read_types.Symbol as read_types_symbol

pub meets_reading_read_prototype : Meets read_prototype.ended (λ M 𝓤 𝓛. read_prototype.clauses 𝓛) read_prototype_symbol.name read_prototype_symbol.code
meets_reading_read_prototype M = read_prototype_met.met

pub tight_reading_read_prototype : Tight read_prototype.ended (λ M 𝓤 𝓛. read_prototype.clauses 𝓛)
tight_reading_read_prototype c r q w v a b = (equal (result read_prototype.ended c) a.ensured b.ensured, refl)

pub meets_reading_read_types : Meets read_types.ended (λ M 𝓤 𝓛. read_types.clauses 𝓛) read_types_symbol.name read_types_symbol.code
meets_reading_read_types M = read_types_met.met

pub tight_reading_read_types : Tight read_types.ended (λ M 𝓤 𝓛. read_types.clauses 𝓛)
tight_reading_read_types c r q w v a b = (equal (result read_types.ended c) a.ensured b.ensured, refl)
