-- Written by tools/tightness: each public function of `types` meets its contract, and the contract is tight. Assumes nothing.
use Rattle.std.specs.Prelude.{◌≡◌, refl}
use mathlib.Core.Path.{sym, ◌∙◌}
use Rattle.tightness.specs.Tight.{Meets, Tight}
use Rattle.tightness.proofs.Laws.{bytes, equal, result, settle}
use Rattle.types.specs.contracts.offset_after
use Rattle.types.proofs.offset_after.Met as offset_after_met
use Rattle.types.proofs.offset_after.Symbol as offset_after_symbol
use Rattle.types.specs.contracts.end_after
use Rattle.types.proofs.end_after.Met as end_after_met
use Rattle.types.proofs.end_after.Symbol as end_after_symbol
use Rattle.types.specs.contracts.judge
use Rattle.types.proofs.judge.Met as judge_met
use Rattle.types.proofs.judge.Symbol as judge_symbol
use Rattle.types.specs.contracts.entry_of
use Rattle.types.proofs.entry_of.Met as entry_of_met
use Rattle.types.proofs.entry_of.Symbol as entry_of_symbol
use Rattle.types.specs.contracts.extent_by
use Rattle.types.proofs.extent_by.Met as extent_by_met
use Rattle.types.proofs.extent_by.Symbol as extent_by_symbol
use Rattle.types.specs.contracts.extent_in
use Rattle.types.proofs.extent_in.Met as extent_in_met
use Rattle.types.proofs.extent_in.Symbol as extent_in_symbol

pub meets_types_offset_after : Meets offset_after.ended (λ M 𝓤 𝓛. offset_after.clauses 𝓛) offset_after_symbol.name offset_after_symbol.code
meets_types_offset_after M = offset_after_met.met

pub tight_types_offset_after : Tight offset_after.ended (λ M 𝓤 𝓛. offset_after.clauses 𝓛)
tight_types_offset_after c r q w v a b = (settle (result offset_after.ended c) a.ensured b.ensured (λ e f i. record { 0 = (e ∙ sym f) i }), refl)

pub meets_types_end_after : Meets end_after.ended (λ M 𝓤 𝓛. end_after.clauses 𝓛) end_after_symbol.name end_after_symbol.code
meets_types_end_after M = end_after_met.met

pub tight_types_end_after : Tight end_after.ended (λ M 𝓤 𝓛. end_after.clauses 𝓛)
tight_types_end_after c r q w v a b = (settle (result end_after.ended c) a.ensured b.ensured (λ e f i. record { 0 = (e ∙ sym f) i }), refl)

pub meets_types_judge : Meets judge.ended (λ M 𝓤 𝓛. judge.clauses 𝓛) judge_symbol.name judge_symbol.code
meets_types_judge M = judge_met.met

pub tight_types_judge : Tight judge.ended (λ M 𝓤 𝓛. judge.clauses 𝓛)
tight_types_judge c r q w v a b = (settle (result judge.ended c) a.ensured b.ensured (λ e f. e.0 ∙ sym f.0), λ i. (tt, (same_table i, tt)))
  where
    same_table : w.1.0 ≡ v.1.0
    same_table = settle bytes a.ensured b.ensured (λ e f. e.1 ∙ sym f.1)

pub meets_types_entry_of : Meets entry_of.ended (λ M 𝓤 𝓛. entry_of.clauses 𝓛) entry_of_symbol.name entry_of_symbol.code
meets_types_entry_of M = entry_of_met.met

pub tight_types_entry_of : Tight entry_of.ended (λ M 𝓤 𝓛. entry_of.clauses 𝓛)
tight_types_entry_of c r q w v a b = (equal (result entry_of.ended c) a.ensured b.ensured, refl)

pub meets_types_extent_by : Meets extent_by.ended (λ M 𝓤 𝓛. extent_by.clauses 𝓛) extent_by_symbol.name extent_by_symbol.code
meets_types_extent_by M = extent_by_met.met

pub tight_types_extent_by : Tight extent_by.ended (λ M 𝓤 𝓛. extent_by.clauses 𝓛)
tight_types_extent_by c r q w v a b = (settle (result extent_by.ended c) a.ensured b.ensured (λ e f i. record { size = record { 0 = (e.size ∙ sym f.size) i }; align = record { 0 = (e.align ∙ sym f.align) i } }), refl)

pub meets_types_extent_in : Meets extent_in.ended (λ M 𝓤 𝓛. extent_in.clauses 𝓛) extent_in_symbol.name extent_in_symbol.code
meets_types_extent_in M = extent_in_met.met

pub tight_types_extent_in : Tight extent_in.ended (λ M 𝓤 𝓛. extent_in.clauses 𝓛)
tight_types_extent_in c r q w v a b = (settle (result extent_in.ended c) a.ensured b.ensured (λ e f i. record { size = record { 0 = (e.size ∙ sym f.size) i }; align = record { 0 = (e.align ∙ sym f.align) i } }), refl)
