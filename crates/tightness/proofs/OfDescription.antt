-- Written by tools/tightness: each public function of `description` meets its contract, and the contract is tight. Assumes nothing.
use Rattle.std.specs.Prelude.{refl}
use mathlib.Core.Path.{sym, ◌∙◌}
use Rattle.tightness.specs.Tight.{Meets, Tight}
use Rattle.tightness.proofs.Laws.{equal, result, settle}
use Rattle.description.specs.contracts.byte_at
use Rattle.description.proofs.byte_at.Met as byte_at_met
use Rattle.description.proofs.byte_at.Symbol as byte_at_symbol
use Rattle.description.specs.contracts.word_at
use Rattle.description.proofs.word_at.Met as word_at_met
use Rattle.description.proofs.word_at.Symbol as word_at_symbol
use Rattle.description.specs.contracts.variadic_in
use Rattle.description.proofs.variadic_in.Met as variadic_in_met
use Rattle.description.proofs.variadic_in.Symbol as variadic_in_symbol
use Rattle.description.specs.contracts.model_of
use Rattle.description.proofs.model_of.Met as model_of_met
use Rattle.description.proofs.model_of.Symbol as model_of_symbol
use Rattle.description.specs.contracts.header_of
use Rattle.description.proofs.header_of.Met as header_of_met
use Rattle.description.proofs.header_of.Symbol as header_of_symbol
use Rattle.description.specs.contracts.kind_at
use Rattle.description.proofs.kind_at.Met as kind_at_met
use Rattle.description.proofs.kind_at.Symbol as kind_at_symbol
use Rattle.description.specs.contracts.a_at
use Rattle.description.proofs.a_at.Met as a_at_met
use Rattle.description.proofs.a_at.Symbol as a_at_symbol
use Rattle.description.specs.contracts.count_at
use Rattle.description.proofs.count_at.Met as count_at_met
use Rattle.description.proofs.count_at.Symbol as count_at_symbol
use Rattle.description.specs.contracts.record_at
use Rattle.description.proofs.record_at.Met as record_at_met
use Rattle.description.proofs.record_at.Symbol as record_at_symbol
use Rattle.description.specs.contracts.member_at
use Rattle.description.proofs.member_at.Met as member_at_met
use Rattle.description.proofs.member_at.Symbol as member_at_symbol
use Rattle.description.specs.contracts.argument_at
use Rattle.description.proofs.argument_at.Met as argument_at_met
use Rattle.description.proofs.argument_at.Symbol as argument_at_symbol

pub meets_description_byte_at : Meets byte_at.ended (λ M 𝓤 𝓛. byte_at.clauses 𝓛) byte_at_symbol.name byte_at_symbol.code
meets_description_byte_at M = byte_at_met.met

pub tight_description_byte_at : Tight byte_at.ended (λ M 𝓤 𝓛. byte_at.clauses 𝓛)
tight_description_byte_at c r q w v a b = (settle (result byte_at.ended c) a.ensured b.ensured (λ e f. e.0 ∙ sym f.0), refl)

pub meets_description_word_at : Meets word_at.ended (λ M 𝓤 𝓛. word_at.clauses 𝓛) word_at_symbol.name word_at_symbol.code
meets_description_word_at M = word_at_met.met

pub tight_description_word_at : Tight word_at.ended (λ M 𝓤 𝓛. word_at.clauses 𝓛)
tight_description_word_at c r q w v a b = (settle (result word_at.ended c) a.ensured b.ensured (λ e f. e.0 ∙ sym f.0), refl)

pub meets_description_variadic_in : Meets variadic_in.ended (λ M 𝓤 𝓛. variadic_in.clauses 𝓛) variadic_in_symbol.name variadic_in_symbol.code
meets_description_variadic_in M = variadic_in_met.met

pub tight_description_variadic_in : Tight variadic_in.ended (λ M 𝓤 𝓛. variadic_in.clauses 𝓛)
tight_description_variadic_in c r q w v a b = (equal (result variadic_in.ended c) a.ensured b.ensured, refl)

pub meets_description_model_of : Meets model_of.ended (λ M 𝓤 𝓛. model_of.clauses 𝓛) model_of_symbol.name model_of_symbol.code
meets_description_model_of M = model_of_met.met

pub tight_description_model_of : Tight model_of.ended (λ M 𝓤 𝓛. model_of.clauses 𝓛)
tight_description_model_of c r q w v a b = (equal (result model_of.ended c) a.ensured b.ensured, refl)

pub meets_description_header_of : Meets header_of.ended (λ M 𝓤 𝓛. header_of.clauses 𝓛) header_of_symbol.name header_of_symbol.code
meets_description_header_of M = header_of_met.met

pub tight_description_header_of : Tight header_of.ended (λ M 𝓤 𝓛. header_of.clauses 𝓛)
tight_description_header_of c r q w v a b = (equal (result header_of.ended c) a.ensured b.ensured, refl)

pub meets_description_kind_at : Meets kind_at.ended (λ M 𝓤 𝓛. kind_at.clauses 𝓛) kind_at_symbol.name kind_at_symbol.code
meets_description_kind_at M = kind_at_met.met

pub tight_description_kind_at : Tight kind_at.ended (λ M 𝓤 𝓛. kind_at.clauses 𝓛)
tight_description_kind_at c r q w v a b = (equal (result kind_at.ended c) a.ensured b.ensured, refl)

pub meets_description_a_at : Meets a_at.ended (λ M 𝓤 𝓛. a_at.clauses 𝓛) a_at_symbol.name a_at_symbol.code
meets_description_a_at M = a_at_met.met

pub tight_description_a_at : Tight a_at.ended (λ M 𝓤 𝓛. a_at.clauses 𝓛)
tight_description_a_at c r q w v a b = (settle (result a_at.ended c) a.ensured b.ensured (λ e f. e.0 ∙ sym f.0), refl)

pub meets_description_count_at : Meets count_at.ended (λ M 𝓤 𝓛. count_at.clauses 𝓛) count_at_symbol.name count_at_symbol.code
meets_description_count_at M = count_at_met.met

pub tight_description_count_at : Tight count_at.ended (λ M 𝓤 𝓛. count_at.clauses 𝓛)
tight_description_count_at c r q w v a b = (settle (result count_at.ended c) a.ensured b.ensured (λ e f. e.0 ∙ sym f.0), refl)

pub meets_description_record_at : Meets record_at.ended (λ M 𝓤 𝓛. record_at.clauses 𝓛) record_at_symbol.name record_at_symbol.code
meets_description_record_at M = record_at_met.met

pub tight_description_record_at : Tight record_at.ended (λ M 𝓤 𝓛. record_at.clauses 𝓛)
tight_description_record_at c r q w v a b = (settle (result record_at.ended c) a.ensured b.ensured (λ e f. e.0 ∙ sym f.0), refl)

pub meets_description_member_at : Meets member_at.ended (λ M 𝓤 𝓛. member_at.clauses 𝓛) member_at_symbol.name member_at_symbol.code
meets_description_member_at M = member_at_met.met

pub tight_description_member_at : Tight member_at.ended (λ M 𝓤 𝓛. member_at.clauses 𝓛)
tight_description_member_at c r q w v a b = (equal (result member_at.ended c) a.ensured b.ensured, refl)

pub meets_description_argument_at : Meets argument_at.ended (λ M 𝓤 𝓛. argument_at.clauses 𝓛) argument_at_symbol.name argument_at_symbol.code
meets_description_argument_at M = argument_at_met.met

pub tight_description_argument_at : Tight argument_at.ended (λ M 𝓤 𝓛. argument_at.clauses 𝓛)
tight_description_argument_at c r q w v a b = (equal (result argument_at.ended c) a.ensured b.ensured, refl)
