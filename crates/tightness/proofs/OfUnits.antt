-- Written by tools/tightness: each public function of `units` meets its contract, and the contract is tight. Assumes nothing.
use Rattle.std.specs.Prelude.{refl}
use mathlib.Core.Path.{sym, ◌∙◌}
use Rattle.tightness.specs.Tight.{Meets, Tight}
use Rattle.tightness.proofs.Laws.{result, settle}
use Rattle.units.specs.contracts.Registers.general_bytes as Registers_general_bytes
use Rattle.units.proofs.Registers.general_bytes.Met as Registers_general_bytes_met
use Rattle.units.proofs.Registers.general_bytes.Symbol as Registers_general_bytes_symbol
use Rattle.units.specs.contracts.Registers.vector_bytes as Registers_vector_bytes
use Rattle.units.proofs.Registers.vector_bytes.Met as Registers_vector_bytes_met
use Rattle.units.proofs.Registers.vector_bytes.Symbol as Registers_vector_bytes_symbol
use Rattle.units.specs.contracts.Registers.before_last as Registers_before_last
use Rattle.units.proofs.Registers.before_last.Met as Registers_before_last_met
use Rattle.units.proofs.Registers.before_last.Symbol as Registers_before_last_symbol
use Rattle.units.specs.contracts.RegistersAdd.add as RegistersAdd_add
use Rattle.units.proofs.RegistersAdd.add.Met as RegistersAdd_add_met
use Rattle.units.proofs.RegistersAdd.add.Symbol as RegistersAdd_add_symbol
use Rattle.units.specs.contracts.Bytes.raised_to as Bytes_raised_to
use Rattle.units.proofs.Bytes.raised_to.Met as Bytes_raised_to_met
use Rattle.units.proofs.Bytes.raised_to.Symbol as Bytes_raised_to_symbol
use Rattle.units.specs.contracts.Bytes.eightbyte as Bytes_eightbyte
use Rattle.units.proofs.Bytes.eightbyte.Met as Bytes_eightbyte_met
use Rattle.units.proofs.Bytes.eightbyte.Symbol as Bytes_eightbyte_symbol
use Rattle.units.specs.contracts.BytesAdd.add as BytesAdd_add
use Rattle.units.proofs.BytesAdd.add.Met as BytesAdd_add_met
use Rattle.units.proofs.BytesAdd.add.Symbol as BytesAdd_add_symbol
use Rattle.units.specs.contracts.BytesSub.sub as BytesSub_sub
use Rattle.units.proofs.BytesSub.sub.Met as BytesSub_sub_met
use Rattle.units.proofs.BytesSub.sub.Symbol as BytesSub_sub_symbol
use Rattle.units.specs.contracts.BytesMulUsize.mul as BytesMulUsize_mul
use Rattle.units.proofs.BytesMulUsize.mul.Met as BytesMulUsize_mul_met
use Rattle.units.proofs.BytesMulUsize.mul.Symbol as BytesMulUsize_mul_symbol

pub meets_units_Registers_general_bytes : Meets Registers_general_bytes.ended (λ M 𝓤 𝓛. Registers_general_bytes.clauses 𝓛) Registers_general_bytes_symbol.name Registers_general_bytes_symbol.code
meets_units_Registers_general_bytes M = Registers_general_bytes_met.met

pub tight_units_Registers_general_bytes : Tight Registers_general_bytes.ended (λ M 𝓤 𝓛. Registers_general_bytes.clauses 𝓛)
tight_units_Registers_general_bytes c r q w v a b = (settle (result Registers_general_bytes.ended c) a.ensured b.ensured (λ e f i. record { 0 = (e ∙ sym f) i }), refl)

pub meets_units_Registers_vector_bytes : Meets Registers_vector_bytes.ended (λ M 𝓤 𝓛. Registers_vector_bytes.clauses 𝓛) Registers_vector_bytes_symbol.name Registers_vector_bytes_symbol.code
meets_units_Registers_vector_bytes M = Registers_vector_bytes_met.met

pub tight_units_Registers_vector_bytes : Tight Registers_vector_bytes.ended (λ M 𝓤 𝓛. Registers_vector_bytes.clauses 𝓛)
tight_units_Registers_vector_bytes c r q w v a b = (settle (result Registers_vector_bytes.ended c) a.ensured b.ensured (λ e f i. record { 0 = (e ∙ sym f) i }), refl)

pub meets_units_Registers_before_last : Meets Registers_before_last.ended (λ M 𝓤 𝓛. Registers_before_last.clauses 𝓛) Registers_before_last_symbol.name Registers_before_last_symbol.code
meets_units_Registers_before_last M = Registers_before_last_met.met

pub tight_units_Registers_before_last : Tight Registers_before_last.ended (λ M 𝓤 𝓛. Registers_before_last.clauses 𝓛)
tight_units_Registers_before_last c r q w v a b = (settle (result Registers_before_last.ended c) a.ensured b.ensured (λ e f i. record { 0 = (e ∙ sym f) i }), refl)

pub meets_units_RegistersAdd_add : Meets RegistersAdd_add.ended (λ M 𝓤 𝓛. RegistersAdd_add.clauses 𝓛) RegistersAdd_add_symbol.name RegistersAdd_add_symbol.code
meets_units_RegistersAdd_add M = RegistersAdd_add_met.met

pub tight_units_RegistersAdd_add : Tight RegistersAdd_add.ended (λ M 𝓤 𝓛. RegistersAdd_add.clauses 𝓛)
tight_units_RegistersAdd_add c r q w v a b = (settle (result RegistersAdd_add.ended c) a.ensured b.ensured (λ e f i. record { 0 = (e ∙ sym f) i }), refl)

pub meets_units_Bytes_raised_to : Meets Bytes_raised_to.ended (λ M 𝓤 𝓛. Bytes_raised_to.clauses 𝓛) Bytes_raised_to_symbol.name Bytes_raised_to_symbol.code
meets_units_Bytes_raised_to M = Bytes_raised_to_met.met

pub tight_units_Bytes_raised_to : Tight Bytes_raised_to.ended (λ M 𝓤 𝓛. Bytes_raised_to.clauses 𝓛)
tight_units_Bytes_raised_to c r q w v a b = (settle (result Bytes_raised_to.ended c) a.ensured b.ensured (λ e f i. record { 0 = (e ∙ sym f) i }), refl)

pub meets_units_Bytes_eightbyte : Meets Bytes_eightbyte.ended (λ M 𝓤 𝓛. Bytes_eightbyte.clauses 𝓛) Bytes_eightbyte_symbol.name Bytes_eightbyte_symbol.code
meets_units_Bytes_eightbyte M = Bytes_eightbyte_met.met

pub tight_units_Bytes_eightbyte : Tight Bytes_eightbyte.ended (λ M 𝓤 𝓛. Bytes_eightbyte.clauses 𝓛)
tight_units_Bytes_eightbyte c r q w v a b = (settle (result Bytes_eightbyte.ended c) a.ensured b.ensured (λ e f i. record { 0 = (e ∙ sym f) i }), refl)

pub meets_units_BytesAdd_add : Meets BytesAdd_add.ended (λ M 𝓤 𝓛. BytesAdd_add.clauses 𝓛) BytesAdd_add_symbol.name BytesAdd_add_symbol.code
meets_units_BytesAdd_add M = BytesAdd_add_met.met

pub tight_units_BytesAdd_add : Tight BytesAdd_add.ended (λ M 𝓤 𝓛. BytesAdd_add.clauses 𝓛)
tight_units_BytesAdd_add c r q w v a b = (settle (result BytesAdd_add.ended c) a.ensured b.ensured (λ e f i. record { 0 = (e ∙ sym f) i }), refl)

pub meets_units_BytesSub_sub : Meets BytesSub_sub.ended (λ M 𝓤 𝓛. BytesSub_sub.clauses 𝓛) BytesSub_sub_symbol.name BytesSub_sub_symbol.code
meets_units_BytesSub_sub M = BytesSub_sub_met.met

pub tight_units_BytesSub_sub : Tight BytesSub_sub.ended (λ M 𝓤 𝓛. BytesSub_sub.clauses 𝓛)
tight_units_BytesSub_sub c r q w v a b = (settle (result BytesSub_sub.ended c) a.ensured b.ensured (λ e f i. record { 0 = (e ∙ sym f) i }), refl)

pub meets_units_BytesMulUsize_mul : Meets BytesMulUsize_mul.ended (λ M 𝓤 𝓛. BytesMulUsize_mul.clauses 𝓛) BytesMulUsize_mul_symbol.name BytesMulUsize_mul_symbol.code
meets_units_BytesMulUsize_mul M = BytesMulUsize_mul_met.met

pub tight_units_BytesMulUsize_mul : Tight BytesMulUsize_mul.ended (λ M 𝓤 𝓛. BytesMulUsize_mul.clauses 𝓛)
tight_units_BytesMulUsize_mul c r q w v a b = (settle (result BytesMulUsize_mul.ended c) a.ensured b.ensured (λ e f i. record { 0 = (e ∙ sym f) i }), refl)
