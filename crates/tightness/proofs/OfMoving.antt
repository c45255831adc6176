-- Written by tools/tightness: each public function of `moving` meets its contract, and the contract is tight. Assumes nothing.
use Rattle.std.specs.Prelude.{◌≡◌, refl}
use mathlib.Core.Path.{sym, ◌∙◌}
use Rattle.tightness.specs.Tight.{Meets, Tight}
use Rattle.tightness.proofs.Laws.{bytes, equal, result, settle}
use Rattle.moving.specs.contracts.place_values
use Rattle.moving.proofs.place_values.Met as place_values_met
use Rattle.moving.proofs.place_values.Symbol as place_values_symbol
use Rattle.moving.specs.contracts.gather_values
use Rattle.moving.proofs.gather_values.Met as gather_values_met
use Rattle.moving.proofs.gather_values.Symbol as gather_values_symbol
use Rattle.moving.specs.contracts.wrong_address
use Rattle.moving.proofs.wrong_address.Met as wrong_address_met
use Rattle.moving.proofs.wrong_address.Symbol as wrong_address_symbol
use Rattle.moving.specs.contracts.is_bool
use Rattle.moving.proofs.is_bool.Met as is_bool_met
use Rattle.moving.proofs.is_bool.Symbol as is_bool_symbol
use Rattle.moving.specs.contracts.broken_byte
use Rattle.moving.proofs.broken_byte.Met as broken_byte_met
use Rattle.moving.proofs.broken_byte.Symbol as broken_byte_symbol

pub meets_moving_place_values : Meets place_values.ended (λ M 𝓤 𝓛. place_values.clauses 𝓛) place_values_symbol.name place_values_symbol.code
meets_moving_place_values M = place_values_met.met

pub tight_moving_place_values : Tight place_values.ended (λ M 𝓤 𝓛. place_values.clauses 𝓛)
tight_moving_place_values c r q w v a b = (settle (result place_values.ended c) a.ensured b.ensured (λ e f. e.0 ∙ sym f.0), λ i. (tt, (tt, (tt, (same_registers i, (same_upper i, (same_stack i, tt)))))))
  where
    same_registers : w.1.1.1.0 ≡ v.1.1.1.0
    same_registers = settle bytes a.ensured b.ensured (λ e f. e.1.0 ∙ sym f.1.0)

    same_upper : w.1.1.1.1.0 ≡ v.1.1.1.1.0
    same_upper = settle bytes a.ensured b.ensured (λ e f. e.1.1.0 ∙ sym f.1.1.0)

    same_stack : w.1.1.1.1.1.0 ≡ v.1.1.1.1.1.0
    same_stack = settle bytes a.ensured b.ensured (λ e f. e.1.1.1 ∙ sym f.1.1.1)

pub meets_moving_gather_values : Meets gather_values.ended (λ M 𝓤 𝓛. gather_values.clauses 𝓛) gather_values_symbol.name gather_values_symbol.code
meets_moving_gather_values M = gather_values_met.met

pub tight_moving_gather_values : Tight gather_values.ended (λ M 𝓤 𝓛. gather_values.clauses 𝓛)
tight_moving_gather_values c r q w v a b = (settle (result gather_values.ended c) a.ensured b.ensured (λ e f. e.0 ∙ sym f.0), λ i. (tt, (tt, (tt, (tt, (same_values i, tt))))))
  where
    same_values : w.1.1.1.1.0 ≡ v.1.1.1.1.0
    same_values = settle bytes a.ensured b.ensured (λ e f. e.1 ∙ sym f.1)

pub meets_moving_wrong_address : Meets wrong_address.ended (λ M 𝓤 𝓛. wrong_address.clauses 𝓛) wrong_address_symbol.name wrong_address_symbol.code
meets_moving_wrong_address M = wrong_address_met.met

pub tight_moving_wrong_address : Tight wrong_address.ended (λ M 𝓤 𝓛. wrong_address.clauses 𝓛)
tight_moving_wrong_address c r q w v a b = (equal (result wrong_address.ended c) a.ensured b.ensured, refl)

pub meets_moving_is_bool : Meets is_bool.ended (λ M 𝓤 𝓛. is_bool.clauses 𝓛) is_bool_symbol.name is_bool_symbol.code
meets_moving_is_bool M = is_bool_met.met

pub tight_moving_is_bool : Tight is_bool.ended (λ M 𝓤 𝓛. is_bool.clauses 𝓛)
tight_moving_is_bool c r q w v a b = (equal (result is_bool.ended c) a.ensured b.ensured, refl)

pub meets_moving_broken_byte : Meets broken_byte.ended (λ M 𝓤 𝓛. broken_byte.clauses 𝓛) broken_byte_symbol.name broken_byte_symbol.code
meets_moving_broken_byte M = broken_byte_met.met

pub tight_moving_broken_byte : Tight broken_byte.ended (λ M 𝓤 𝓛. broken_byte.clauses 𝓛)
tight_moving_broken_byte c r q w v a b = (equal (result broken_byte.ended c) a.ensured b.ensured, refl)
