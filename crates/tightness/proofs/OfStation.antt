-- Written by tools/tightness: each public function of `station` meets its contract, and the contract is tight. Assumes nothing.
use Rattle.std.specs.Prelude.{◌≡◌, refl}
use mathlib.Core.Path.{sym, ◌∙◌}
use Rattle.tightness.specs.Tight.{Meets, Tight}
use Rattle.tightness.proofs.Laws.{bytes, equal, result, settle}
use Rattle.station.specs.contracts.Station as station_Station
use Rattle.station.specs.contracts.new_station
use Rattle.station.proofs.new_station.Met as new_station_met
use Rattle.station.proofs.new_station.Symbol as new_station_symbol
use Rattle.station.specs.contracts.wrong_seat
use Rattle.station.proofs.wrong_seat.Met as wrong_seat_met
use Rattle.station.proofs.wrong_seat.Symbol as wrong_seat_symbol
use Rattle.station.specs.contracts.attach
use Rattle.station.proofs.attach.Met as attach_met
use Rattle.station.proofs.attach.Symbol as attach_symbol
use Rattle.station.specs.contracts.detach
use Rattle.station.proofs.detach.Met as detach_met
use Rattle.station.proofs.detach.Symbol as detach_symbol
use Rattle.station.specs.contracts.change
use Rattle.station.proofs.change.Met as change_met
use Rattle.station.proofs.change.Symbol as change_symbol

pub meets_station_new_station : Meets new_station.ended (λ M 𝓤 𝓛. new_station.clauses 𝓛) new_station_symbol.name new_station_symbol.code
meets_station_new_station M = new_station_met.met

pub tight_station_new_station : Tight new_station.ended (λ M 𝓤 𝓛. new_station.clauses 𝓛)
tight_station_new_station c r q w v a b = (equal (result new_station.ended c) a.ensured b.ensured, refl)

pub meets_station_wrong_seat : Meets wrong_seat.ended (λ M 𝓤 𝓛. wrong_seat.clauses 𝓛) wrong_seat_symbol.name wrong_seat_symbol.code
meets_station_wrong_seat M = wrong_seat_met.met

pub tight_station_wrong_seat : Tight wrong_seat.ended (λ M 𝓤 𝓛. wrong_seat.clauses 𝓛)
tight_station_wrong_seat c r q w v a b = (equal (result wrong_seat.ended c) a.ensured b.ensured, refl)

pub meets_station_attach : Meets attach.ended (λ M 𝓤 𝓛. attach.clauses 𝓛) attach_symbol.name attach_symbol.code
meets_station_attach M = attach_met.met

pub tight_station_attach : Tight attach.ended (λ M 𝓤 𝓛. attach.clauses 𝓛)
tight_station_attach c r q w v a b = (settle (result attach.ended c) a.ensured b.ensured (λ e f. e.0 ∙ sym f.0), λ i. (same_station i, (same_seat i, (tt, tt))))
  where
    same_station : w.0 ≡ v.0
    same_station = settle (station_Station.the_row).coded a.ensured b.ensured (λ e f. e.1 ∙ sym f.1)

    same_seat : w.1.0 ≡ v.1.0
    same_seat = settle bytes a.ensured b.ensured (λ e f. e.2 ∙ sym f.2)

pub meets_station_detach : Meets detach.ended (λ M 𝓤 𝓛. detach.clauses 𝓛) detach_symbol.name detach_symbol.code
meets_station_detach M = detach_met.met

pub tight_station_detach : Tight detach.ended (λ M 𝓤 𝓛. detach.clauses 𝓛)
tight_station_detach c r q w v a b = (settle (result detach.ended c) a.ensured b.ensured (λ e f. e.0 ∙ sym f.0), λ i. (same_station i, (same_seat i, tt)))
  where
    same_station : w.0 ≡ v.0
    same_station = settle (station_Station.the_row).coded a.ensured b.ensured (λ e f. e.1 ∙ sym f.1)

    same_seat : w.1.0 ≡ v.1.0
    same_seat = settle bytes a.ensured b.ensured (λ e f. e.2 ∙ sym f.2)

pub meets_station_change : Meets change.ended (λ M 𝓤 𝓛. change.clauses 𝓛) change_symbol.name change_symbol.code
meets_station_change M = change_met.met

pub tight_station_change : Tight change.ended (λ M 𝓤 𝓛. change.clauses 𝓛)
tight_station_change c r q w v a b = (settle (result change.ended c) a.ensured b.ensured (λ e f. e.0 ∙ sym f.0), λ i. (same_station i, (same_seat i, (tt, tt))))
  where
    same_station : w.0 ≡ v.0
    same_station = settle (station_Station.the_row).coded a.ensured b.ensured (λ e f. e.1 ∙ sym f.1)

    same_seat : w.1.0 ≡ v.1.0
    same_seat = settle bytes a.ensured b.ensured (λ e f. e.2 ∙ sym f.2)
