-- Written by tools/tightness: each public function of `places` meets its contract, and the contract is tight. Assumes nothing.
use Rattle.std.specs.Prelude.{◌≡◌, refl}
use mathlib.Core.Path.{sym, ◌∙◌}
use Rattle.tightness.specs.Tight.{Meets, Tight}
use Rattle.tightness.proofs.Laws.{equal, result, settle}
use Rattle.places.proofs.Records.{asked-same, place_same}
use Rattle.places.specs.contracts.Used as places_Used
use Rattle.places.specs.contracts.Used.area_align as Used_area_align
use Rattle.places.proofs.Used.area_align.Met as Used_area_align_met
use Rattle.places.proofs.Used.area_align.Symbol as Used_area_align_symbol
use Rattle.places.specs.contracts.Used.area as Used_area
use Rattle.places.proofs.Used.area.Met as Used_area_met
use Rattle.places.proofs.Used.area.Symbol as Used_area_symbol
use Rattle.places.specs.contracts.Used.place as Used_place
use Rattle.places.proofs.Used.place.Met as Used_place_met
use Rattle.places.proofs.Used.place.Symbol as Used_place_symbol
use Rattle.places.specs.contracts.Used.use_argument as Used_use_argument
use Rattle.places.proofs.Used.use_argument.Met as Used_use_argument_met
use Rattle.places.proofs.Used.use_argument.Symbol as Used_use_argument_symbol
use Rattle.places.specs.contracts.Used.place_between as Used_place_between
use Rattle.places.proofs.Used.place_between.Met as Used_place_between_met
use Rattle.places.proofs.Used.place_between.Symbol as Used_place_between_symbol
use Rattle.places.specs.contracts.return_place
use Rattle.places.proofs.return_place.Met as return_place_met
use Rattle.places.proofs.return_place.Symbol as return_place_symbol
use Rattle.places.specs.contracts.hidden_for
use Rattle.places.proofs.hidden_for.Met as hidden_for_met
use Rattle.places.proofs.hidden_for.Symbol as hidden_for_symbol
use Rattle.places.specs.contracts.Used.fresh as Used_fresh
use Rattle.places.proofs.Used.fresh.Met as Used_fresh_met
use Rattle.places.proofs.Used.fresh.Symbol as Used_fresh_symbol
use Rattle.places.specs.contracts.Argument.extent as Argument_extent
use Rattle.places.proofs.Argument.extent.Met as Argument_extent_met
use Rattle.places.proofs.Argument.extent.Symbol as Argument_extent_symbol
use Rattle.places.specs.contracts.Argument.shape as Argument_shape
use Rattle.places.proofs.Argument.shape.Met as Argument_shape_met
use Rattle.places.proofs.Argument.shape.Symbol as Argument_shape_symbol

pub meets_places_Used_area_align : Meets Used_area_align.ended (λ M 𝓤 𝓛. Used_area_align.clauses 𝓛) Used_area_align_symbol.name Used_area_align_symbol.code
meets_places_Used_area_align M = Used_area_align_met.met

pub tight_places_Used_area_align : Tight Used_area_align.ended (λ M 𝓤 𝓛. Used_area_align.clauses 𝓛)
tight_places_Used_area_align c r q w v a b = (settle (result Used_area_align.ended c) a.ensured b.ensured (λ e f i. record { 0 = (e ∙ sym f) i }), refl)

pub meets_places_Used_area : Meets Used_area.ended (λ M 𝓤 𝓛. Used_area.clauses 𝓛) Used_area_symbol.name Used_area_symbol.code
meets_places_Used_area M = Used_area_met.met

pub tight_places_Used_area : Tight Used_area.ended (λ M 𝓤 𝓛. Used_area.clauses 𝓛)
tight_places_Used_area c r q w v a b = (settle (result Used_area.ended c) a.ensured b.ensured (λ e f i. record { 0 = (e ∙ sym f) i }), refl)

pub meets_places_Used_place : Meets Used_place.ended (λ M 𝓤 𝓛. Used_place.clauses 𝓛) Used_place_symbol.name Used_place_symbol.code
meets_places_Used_place M = Used_place_met.met

pub tight_places_Used_place : Tight Used_place.ended (λ M 𝓤 𝓛. Used_place.clauses 𝓛)
tight_places_Used_place c r q w v a b = (settle (result Used_place.ended c) a.ensured b.ensured (λ e f. place_same r q (e.0 ∙ sym f.0)), λ i. (same_self i, (tt, tt)))
  where
    same_self : w.0 ≡ v.0
    same_self = settle (places_Used.the_row).coded a.ensured b.ensured (λ e f. e.1 ∙ sym f.1)

pub meets_places_Used_use_argument : Meets Used_use_argument.ended (λ M 𝓤 𝓛. Used_use_argument.clauses 𝓛) Used_use_argument_symbol.name Used_use_argument_symbol.code
meets_places_Used_use_argument M = Used_use_argument_met.met

pub tight_places_Used_use_argument : Tight Used_use_argument.ended (λ M 𝓤 𝓛. Used_use_argument.clauses 𝓛)
tight_places_Used_use_argument c r q w v a b = (refl, λ i. (same_self i, (tt, tt)))
  where
    same_self : w.0 ≡ v.0
    same_self = equal (places_Used.the_row).coded a.ensured b.ensured

pub meets_places_Used_place_between : Meets Used_place_between.ended (λ M 𝓤 𝓛. Used_place_between.clauses 𝓛) Used_place_between_symbol.name Used_place_between_symbol.code
meets_places_Used_place_between M = Used_place_between_met.met

pub tight_places_Used_place_between : Tight Used_place_between.ended (λ M 𝓤 𝓛. Used_place_between.clauses 𝓛)
tight_places_Used_place_between c r q w v a b = (settle (result Used_place_between.ended c) a.ensured b.ensured (λ e f. place_same r q (e ∙ sym f)), refl)

pub meets_places_return_place : Meets return_place.ended (λ M 𝓤 𝓛. return_place.clauses 𝓛) return_place_symbol.name return_place_symbol.code
meets_places_return_place M = return_place_met.met

pub tight_places_return_place : Tight return_place.ended (λ M 𝓤 𝓛. return_place.clauses 𝓛)
tight_places_return_place c r q w v a b = (equal (result return_place.ended c) a.ensured b.ensured, refl)

pub meets_places_hidden_for : Meets hidden_for.ended (λ M 𝓤 𝓛. hidden_for.clauses 𝓛) hidden_for_symbol.name hidden_for_symbol.code
meets_places_hidden_for M = hidden_for_met.met

pub tight_places_hidden_for : Tight hidden_for.ended (λ M 𝓤 𝓛. hidden_for.clauses 𝓛)
tight_places_hidden_for c r q w v a b = (equal (result hidden_for.ended c) a.ensured b.ensured, refl)

pub meets_places_Used_fresh : Meets Used_fresh.ended (λ M 𝓤 𝓛. Used_fresh.clauses 𝓛) Used_fresh_symbol.name Used_fresh_symbol.code
meets_places_Used_fresh M = Used_fresh_met.met

pub tight_places_Used_fresh : Tight Used_fresh.ended (λ M 𝓤 𝓛. Used_fresh.clauses 𝓛)
tight_places_Used_fresh c r q w v a b = (equal (result Used_fresh.ended c) a.ensured b.ensured, refl)

pub meets_places_Argument_extent : Meets Argument_extent.ended (λ M 𝓤 𝓛. Argument_extent.clauses 𝓛) Argument_extent_symbol.name Argument_extent_symbol.code
meets_places_Argument_extent M = Argument_extent_met.met

pub tight_places_Argument_extent : Tight Argument_extent.ended (λ M 𝓤 𝓛. Argument_extent.clauses 𝓛)
tight_places_Argument_extent c r q w v a b = (settle (result Argument_extent.ended c) a.ensured b.ensured (λ e f i. record { size = record { 0 = (e.size ∙ sym f.size) i }; align = record { 0 = (e.align ∙ sym f.align) i } }), refl)

pub meets_places_Argument_shape : Meets Argument_shape.ended (λ M 𝓤 𝓛. Argument_shape.clauses 𝓛) Argument_shape_symbol.name Argument_shape_symbol.code
meets_places_Argument_shape M = Argument_shape_met.met

pub tight_places_Argument_shape : Tight Argument_shape.ended (λ M 𝓤 𝓛. Argument_shape.clauses 𝓛)
tight_places_Argument_shape c r q w v a b = (settle (result Argument_shape.ended c) a.ensured b.ensured (λ e f. asked-same r q (e ∙ sym f)), refl)
