-- Written by tools/tightness: each public function of `callbridge` meets its contract, and the contract is tight. Assumes nothing.
use Rattle.std.specs.Prelude.{◌≡◌, refl}
use mathlib.Core.Path.{sym, ◌∙◌}
use base.Stored.{coded_list}
use Rattle.tightness.specs.Tight.{Meets, Tight}
use Rattle.tightness.proofs.Laws.{bytes, equal, result, settle}
use Rattle.flat.specs.contracts.Classes as flat_Classes
use Rattle.flat.specs.contracts.Gathered as flat_Gathered
use Rattle.flat.specs.contracts.Layout as flat_Layout
use Rattle.flat.specs.contracts.Part as flat_Part
use Rattle.flat.specs.contracts.Placed as flat_Placed
use Rattle.flat.specs.contracts.Placement as flat_Placement
use Rattle.flat.specs.contracts.StackNeed as flat_StackNeed
use Rattle.flat.specs.contracts.Station as flat_Station
use Rattle.flat.specs.contracts.Tidied as flat_Tidied
use Rattle.flat.specs.contracts.Walk as flat_Walk
use Rattle.types.specs.contracts.Extent as types_Extent
use Rattle.callbridge.specs.contracts.cb_version
use Rattle.callbridge.proofs.cb_version.Met as cb_version_met
use Rattle.callbridge.proofs.cb_version.Symbol as cb_version_symbol
use Rattle.callbridge.specs.contracts.cb_check
use Rattle.callbridge.proofs.cb_check.Met as cb_check_met
use Rattle.callbridge.proofs.cb_check.Symbol as cb_check_symbol
use Rattle.callbridge.specs.contracts.cb_type_extent
use Rattle.callbridge.proofs.cb_type_extent.Met as cb_type_extent_met
use Rattle.callbridge.proofs.cb_type_extent.Symbol as cb_type_extent_symbol
use Rattle.callbridge.specs.contracts.cb_type_classes
use Rattle.callbridge.proofs.cb_type_classes.Met as cb_type_classes_met
use Rattle.callbridge.proofs.cb_type_classes.Symbol as cb_type_classes_symbol
use Rattle.callbridge.specs.contracts.cb_member_run
use Rattle.callbridge.proofs.cb_member_run.Met as cb_member_run_met
use Rattle.callbridge.proofs.cb_member_run.Symbol as cb_member_run_symbol
use Rattle.callbridge.specs.contracts.cb_member_offsets
use Rattle.callbridge.proofs.cb_member_offsets.Met as cb_member_offsets_met
use Rattle.callbridge.proofs.cb_member_offsets.Symbol as cb_member_offsets_symbol
use Rattle.callbridge.specs.contracts.cb_layout_of
use Rattle.callbridge.proofs.cb_layout_of.Met as cb_layout_of_met
use Rattle.callbridge.proofs.cb_layout_of.Symbol as cb_layout_of_symbol
use Rattle.callbridge.specs.contracts.cb_lay_out
use Rattle.callbridge.proofs.cb_lay_out.Met as cb_lay_out_met
use Rattle.callbridge.proofs.cb_lay_out.Symbol as cb_lay_out_symbol
use Rattle.callbridge.specs.contracts.cb_needs_stack
use Rattle.callbridge.proofs.cb_needs_stack.Met as cb_needs_stack_met
use Rattle.callbridge.proofs.cb_needs_stack.Symbol as cb_needs_stack_symbol
use Rattle.callbridge.specs.contracts.cb_write_listing
use Rattle.callbridge.proofs.cb_write_listing.Met as cb_write_listing_met
use Rattle.callbridge.proofs.cb_write_listing.Symbol as cb_write_listing_symbol
use Rattle.callbridge.specs.contracts.cb_tidy_length
use Rattle.callbridge.proofs.cb_tidy_length.Met as cb_tidy_length_met
use Rattle.callbridge.proofs.cb_tidy_length.Symbol as cb_tidy_length_symbol
use Rattle.callbridge.specs.contracts.cb_tidy
use Rattle.callbridge.proofs.cb_tidy.Met as cb_tidy_met
use Rattle.callbridge.proofs.cb_tidy.Symbol as cb_tidy_symbol
use Rattle.callbridge.specs.contracts.cb_place_values
use Rattle.callbridge.proofs.cb_place_values.Met as cb_place_values_met
use Rattle.callbridge.proofs.cb_place_values.Symbol as cb_place_values_symbol
use Rattle.callbridge.specs.contracts.cb_gather_values
use Rattle.callbridge.proofs.cb_gather_values.Met as cb_gather_values_met
use Rattle.callbridge.proofs.cb_gather_values.Symbol as cb_gather_values_symbol
use Rattle.callbridge.specs.contracts.cb_put_returned
use Rattle.callbridge.proofs.cb_put_returned.Met as cb_put_returned_met
use Rattle.callbridge.proofs.cb_put_returned.Symbol as cb_put_returned_symbol
use Rattle.callbridge.specs.contracts.cb_take_returned
use Rattle.callbridge.proofs.cb_take_returned.Met as cb_take_returned_met
use Rattle.callbridge.proofs.cb_take_returned.Symbol as cb_take_returned_symbol
use Rattle.callbridge.specs.contracts.cb_new_station
use Rattle.callbridge.proofs.cb_new_station.Met as cb_new_station_met
use Rattle.callbridge.proofs.cb_new_station.Symbol as cb_new_station_symbol
use Rattle.callbridge.specs.contracts.cb_attach
use Rattle.callbridge.proofs.cb_attach.Met as cb_attach_met
use Rattle.callbridge.proofs.cb_attach.Symbol as cb_attach_symbol
use Rattle.callbridge.specs.contracts.cb_detach
use Rattle.callbridge.proofs.cb_detach.Met as cb_detach_met
use Rattle.callbridge.proofs.cb_detach.Symbol as cb_detach_symbol
use Rattle.callbridge.specs.contracts.cb_change
use Rattle.callbridge.proofs.cb_change.Met as cb_change_met
use Rattle.callbridge.proofs.cb_change.Symbol as cb_change_symbol
use Rattle.callbridge.specs.contracts.cb_open_walk
use Rattle.callbridge.proofs.cb_open_walk.Met as cb_open_walk_met
use Rattle.callbridge.proofs.cb_open_walk.Symbol as cb_open_walk_symbol
use Rattle.callbridge.specs.contracts.cb_step
use Rattle.callbridge.proofs.cb_step.Met as cb_step_met
use Rattle.callbridge.proofs.cb_step.Symbol as cb_step_symbol
use Rattle.callbridge.specs.contracts.cb_finish_walk
use Rattle.callbridge.proofs.cb_finish_walk.Met as cb_finish_walk_met
use Rattle.callbridge.proofs.cb_finish_walk.Symbol as cb_finish_walk_symbol
use Rattle.callbridge.specs.contracts.cb_show
use Rattle.callbridge.proofs.cb_show.Met as cb_show_met
use Rattle.callbridge.proofs.cb_show.Symbol as cb_show_symbol

pub meets_callbridge_cb_version : Meets cb_version.ended (λ M 𝓤 𝓛. cb_version.clauses 𝓛) cb_version_symbol.name cb_version_symbol.code
meets_callbridge_cb_version M = cb_version_met.met

pub tight_callbridge_cb_version : Tight cb_version.ended (λ M 𝓤 𝓛. cb_version.clauses 𝓛)
tight_callbridge_cb_version c r q w v a b = (equal (result cb_version.ended c) a.ensured b.ensured, refl)

pub meets_callbridge_cb_check : Meets cb_check.ended (λ M 𝓤 𝓛. cb_check.clauses 𝓛) cb_check_symbol.name cb_check_symbol.code
meets_callbridge_cb_check M = cb_check_met.met

pub tight_callbridge_cb_check : Tight cb_check.ended (λ M 𝓤 𝓛. cb_check.clauses 𝓛)
tight_callbridge_cb_check c r q w v a b = (equal (result cb_check.ended c) a.ensured b.ensured, refl)

pub meets_callbridge_cb_type_extent : Meets cb_type_extent.ended (λ M 𝓤 𝓛. cb_type_extent.clauses 𝓛) cb_type_extent_symbol.name cb_type_extent_symbol.code
meets_callbridge_cb_type_extent M = cb_type_extent_met.met

pub tight_callbridge_cb_type_extent : Tight cb_type_extent.ended (λ M 𝓤 𝓛. cb_type_extent.clauses 𝓛)
tight_callbridge_cb_type_extent c r q w v a b = (settle (result cb_type_extent.ended c) a.ensured b.ensured (λ e f. e.0 ∙ sym f.0), λ i. (tt, (tt, (same_extent i, tt))))
  where
    same_extent : w.1.1.0 ≡ v.1.1.0
    same_extent = settle (types_Extent.the_row).coded a.ensured b.ensured (λ e f. e.1 ∙ sym f.1)

pub meets_callbridge_cb_type_classes : Meets cb_type_classes.ended (λ M 𝓤 𝓛. cb_type_classes.clauses 𝓛) cb_type_classes_symbol.name cb_type_classes_symbol.code
meets_callbridge_cb_type_classes M = cb_type_classes_met.met

pub tight_callbridge_cb_type_classes : Tight cb_type_classes.ended (λ M 𝓤 𝓛. cb_type_classes.clauses 𝓛)
tight_callbridge_cb_type_classes c r q w v a b = (settle (result cb_type_classes.ended c) a.ensured b.ensured (λ e f. e.0 ∙ sym f.0), λ i. (tt, (tt, (same_classes i, tt))))
  where
    same_classes : w.1.1.0 ≡ v.1.1.0
    same_classes = settle (flat_Classes.the_row).coded a.ensured b.ensured (λ e f. e.1 ∙ sym f.1)

pub meets_callbridge_cb_member_run : Meets cb_member_run.ended (λ M 𝓤 𝓛. cb_member_run.clauses 𝓛) cb_member_run_symbol.name cb_member_run_symbol.code
meets_callbridge_cb_member_run M = cb_member_run_met.met

pub tight_callbridge_cb_member_run : Tight cb_member_run.ended (λ M 𝓤 𝓛. cb_member_run.clauses 𝓛)
tight_callbridge_cb_member_run c r q w v a b = (settle (result cb_member_run.ended c) a.ensured b.ensured (λ e f. e.0 ∙ sym f.0), λ i. (tt, (tt, (same_part i, tt))))
  where
    same_part : w.1.1.0 ≡ v.1.1.0
    same_part = settle (flat_Part.the_row).coded a.ensured b.ensured (λ e f. e.1 ∙ sym f.1)

pub meets_callbridge_cb_member_offsets : Meets cb_member_offsets.ended (λ M 𝓤 𝓛. cb_member_offsets.clauses 𝓛) cb_member_offsets_symbol.name cb_member_offsets_symbol.code
meets_callbridge_cb_member_offsets M = cb_member_offsets_met.met

pub tight_callbridge_cb_member_offsets : Tight cb_member_offsets.ended (λ M 𝓤 𝓛. cb_member_offsets.clauses 𝓛)
tight_callbridge_cb_member_offsets c r q w v a b = (settle (result cb_member_offsets.ended c) a.ensured b.ensured (λ e f. e.0 ∙ sym f.0), λ i. (tt, (tt, (same_offsets i, tt))))
  where
    same_offsets : w.1.1.0 ≡ v.1.1.0
    same_offsets = settle bytes a.ensured b.ensured (λ e f. e.1 ∙ sym f.1)

pub meets_callbridge_cb_layout_of : Meets cb_layout_of.ended (λ M 𝓤 𝓛. cb_layout_of.clauses 𝓛) cb_layout_of_symbol.name cb_layout_of_symbol.code
meets_callbridge_cb_layout_of M = cb_layout_of_met.met

pub tight_callbridge_cb_layout_of : Tight cb_layout_of.ended (λ M 𝓤 𝓛. cb_layout_of.clauses 𝓛)
tight_callbridge_cb_layout_of c r q w v a b = (settle (result cb_layout_of.ended c) a.ensured b.ensured (λ e f. e.0 ∙ sym f.0), λ i. (tt, (same_layout i, tt)))
  where
    same_layout : w.1.0 ≡ v.1.0
    same_layout = settle (flat_Layout.the_row).coded a.ensured b.ensured (λ e f. e.1 ∙ sym f.1)

pub meets_callbridge_cb_lay_out : Meets cb_lay_out.ended (λ M 𝓤 𝓛. cb_lay_out.clauses 𝓛) cb_lay_out_symbol.name cb_lay_out_symbol.code
meets_callbridge_cb_lay_out M = cb_lay_out_met.met

pub tight_callbridge_cb_lay_out : Tight cb_lay_out.ended (λ M 𝓤 𝓛. cb_lay_out.clauses 𝓛)
tight_callbridge_cb_lay_out c r q w v a b = (settle (result cb_lay_out.ended c) a.ensured b.ensured (λ e f. e.0 ∙ sym f.0), λ i. (tt, (same_layout i, (same_list i, tt))))
  where
    same_layout : w.1.0 ≡ v.1.0
    same_layout = settle (flat_Layout.the_row).coded a.ensured b.ensured (λ e f. e.1.0 ∙ sym f.1.0)

    same_list : w.1.1.0 ≡ v.1.1.0
    same_list = settle (coded_list (flat_Placement.the_row).coded) a.ensured b.ensured (λ e f. e.1.1 ∙ sym f.1.1)

pub meets_callbridge_cb_needs_stack : Meets cb_needs_stack.ended (λ M 𝓤 𝓛. cb_needs_stack.clauses 𝓛) cb_needs_stack_symbol.name cb_needs_stack_symbol.code
meets_callbridge_cb_needs_stack M = cb_needs_stack_met.met

pub tight_callbridge_cb_needs_stack : Tight cb_needs_stack.ended (λ M 𝓤 𝓛. cb_needs_stack.clauses 𝓛)
tight_callbridge_cb_needs_stack c r q w v a b = (settle (result cb_needs_stack.ended c) a.ensured b.ensured (λ e f. e.0 ∙ sym f.0), λ i. (tt, (same_need i, tt)))
  where
    same_need : w.1.0 ≡ v.1.0
    same_need = settle (flat_StackNeed.the_row).coded a.ensured b.ensured (λ e f. e.1 ∙ sym f.1)

pub meets_callbridge_cb_write_listing : Meets cb_write_listing.ended (λ M 𝓤 𝓛. cb_write_listing.clauses 𝓛) cb_write_listing_symbol.name cb_write_listing_symbol.code
meets_callbridge_cb_write_listing M = cb_write_listing_met.met

pub tight_callbridge_cb_write_listing : Tight cb_write_listing.ended (λ M 𝓤 𝓛. cb_write_listing.clauses 𝓛)
tight_callbridge_cb_write_listing c r q w v a b = (settle (result cb_write_listing.ended c) a.ensured b.ensured (λ e f. e.0 ∙ sym f.0), λ i. (tt, (same_out i, tt)))
  where
    same_out : w.1.0 ≡ v.1.0
    same_out = settle bytes a.ensured b.ensured (λ e f. e.2 ∙ sym f.2)

pub meets_callbridge_cb_tidy_length : Meets cb_tidy_length.ended (λ M 𝓤 𝓛. cb_tidy_length.clauses 𝓛) cb_tidy_length_symbol.name cb_tidy_length_symbol.code
meets_callbridge_cb_tidy_length M = cb_tidy_length_met.met

pub tight_callbridge_cb_tidy_length : Tight cb_tidy_length.ended (λ M 𝓤 𝓛. cb_tidy_length.clauses 𝓛)
tight_callbridge_cb_tidy_length c r q w v a b = (settle (result cb_tidy_length.ended c) a.ensured b.ensured (λ e f. e.0 ∙ sym f.0), λ i. (tt, (same_tidied i, tt)))
  where
    same_tidied : w.1.0 ≡ v.1.0
    same_tidied = settle (flat_Tidied.the_row).coded a.ensured b.ensured (λ e f. e.1 ∙ sym f.1)

pub meets_callbridge_cb_tidy : Meets cb_tidy.ended (λ M 𝓤 𝓛. cb_tidy.clauses 𝓛) cb_tidy_symbol.name cb_tidy_symbol.code
meets_callbridge_cb_tidy M = cb_tidy_met.met

pub tight_callbridge_cb_tidy : Tight cb_tidy.ended (λ M 𝓤 𝓛. cb_tidy.clauses 𝓛)
tight_callbridge_cb_tidy c r q w v a b = (settle (result cb_tidy.ended c) a.ensured b.ensured (λ e f. e.0 ∙ sym f.0), λ i. (tt, (same_out i, tt)))
  where
    same_out : w.1.0 ≡ v.1.0
    same_out = settle bytes a.ensured b.ensured (λ e f. e.1 ∙ sym f.1)

pub meets_callbridge_cb_place_values : Meets cb_place_values.ended (λ M 𝓤 𝓛. cb_place_values.clauses 𝓛) cb_place_values_symbol.name cb_place_values_symbol.code
meets_callbridge_cb_place_values M = cb_place_values_met.met

pub tight_callbridge_cb_place_values : Tight cb_place_values.ended (λ M 𝓤 𝓛. cb_place_values.clauses 𝓛)
tight_callbridge_cb_place_values c r q w v a b = (settle (result cb_place_values.ended c) a.ensured b.ensured (λ e f. e.0 ∙ sym f.0), λ i. (tt, (tt, (tt, (same_registers i, (same_upper i, (same_stack i, (same_placed i, tt))))))))
  where
    same_registers : w.1.1.1.0 ≡ v.1.1.1.0
    same_registers = settle bytes a.ensured b.ensured (λ e f. e.1.1.0 ∙ sym f.1.1.0)

    same_upper : w.1.1.1.1.0 ≡ v.1.1.1.1.0
    same_upper = settle bytes a.ensured b.ensured (λ e f. e.1.1.1.0 ∙ sym f.1.1.1.0)

    same_stack : w.1.1.1.1.1.0 ≡ v.1.1.1.1.1.0
    same_stack = settle bytes a.ensured b.ensured (λ e f. e.1.1.1.1 ∙ sym f.1.1.1.1)

    same_placed : w.1.1.1.1.1.1.0 ≡ v.1.1.1.1.1.1.0
    same_placed = settle (flat_Placed.the_row).coded a.ensured b.ensured (λ e f. e.1.0 ∙ sym f.1.0)

pub meets_callbridge_cb_gather_values : Meets cb_gather_values.ended (λ M 𝓤 𝓛. cb_gather_values.clauses 𝓛) cb_gather_values_symbol.name cb_gather_values_symbol.code
meets_callbridge_cb_gather_values M = cb_gather_values_met.met

pub tight_callbridge_cb_gather_values : Tight cb_gather_values.ended (λ M 𝓤 𝓛. cb_gather_values.clauses 𝓛)
tight_callbridge_cb_gather_values c r q w v a b = (settle (result cb_gather_values.ended c) a.ensured b.ensured (λ e f. e.0 ∙ sym f.0), λ i. (tt, (tt, (tt, (tt, (same_values i, (same_gathered i, tt)))))))
  where
    same_values : w.1.1.1.1.0 ≡ v.1.1.1.1.0
    same_values = settle bytes a.ensured b.ensured (λ e f. e.1.1 ∙ sym f.1.1)

    same_gathered : w.1.1.1.1.1.0 ≡ v.1.1.1.1.1.0
    same_gathered = settle (flat_Gathered.the_row).coded a.ensured b.ensured (λ e f. e.1.0 ∙ sym f.1.0)

pub meets_callbridge_cb_put_returned : Meets cb_put_returned.ended (λ M 𝓤 𝓛. cb_put_returned.clauses 𝓛) cb_put_returned_symbol.name cb_put_returned_symbol.code
meets_callbridge_cb_put_returned M = cb_put_returned_met.met

pub tight_callbridge_cb_put_returned : Tight cb_put_returned.ended (λ M 𝓤 𝓛. cb_put_returned.clauses 𝓛)
tight_callbridge_cb_put_returned c r q w v a b = (settle (result cb_put_returned.ended c) a.ensured b.ensured (λ e f. e.0 ∙ sym f.0), λ i. (tt, (tt, (tt, (same_image i, (same_upper i, tt))))))
  where
    same_image : w.1.1.1.0 ≡ v.1.1.1.0
    same_image = settle bytes a.ensured b.ensured (λ e f. e.1.0 ∙ sym f.1.0)

    same_upper : w.1.1.1.1.0 ≡ v.1.1.1.1.0
    same_upper = settle bytes a.ensured b.ensured (λ e f. e.1.1 ∙ sym f.1.1)

pub meets_callbridge_cb_take_returned : Meets cb_take_returned.ended (λ M 𝓤 𝓛. cb_take_returned.clauses 𝓛) cb_take_returned_symbol.name cb_take_returned_symbol.code
meets_callbridge_cb_take_returned M = cb_take_returned_met.met

pub tight_callbridge_cb_take_returned : Tight cb_take_returned.ended (λ M 𝓤 𝓛. cb_take_returned.clauses 𝓛)
tight_callbridge_cb_take_returned c r q w v a b = (settle (result cb_take_returned.ended c) a.ensured b.ensured (λ e f. e.0 ∙ sym f.0), λ i. (tt, (tt, (tt, (same_value i, (same_gathered i, tt))))))
  where
    same_value : w.1.1.1.0 ≡ v.1.1.1.0
    same_value = settle bytes a.ensured b.ensured (λ e f. e.1.1 ∙ sym f.1.1)

    same_gathered : w.1.1.1.1.0 ≡ v.1.1.1.1.0
    same_gathered = settle (flat_Gathered.the_row).coded a.ensured b.ensured (λ e f. e.1.0 ∙ sym f.1.0)

pub meets_callbridge_cb_new_station : Meets cb_new_station.ended (λ M 𝓤 𝓛. cb_new_station.clauses 𝓛) cb_new_station_symbol.name cb_new_station_symbol.code
meets_callbridge_cb_new_station M = cb_new_station_met.met

pub tight_callbridge_cb_new_station : Tight cb_new_station.ended (λ M 𝓤 𝓛. cb_new_station.clauses 𝓛)
tight_callbridge_cb_new_station c r q w v a b = (equal (result cb_new_station.ended c) a.ensured b.ensured, refl)

pub meets_callbridge_cb_attach : Meets cb_attach.ended (λ M 𝓤 𝓛. cb_attach.clauses 𝓛) cb_attach_symbol.name cb_attach_symbol.code
meets_callbridge_cb_attach M = cb_attach_met.met

pub tight_callbridge_cb_attach : Tight cb_attach.ended (λ M 𝓤 𝓛. cb_attach.clauses 𝓛)
tight_callbridge_cb_attach c r q w v a b = (settle (result cb_attach.ended c) a.ensured b.ensured (λ e f. e.0 ∙ sym f.0), λ i. (same_station i, (same_seat i, (tt, tt))))
  where
    same_station : w.0 ≡ v.0
    same_station = settle (flat_Station.the_row).coded a.ensured b.ensured (λ e f. e.1.0 ∙ sym f.1.0)

    same_seat : w.1.0 ≡ v.1.0
    same_seat = settle bytes a.ensured b.ensured (λ e f. e.1.1 ∙ sym f.1.1)

pub meets_callbridge_cb_detach : Meets cb_detach.ended (λ M 𝓤 𝓛. cb_detach.clauses 𝓛) cb_detach_symbol.name cb_detach_symbol.code
meets_callbridge_cb_detach M = cb_detach_met.met

pub tight_callbridge_cb_detach : Tight cb_detach.ended (λ M 𝓤 𝓛. cb_detach.clauses 𝓛)
tight_callbridge_cb_detach c r q w v a b = (settle (result cb_detach.ended c) a.ensured b.ensured (λ e f. e.0 ∙ sym f.0), λ i. (same_station i, (same_seat i, tt)))
  where
    same_station : w.0 ≡ v.0
    same_station = settle (flat_Station.the_row).coded a.ensured b.ensured (λ e f. e.1.0 ∙ sym f.1.0)

    same_seat : w.1.0 ≡ v.1.0
    same_seat = settle bytes a.ensured b.ensured (λ e f. e.1.1 ∙ sym f.1.1)

pub meets_callbridge_cb_change : Meets cb_change.ended (λ M 𝓤 𝓛. cb_change.clauses 𝓛) cb_change_symbol.name cb_change_symbol.code
meets_callbridge_cb_change M = cb_change_met.met

pub tight_callbridge_cb_change : Tight cb_change.ended (λ M 𝓤 𝓛. cb_change.clauses 𝓛)
tight_callbridge_cb_change c r q w v a b = (settle (result cb_change.ended c) a.ensured b.ensured (λ e f. e.0 ∙ sym f.0), λ i. (same_station i, (same_seat i, (tt, tt))))
  where
    same_station : w.0 ≡ v.0
    same_station = settle (flat_Station.the_row).coded a.ensured b.ensured (λ e f. e.1.0 ∙ sym f.1.0)

    same_seat : w.1.0 ≡ v.1.0
    same_seat = settle bytes a.ensured b.ensured (λ e f. e.1.1 ∙ sym f.1.1)

pub meets_callbridge_cb_open_walk : Meets cb_open_walk.ended (λ M 𝓤 𝓛. cb_open_walk.clauses 𝓛) cb_open_walk_symbol.name cb_open_walk_symbol.code
meets_callbridge_cb_open_walk M = cb_open_walk_met.met

pub tight_callbridge_cb_open_walk : Tight cb_open_walk.ended (λ M 𝓤 𝓛. cb_open_walk.clauses 𝓛)
tight_callbridge_cb_open_walk c r q w v a b = (settle (result cb_open_walk.ended c) a.ensured b.ensured (λ e f. e.0 ∙ sym f.0), λ i. (tt, (tt, (same_walk i, tt))))
  where
    same_walk : w.1.1.0 ≡ v.1.1.0
    same_walk = settle (flat_Walk.the_row).coded a.ensured b.ensured (λ e f. e.1 ∙ sym f.1)

pub meets_callbridge_cb_step : Meets cb_step.ended (λ M 𝓤 𝓛. cb_step.clauses 𝓛) cb_step_symbol.name cb_step_symbol.code
meets_callbridge_cb_step M = cb_step_met.met

pub tight_callbridge_cb_step : Tight cb_step.ended (λ M 𝓤 𝓛. cb_step.clauses 𝓛)
tight_callbridge_cb_step c r q w v a b = (settle (result cb_step.ended c) a.ensured b.ensured (λ e f. e.0 ∙ sym f.0), λ i. (tt, (tt, (same_walk i, (tt, (tt, (tt, (same_out i, tt))))))))
  where
    same_walk : w.1.1.0 ≡ v.1.1.0
    same_walk = settle (flat_Walk.the_row).coded a.ensured b.ensured (λ e f. e.1.0 ∙ sym f.1.0)

    same_out : w.1.1.1.1.1.1.0 ≡ v.1.1.1.1.1.1.0
    same_out = settle bytes a.ensured b.ensured (λ e f. e.1.1 ∙ sym f.1.1)

pub meets_callbridge_cb_finish_walk : Meets cb_finish_walk.ended (λ M 𝓤 𝓛. cb_finish_walk.clauses 𝓛) cb_finish_walk_symbol.name cb_finish_walk_symbol.code
meets_callbridge_cb_finish_walk M = cb_finish_walk_met.met

pub tight_callbridge_cb_finish_walk : Tight cb_finish_walk.ended (λ M 𝓤 𝓛. cb_finish_walk.clauses 𝓛)
tight_callbridge_cb_finish_walk c r q w v a b = (settle (result cb_finish_walk.ended c) a.ensured b.ensured (λ e f. e.0 ∙ sym f.0), λ i. (tt, (tt, (same_walk i, (tt, (tt, (tt, (same_out i, tt))))))))
  where
    same_walk : w.1.1.0 ≡ v.1.1.0
    same_walk = settle (flat_Walk.the_row).coded a.ensured b.ensured (λ e f. e.1.0 ∙ sym f.1.0)

    same_out : w.1.1.1.1.1.1.0 ≡ v.1.1.1.1.1.1.0
    same_out = settle bytes a.ensured b.ensured (λ e f. e.1.1 ∙ sym f.1.1)

pub meets_callbridge_cb_show : Meets cb_show.ended (λ M 𝓤 𝓛. cb_show.clauses 𝓛) cb_show_symbol.name cb_show_symbol.code
meets_callbridge_cb_show M = cb_show_met.met

pub tight_callbridge_cb_show : Tight cb_show.ended (λ M 𝓤 𝓛. cb_show.clauses 𝓛)
tight_callbridge_cb_show c r q w v a b = (settle (result cb_show.ended c) a.ensured b.ensured (λ e f. e.0 ∙ sym f.0), λ i. (tt, (tt, (tt, (tt, (tt, (tt, (same_part i, tt))))))))
  where
    same_part : w.1.1.1.1.1.1.0 ≡ v.1.1.1.1.1.1.0
    same_part = settle (flat_Part.the_row).coded a.ensured b.ensured (λ e f. e.1 ∙ sym f.1)
