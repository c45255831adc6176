-- Written by tools/tightness: "Each public call accepts all inputs": the contracts of the calls that hosts use ask nothing, one theorem for each. Assumes nothing.
use Rattle.std.specs.Prelude.{refl}
use Rattle.tightness.specs.Tight.{Total}
use Rattle.form.specs.contracts.read_form
use Rattle.questions.specs.contracts.type_size
use Rattle.questions.specs.contracts.type_align
use Rattle.questions.specs.contracts.type_extent
use Rattle.questions.specs.contracts.type_classes
use Rattle.questions.specs.contracts.run_at
use Rattle.questions.specs.contracts.member_run
use Rattle.questions.specs.contracts.member_offsets
use Rattle.layout.specs.contracts.check
use Rattle.layout.specs.contracts.layout_of
use Rattle.layout.specs.contracts.needs_stack
use Rattle.layout.specs.contracts.lay_out
use Rattle.old_types.specs.contracts.old_extent
use Rattle.old_types.specs.contracts.old_run_at
use Rattle.old_types.specs.contracts.old_member_run
use Rattle.old_types.specs.contracts.kept_refusal
use Rattle.old_layout.specs.contracts.old_check
use Rattle.old_layout.specs.contracts.old_layout_of
use Rattle.old_layout.specs.contracts.old_layout_with
use Rattle.tidying.specs.contracts.tidy_length
use Rattle.tidying.specs.contracts.tidy
use Rattle.moving.specs.contracts.place_values
use Rattle.moving.specs.contracts.gather_values
use Rattle.returning.specs.contracts.put_returned
use Rattle.returning.specs.contracts.take_returned
use Rattle.planning.specs.contracts.plan_of
use Rattle.by_plan.specs.contracts.place_by_plan
use Rattle.by_plan.specs.contracts.gather_by_plan
use Rattle.by_plan.specs.contracts.put_by_plan
use Rattle.by_plan.specs.contracts.take_by_plan
use Rattle.station.specs.contracts.new_station
use Rattle.station.specs.contracts.attach
use Rattle.station.specs.contracts.detach
use Rattle.station.specs.contracts.change
use Rattle.walk.specs.contracts.open_walk
use Rattle.walk.specs.contracts.step
use Rattle.finishing.specs.contracts.finish_walk
use Rattle.walk.specs.contracts.shown_at
use Rattle.walk.specs.contracts.show
use Rattle.walk.specs.contracts.show_number
use Rattle.listing.specs.contracts.write_listing
use Rattle.callbridge.specs.contracts.cb_version
use Rattle.callbridge.specs.contracts.cb_check
use Rattle.callbridge.specs.contracts.cb_type_extent
use Rattle.callbridge.specs.contracts.cb_type_classes
use Rattle.callbridge.specs.contracts.cb_member_run
use Rattle.callbridge.specs.contracts.cb_member_offsets
use Rattle.callbridge.specs.contracts.cb_layout_of
use Rattle.callbridge.specs.contracts.cb_needs_stack
use Rattle.callbridge.specs.contracts.cb_lay_out
use Rattle.callbridge.specs.contracts.cb_write_listing
use Rattle.callbridge.specs.contracts.cb_tidy_length
use Rattle.callbridge.specs.contracts.cb_tidy
use Rattle.callbridge.specs.contracts.cb_place_values
use Rattle.callbridge.specs.contracts.cb_gather_values
use Rattle.callbridge.specs.contracts.cb_put_returned
use Rattle.callbridge.specs.contracts.cb_take_returned
use Rattle.callbridge.specs.contracts.cb_new_station
use Rattle.callbridge.specs.contracts.cb_attach
use Rattle.callbridge.specs.contracts.cb_detach
use Rattle.callbridge.specs.contracts.cb_change
use Rattle.callbridge.specs.contracts.cb_open_walk
use Rattle.callbridge.specs.contracts.cb_step
use Rattle.callbridge.specs.contracts.cb_finish_walk
use Rattle.callbridge.specs.contracts.cb_show

pub total_form_read_form : Total read_form.ended (λ M 𝓤 𝓛. read_form.clauses 𝓛)
total_form_read_form c g = refl

pub total_questions_type_size : Total type_size.ended (λ M 𝓤 𝓛. type_size.clauses 𝓛)
total_questions_type_size c g = refl

pub total_questions_type_align : Total type_align.ended (λ M 𝓤 𝓛. type_align.clauses 𝓛)
total_questions_type_align c g = refl

pub total_questions_type_extent : Total type_extent.ended (λ M 𝓤 𝓛. type_extent.clauses 𝓛)
total_questions_type_extent c g = refl

pub total_questions_type_classes : Total type_classes.ended (λ M 𝓤 𝓛. type_classes.clauses 𝓛)
total_questions_type_classes c g = refl

pub total_questions_run_at : Total run_at.ended (λ M 𝓤 𝓛. run_at.clauses 𝓛)
total_questions_run_at c g = refl

pub total_questions_member_run : Total member_run.ended (λ M 𝓤 𝓛. member_run.clauses 𝓛)
total_questions_member_run c g = refl

pub total_questions_member_offsets : Total member_offsets.ended (λ M 𝓤 𝓛. member_offsets.clauses 𝓛)
total_questions_member_offsets c g = refl

pub total_layout_check : Total check.ended (λ M 𝓤 𝓛. check.clauses 𝓛)
total_layout_check c g = refl

pub total_layout_layout_of : Total layout_of.ended (λ M 𝓤 𝓛. layout_of.clauses 𝓛)
total_layout_layout_of c g = refl

pub total_layout_needs_stack : Total needs_stack.ended (λ M 𝓤 𝓛. needs_stack.clauses 𝓛)
total_layout_needs_stack c g = refl

pub total_layout_lay_out : Total lay_out.ended (λ M 𝓤 𝓛. lay_out.clauses 𝓛)
total_layout_lay_out c g = refl

pub total_old_types_old_extent : Total old_extent.ended (λ M 𝓤 𝓛. old_extent.clauses 𝓛)
total_old_types_old_extent c g = refl

pub total_old_types_old_run_at : Total old_run_at.ended (λ M 𝓤 𝓛. old_run_at.clauses 𝓛)
total_old_types_old_run_at c g = refl

pub total_old_types_old_member_run : Total old_member_run.ended (λ M 𝓤 𝓛. old_member_run.clauses 𝓛)
total_old_types_old_member_run c g = refl

pub total_old_types_kept_refusal : Total kept_refusal.ended (λ M 𝓤 𝓛. kept_refusal.clauses 𝓛)
total_old_types_kept_refusal c g = refl

pub total_old_layout_old_check : Total old_check.ended (λ M 𝓤 𝓛. old_check.clauses 𝓛)
total_old_layout_old_check c g = refl

pub total_old_layout_old_layout_of : Total old_layout_of.ended (λ M 𝓤 𝓛. old_layout_of.clauses 𝓛)
total_old_layout_old_layout_of c g = refl

pub total_old_layout_old_layout_with : Total old_layout_with.ended (λ M 𝓤 𝓛. old_layout_with.clauses 𝓛)
total_old_layout_old_layout_with c g = refl

pub total_tidying_tidy_length : Total tidy_length.ended (λ M 𝓤 𝓛. tidy_length.clauses 𝓛)
total_tidying_tidy_length c g = refl

pub total_tidying_tidy : Total tidy.ended (λ M 𝓤 𝓛. tidy.clauses 𝓛)
total_tidying_tidy c g = refl

pub total_moving_place_values : Total place_values.ended (λ M 𝓤 𝓛. place_values.clauses 𝓛)
total_moving_place_values c g = refl

pub total_moving_gather_values : Total gather_values.ended (λ M 𝓤 𝓛. gather_values.clauses 𝓛)
total_moving_gather_values c g = refl

pub total_returning_put_returned : Total put_returned.ended (λ M 𝓤 𝓛. put_returned.clauses 𝓛)
total_returning_put_returned c g = refl

pub total_returning_take_returned : Total take_returned.ended (λ M 𝓤 𝓛. take_returned.clauses 𝓛)
total_returning_take_returned c g = refl

pub total_planning_plan_of : Total plan_of.ended (λ M 𝓤 𝓛. plan_of.clauses 𝓛)
total_planning_plan_of c g = refl

pub total_by_plan_place_by_plan : Total place_by_plan.ended (λ M 𝓤 𝓛. place_by_plan.clauses 𝓛)
total_by_plan_place_by_plan c g = refl

pub total_by_plan_gather_by_plan : Total gather_by_plan.ended (λ M 𝓤 𝓛. gather_by_plan.clauses 𝓛)
total_by_plan_gather_by_plan c g = refl

pub total_by_plan_put_by_plan : Total put_by_plan.ended (λ M 𝓤 𝓛. put_by_plan.clauses 𝓛)
total_by_plan_put_by_plan c g = refl

pub total_by_plan_take_by_plan : Total take_by_plan.ended (λ M 𝓤 𝓛. take_by_plan.clauses 𝓛)
total_by_plan_take_by_plan c g = refl

pub total_station_new_station : Total new_station.ended (λ M 𝓤 𝓛. new_station.clauses 𝓛)
total_station_new_station c g = refl

pub total_station_attach : Total attach.ended (λ M 𝓤 𝓛. attach.clauses 𝓛)
total_station_attach c g = refl

pub total_station_detach : Total detach.ended (λ M 𝓤 𝓛. detach.clauses 𝓛)
total_station_detach c g = refl

pub total_station_change : Total change.ended (λ M 𝓤 𝓛. change.clauses 𝓛)
total_station_change c g = refl

pub total_walk_open_walk : Total open_walk.ended (λ M 𝓤 𝓛. open_walk.clauses 𝓛)
total_walk_open_walk c g = refl

pub total_walk_step : Total step.ended (λ M 𝓤 𝓛. step.clauses 𝓛)
total_walk_step c g = refl

pub total_finishing_finish_walk : Total finish_walk.ended (λ M 𝓤 𝓛. finish_walk.clauses 𝓛)
total_finishing_finish_walk c g = refl

pub total_walk_shown_at : Total shown_at.ended (λ M 𝓤 𝓛. shown_at.clauses 𝓛)
total_walk_shown_at c g = refl

pub total_walk_show : Total show.ended (λ M 𝓤 𝓛. show.clauses 𝓛)
total_walk_show c g = refl

pub total_walk_show_number : Total show_number.ended (λ M 𝓤 𝓛. show_number.clauses 𝓛)
total_walk_show_number c g = refl

pub total_listing_write_listing : Total write_listing.ended (λ M 𝓤 𝓛. write_listing.clauses 𝓛)
total_listing_write_listing c g = refl

pub total_callbridge_cb_version : Total cb_version.ended (λ M 𝓤 𝓛. cb_version.clauses 𝓛)
total_callbridge_cb_version c g = refl

pub total_callbridge_cb_check : Total cb_check.ended (λ M 𝓤 𝓛. cb_check.clauses 𝓛)
total_callbridge_cb_check c g = refl

pub total_callbridge_cb_type_extent : Total cb_type_extent.ended (λ M 𝓤 𝓛. cb_type_extent.clauses 𝓛)
total_callbridge_cb_type_extent c g = refl

pub total_callbridge_cb_type_classes : Total cb_type_classes.ended (λ M 𝓤 𝓛. cb_type_classes.clauses 𝓛)
total_callbridge_cb_type_classes c g = refl

pub total_callbridge_cb_member_run : Total cb_member_run.ended (λ M 𝓤 𝓛. cb_member_run.clauses 𝓛)
total_callbridge_cb_member_run c g = refl

pub total_callbridge_cb_member_offsets : Total cb_member_offsets.ended (λ M 𝓤 𝓛. cb_member_offsets.clauses 𝓛)
total_callbridge_cb_member_offsets c g = refl

pub total_callbridge_cb_layout_of : Total cb_layout_of.ended (λ M 𝓤 𝓛. cb_layout_of.clauses 𝓛)
total_callbridge_cb_layout_of c g = refl

pub total_callbridge_cb_needs_stack : Total cb_needs_stack.ended (λ M 𝓤 𝓛. cb_needs_stack.clauses 𝓛)
total_callbridge_cb_needs_stack c g = refl

pub total_callbridge_cb_lay_out : Total cb_lay_out.ended (λ M 𝓤 𝓛. cb_lay_out.clauses 𝓛)
total_callbridge_cb_lay_out c g = refl

pub total_callbridge_cb_write_listing : Total cb_write_listing.ended (λ M 𝓤 𝓛. cb_write_listing.clauses 𝓛)
total_callbridge_cb_write_listing c g = refl

pub total_callbridge_cb_tidy_length : Total cb_tidy_length.ended (λ M 𝓤 𝓛. cb_tidy_length.clauses 𝓛)
total_callbridge_cb_tidy_length c g = refl

pub total_callbridge_cb_tidy : Total cb_tidy.ended (λ M 𝓤 𝓛. cb_tidy.clauses 𝓛)
total_callbridge_cb_tidy c g = refl

pub total_callbridge_cb_place_values : Total cb_place_values.ended (λ M 𝓤 𝓛. cb_place_values.clauses 𝓛)
total_callbridge_cb_place_values c g = refl

pub total_callbridge_cb_gather_values : Total cb_gather_values.ended (λ M 𝓤 𝓛. cb_gather_values.clauses 𝓛)
total_callbridge_cb_gather_values c g = refl

pub total_callbridge_cb_put_returned : Total cb_put_returned.ended (λ M 𝓤 𝓛. cb_put_returned.clauses 𝓛)
total_callbridge_cb_put_returned c g = refl

pub total_callbridge_cb_take_returned : Total cb_take_returned.ended (λ M 𝓤 𝓛. cb_take_returned.clauses 𝓛)
total_callbridge_cb_take_returned c g = refl

pub total_callbridge_cb_new_station : Total cb_new_station.ended (λ M 𝓤 𝓛. cb_new_station.clauses 𝓛)
total_callbridge_cb_new_station c g = refl

pub total_callbridge_cb_attach : Total cb_attach.ended (λ M 𝓤 𝓛. cb_attach.clauses 𝓛)
total_callbridge_cb_attach c g = refl

pub total_callbridge_cb_detach : Total cb_detach.ended (λ M 𝓤 𝓛. cb_detach.clauses 𝓛)
total_callbridge_cb_detach c g = refl

pub total_callbridge_cb_change : Total cb_change.ended (λ M 𝓤 𝓛. cb_change.clauses 𝓛)
total_callbridge_cb_change c g = refl

pub total_callbridge_cb_open_walk : Total cb_open_walk.ended (λ M 𝓤 𝓛. cb_open_walk.clauses 𝓛)
total_callbridge_cb_open_walk c g = refl

pub total_callbridge_cb_step : Total cb_step.ended (λ M 𝓤 𝓛. cb_step.clauses 𝓛)
total_callbridge_cb_step c g = refl

pub total_callbridge_cb_finish_walk : Total cb_finish_walk.ended (λ M 𝓤 𝓛. cb_finish_walk.clauses 𝓛)
total_callbridge_cb_finish_walk c g = refl

pub total_callbridge_cb_show : Total cb_show.ended (λ M 𝓤 𝓛. cb_show.clauses 𝓛)
total_callbridge_cb_show c g = refl
