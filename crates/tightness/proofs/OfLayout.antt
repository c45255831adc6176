-- Written by tools/tightness: each public function of `layout` meets its contract, and the contract is tight. Assumes nothing.
use Rattle.std.specs.Prelude.{◌≡◌, refl}
use mathlib.Core.Path.{sym, ◌∙◌}
use base.Stored.{coded_list}
use Rattle.tightness.specs.Tight.{Meets, Tight}
use Rattle.tightness.proofs.Laws.{bytes, equal, result, settle}
use Rattle.layout.specs.contracts.placements.Laying as layout_Laying
use Rattle.layout.specs.contracts.placements.Placement as layout_Placement
use Rattle.layout.specs.contracts.layout_with
use Rattle.layout.proofs.layout_with.Met as layout_with_met
use Rattle.layout.proofs.layout_with.Symbol as layout_with_symbol
use Rattle.layout.specs.contracts.layout_of
use Rattle.layout.proofs.layout_of.Met as layout_of_met
use Rattle.layout.proofs.layout_of.Symbol as layout_of_symbol
use Rattle.layout.specs.contracts.check
use Rattle.layout.proofs.check.Met as check_met
use Rattle.layout.proofs.check.Symbol as check_symbol
use Rattle.layout.specs.contracts.described.Described.used_after as Described_used_after
use Rattle.layout.proofs.described.Described.used_after.Met as Described_used_after_met
use Rattle.layout.proofs.described.Described.used_after.Symbol as Described_used_after_symbol
use Rattle.layout.specs.contracts.begin_with
use Rattle.layout.proofs.begin_with.Met as begin_with_met
use Rattle.layout.proofs.begin_with.Symbol as begin_with_symbol
use Rattle.layout.specs.contracts.lay_out
use Rattle.layout.proofs.lay_out.Met as lay_out_met
use Rattle.layout.proofs.lay_out.Symbol as lay_out_symbol
use Rattle.layout.specs.contracts.needs_stack
use Rattle.layout.proofs.needs_stack.Met as needs_stack_met
use Rattle.layout.proofs.needs_stack.Symbol as needs_stack_symbol
use Rattle.layout.specs.contracts.placements.Laying.fresh as Laying_fresh
use Rattle.layout.proofs.placements.Laying.fresh.Met as Laying_fresh_met
use Rattle.layout.proofs.placements.Laying.fresh.Symbol as Laying_fresh_symbol
use Rattle.layout.specs.contracts.placements.Laying.step as Laying_step
use Rattle.layout.proofs.placements.Laying.step.Met as Laying_step_met
use Rattle.layout.proofs.placements.Laying.step.Symbol as Laying_step_symbol
use Rattle.layout.specs.contracts.described.Described.named as Described_named
use Rattle.layout.proofs.described.Described.named.Met as Described_named_met
use Rattle.layout.proofs.described.Described.named.Symbol as Described_named_symbol
use Rattle.layout.specs.contracts.described.Described.arguments as Described_arguments
use Rattle.layout.proofs.described.Described.arguments.Met as Described_arguments_met
use Rattle.layout.proofs.described.Described.arguments.Symbol as Described_arguments_symbol
use Rattle.layout.specs.contracts.described.Described.hidden as Described_hidden
use Rattle.layout.proofs.described.Described.hidden.Met as Described_hidden_met
use Rattle.layout.proofs.described.Described.hidden.Symbol as Described_hidden_symbol
use Rattle.layout.specs.contracts.described.Described.place_as as Described_place_as
use Rattle.layout.proofs.described.Described.place_as.Met as Described_place_as_met
use Rattle.layout.proofs.described.Described.place_as.Symbol as Described_place_as_symbol
use Rattle.layout.specs.contracts.described.Described.place_argument as Described_place_argument
use Rattle.layout.proofs.described.Described.place_argument.Met as Described_place_argument_met
use Rattle.layout.proofs.described.Described.place_argument.Symbol as Described_place_argument_symbol

pub meets_layout_layout_with : Meets layout_with.ended (λ M 𝓤 𝓛. layout_with.clauses 𝓛) layout_with_symbol.name layout_with_symbol.code
meets_layout_layout_with M = layout_with_met.met

pub tight_layout_layout_with : Tight layout_with.ended (λ M 𝓤 𝓛. layout_with.clauses 𝓛)
tight_layout_layout_with c r q w v a b = (settle (result layout_with.ended c) a.ensured b.ensured (λ e f. e.0 ∙ sym f.0), λ i. (tt, (same_table i, tt)))
  where
    same_table : w.1.0 ≡ v.1.0
    same_table = settle bytes a.ensured b.ensured (λ e f. e.1 ∙ sym f.1)

pub meets_layout_layout_of : Meets layout_of.ended (λ M 𝓤 𝓛. layout_of.clauses 𝓛) layout_of_symbol.name layout_of_symbol.code
meets_layout_layout_of M = layout_of_met.met

pub tight_layout_layout_of : Tight layout_of.ended (λ M 𝓤 𝓛. layout_of.clauses 𝓛)
tight_layout_layout_of c r q w v a b = (equal (result layout_of.ended c) a.ensured b.ensured, refl)

pub meets_layout_check : Meets check.ended (λ M 𝓤 𝓛. check.clauses 𝓛) check_symbol.name check_symbol.code
meets_layout_check M = check_met.met

pub tight_layout_check : Tight check.ended (λ M 𝓤 𝓛. check.clauses 𝓛)
tight_layout_check c r q w v a b = (equal (result check.ended c) a.ensured b.ensured, refl)

pub meets_layout_Described_used_after : Meets Described_used_after.ended (λ M 𝓤 𝓛. Described_used_after.clauses 𝓛) Described_used_after_symbol.name Described_used_after_symbol.code
meets_layout_Described_used_after M = Described_used_after_met.met

pub tight_layout_Described_used_after : Tight Described_used_after.ended (λ M 𝓤 𝓛. Described_used_after.clauses 𝓛)
tight_layout_Described_used_after c r q w v a b = (equal (result Described_used_after.ended c) a.ensured b.ensured, refl)

pub meets_layout_begin_with : Meets begin_with.ended (λ M 𝓤 𝓛. begin_with.clauses 𝓛) begin_with_symbol.name begin_with_symbol.code
meets_layout_begin_with M = begin_with_met.met

pub tight_layout_begin_with : Tight begin_with.ended (λ M 𝓤 𝓛. begin_with.clauses 𝓛)
tight_layout_begin_with c r q w v a b = (settle (result begin_with.ended c) a.ensured b.ensured (λ e f. e.0 ∙ sym f.0), λ i. (tt, (tt, (same_table i, tt))))
  where
    same_table : w.1.1.0 ≡ v.1.1.0
    same_table = settle bytes a.ensured b.ensured (λ e f. e.1 ∙ sym f.1)

pub meets_layout_lay_out : Meets lay_out.ended (λ M 𝓤 𝓛. lay_out.clauses 𝓛) lay_out_symbol.name lay_out_symbol.code
meets_layout_lay_out M = lay_out_met.met

pub tight_layout_lay_out : Tight lay_out.ended (λ M 𝓤 𝓛. lay_out.clauses 𝓛)
tight_layout_lay_out c r q w v a b = (settle (result lay_out.ended c) a.ensured b.ensured (λ e f. e.0 ∙ sym f.0), λ i. (tt, (same_list i, tt)))
  where
    same_list : w.1.0 ≡ v.1.0
    same_list = settle (coded_list (layout_Placement.the_row).coded) a.ensured b.ensured (λ e f. e.1 ∙ sym f.1)

pub meets_layout_needs_stack : Meets needs_stack.ended (λ M 𝓤 𝓛. needs_stack.clauses 𝓛) needs_stack_symbol.name needs_stack_symbol.code
meets_layout_needs_stack M = needs_stack_met.met

pub tight_layout_needs_stack : Tight needs_stack.ended (λ M 𝓤 𝓛. needs_stack.clauses 𝓛)
tight_layout_needs_stack c r q w v a b = (equal (result needs_stack.ended c) a.ensured b.ensured, refl)

pub meets_layout_Laying_fresh : Meets Laying_fresh.ended (λ M 𝓤 𝓛. Laying_fresh.clauses 𝓛) Laying_fresh_symbol.name Laying_fresh_symbol.code
meets_layout_Laying_fresh M = Laying_fresh_met.met

pub tight_layout_Laying_fresh : Tight Laying_fresh.ended (λ M 𝓤 𝓛. Laying_fresh.clauses 𝓛)
tight_layout_Laying_fresh c r q w v a b = (equal (result Laying_fresh.ended c) a.ensured b.ensured, refl)

pub meets_layout_Laying_step : Meets Laying_step.ended (λ M 𝓤 𝓛. Laying_step.clauses 𝓛) Laying_step_symbol.name Laying_step_symbol.code
meets_layout_Laying_step M = Laying_step_met.met

pub tight_layout_Laying_step : Tight Laying_step.ended (λ M 𝓤 𝓛. Laying_step.clauses 𝓛)
tight_layout_Laying_step c r q w v a b = (settle (result Laying_step.ended c) a.ensured b.ensured (λ e f. e.0 ∙ sym f.0), λ i. (same_self i, (tt, (tt, (tt, (tt, (tt, tt)))))))
  where
    same_self : w.0 ≡ v.0
    same_self = settle (layout_Laying.the_row).coded a.ensured b.ensured (λ e f. e.1 ∙ sym f.1)

pub meets_layout_Described_named : Meets Described_named.ended (λ M 𝓤 𝓛. Described_named.clauses 𝓛) Described_named_symbol.name Described_named_symbol.code
meets_layout_Described_named M = Described_named_met.met

pub tight_layout_Described_named : Tight Described_named.ended (λ M 𝓤 𝓛. Described_named.clauses 𝓛)
tight_layout_Described_named c r q w v a b = (equal (result Described_named.ended c) a.ensured b.ensured, refl)

pub meets_layout_Described_arguments : Meets Described_arguments.ended (λ M 𝓤 𝓛. Described_arguments.clauses 𝓛) Described_arguments_symbol.name Described_arguments_symbol.code
meets_layout_Described_arguments M = Described_arguments_met.met

pub tight_layout_Described_arguments : Tight Described_arguments.ended (λ M 𝓤 𝓛. Described_arguments.clauses 𝓛)
tight_layout_Described_arguments c r q w v a b = (equal (result Described_arguments.ended c) a.ensured b.ensured, refl)

pub meets_layout_Described_hidden : Meets Described_hidden.ended (λ M 𝓤 𝓛. Described_hidden.clauses 𝓛) Described_hidden_symbol.name Described_hidden_symbol.code
meets_layout_Described_hidden M = Described_hidden_met.met

pub tight_layout_Described_hidden : Tight Described_hidden.ended (λ M 𝓤 𝓛. Described_hidden.clauses 𝓛)
tight_layout_Described_hidden c r q w v a b = (equal (result Described_hidden.ended c) a.ensured b.ensured, refl)

pub meets_layout_Described_place_as : Meets Described_place_as.ended (λ M 𝓤 𝓛. Described_place_as.clauses 𝓛) Described_place_as_symbol.name Described_place_as_symbol.code
meets_layout_Described_place_as M = Described_place_as_met.met

pub tight_layout_Described_place_as : Tight Described_place_as.ended (λ M 𝓤 𝓛. Described_place_as.clauses 𝓛)
tight_layout_Described_place_as c r q w v a b = (settle (result Described_place_as.ended c) a.ensured b.ensured (λ e f. e.0 ∙ sym f.0), λ i. (tt, (tt, (tt, (same_laying i, tt)))))
  where
    same_laying : w.1.1.1.0 ≡ v.1.1.1.0
    same_laying = settle (layout_Laying.the_row).coded a.ensured b.ensured (λ e f. e.1 ∙ sym f.1)

pub meets_layout_Described_place_argument : Meets Described_place_argument.ended (λ M 𝓤 𝓛. Described_place_argument.clauses 𝓛) Described_place_argument_symbol.name Described_place_argument_symbol.code
meets_layout_Described_place_argument M = Described_place_argument_met.met

pub tight_layout_Described_place_argument : Tight Described_place_argument.ended (λ M 𝓤 𝓛. Described_place_argument.clauses 𝓛)
tight_layout_Described_place_argument c r q w v a b = (settle (result Described_place_argument.ended c) a.ensured b.ensured (λ e f. e.0 ∙ sym f.0), λ i. (tt, (tt, (same_laying i, tt))))
  where
    same_laying : w.1.1.0 ≡ v.1.1.0
    same_laying = settle (layout_Laying.the_row).coded a.ensured b.ensured (λ e f. e.1 ∙ sym f.1)
