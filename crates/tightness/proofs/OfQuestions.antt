-- Written by tools/tightness: each public function of `questions` meets its contract, and the contract is tight. Assumes nothing.
use Rattle.std.specs.Prelude.{◌≡◌, refl}
use mathlib.Core.Path.{sym, ◌∙◌}
use Rattle.tightness.specs.Tight.{Meets, Tight, TightPart}
use Rattle.tightness.proofs.Laws.{bytes, equal, result, settle}
use Rattle.questions.specs.contracts.type_classes
use Rattle.questions.proofs.type_classes.Met as type_classes_met
use Rattle.questions.proofs.type_classes.Symbol as type_classes_symbol
use Rattle.questions.specs.contracts.type_extent
use Rattle.questions.proofs.type_extent.Met as type_extent_met
use Rattle.questions.proofs.type_extent.Symbol as type_extent_symbol
use Rattle.questions.specs.contracts.type_size
use Rattle.questions.proofs.type_size.Met as type_size_met
use Rattle.questions.proofs.type_size.Symbol as type_size_symbol
use Rattle.questions.specs.contracts.type_align
use Rattle.questions.proofs.type_align.Met as type_align_met
use Rattle.questions.proofs.type_align.Symbol as type_align_symbol
use Rattle.questions.specs.contracts.member_offsets
use Rattle.questions.proofs.member_offsets.Met as member_offsets_met
use Rattle.questions.proofs.member_offsets.Symbol as member_offsets_symbol
use Rattle.questions.specs.contracts.run_at
use Rattle.questions.proofs.run_at.Met as run_at_met
use Rattle.questions.proofs.run_at.Symbol as run_at_symbol
use Rattle.questions.specs.contracts.member_run
use Rattle.questions.proofs.member_run.Met as member_run_met
use Rattle.questions.proofs.member_run.Symbol as member_run_symbol

pub meets_questions_type_classes : Meets type_classes.ended (λ M 𝓤 𝓛. type_classes.clauses 𝓛) type_classes_symbol.name type_classes_symbol.code
meets_questions_type_classes M = type_classes_met.met

pub tight_questions_type_classes : Tight type_classes.ended (λ M 𝓤 𝓛. type_classes.clauses 𝓛)
tight_questions_type_classes c r q w v a b = (equal (result type_classes.ended c) a.ensured b.ensured, refl)

pub meets_questions_type_extent : Meets type_extent.ended (λ M 𝓤 𝓛. type_extent.clauses 𝓛) type_extent_symbol.name type_extent_symbol.code
meets_questions_type_extent M = type_extent_met.met

pub tight_questions_type_extent : Tight type_extent.ended (λ M 𝓤 𝓛. type_extent.clauses 𝓛)
tight_questions_type_extent c r q w v a b = (equal (result type_extent.ended c) a.ensured b.ensured, refl)

pub meets_questions_type_size : Meets type_size.ended (λ M 𝓤 𝓛. type_size.clauses 𝓛) type_size_symbol.name type_size_symbol.code
meets_questions_type_size M = type_size_met.met

pub tight_questions_type_size : Tight type_size.ended (λ M 𝓤 𝓛. type_size.clauses 𝓛)
tight_questions_type_size c r q w v a b = (equal (result type_size.ended c) a.ensured b.ensured, refl)

pub meets_questions_type_align : Meets type_align.ended (λ M 𝓤 𝓛. type_align.clauses 𝓛) type_align_symbol.name type_align_symbol.code
meets_questions_type_align M = type_align_met.met

pub tight_questions_type_align : Tight type_align.ended (λ M 𝓤 𝓛. type_align.clauses 𝓛)
tight_questions_type_align c r q w v a b = (equal (result type_align.ended c) a.ensured b.ensured, refl)

pub meets_questions_member_offsets : Meets member_offsets.ended (λ M 𝓤 𝓛. member_offsets.clauses 𝓛) member_offsets_symbol.name member_offsets_symbol.code
meets_questions_member_offsets M = member_offsets_met.met

pub tight_questions_member_offsets : Tight member_offsets.ended (λ M 𝓤 𝓛. member_offsets.clauses 𝓛)
tight_questions_member_offsets c r q w v a b = (settle (result member_offsets.ended c) a.ensured b.ensured (λ e f. e.0 ∙ sym f.0), λ i. (tt, (tt, (same_offsets i, tt))))
  where
    same_offsets : w.1.1.0 ≡ v.1.1.0
    same_offsets = settle bytes a.ensured b.ensured (λ e f. e.1 ∙ sym f.1)

pub meets_questions_run_at : Meets run_at.ended (λ M 𝓤 𝓛. run_at.clauses 𝓛) run_at_symbol.name run_at_symbol.code
meets_questions_run_at M = run_at_met.met

pub tight_questions_run_at : Tight run_at.ended (λ M 𝓤 𝓛. run_at.clauses 𝓛)
tight_questions_run_at c r q w v a b = (settle (result run_at.ended c) a.ensured b.ensured (λ e f. e.0 ∙ sym f.0), refl)

pub meets_questions_member_run : Meets member_run.ended (λ M 𝓤 𝓛. member_run.clauses 𝓛) member_run_symbol.name member_run_symbol.code
meets_questions_member_run M = member_run_met.met

pub tight_questions_member_run : TightPart member_run.ended (λ c r. r.now) (λ M 𝓤 𝓛. member_run.clauses 𝓛)
tight_questions_member_run c r q w v a b = (equal bytes a.ensured b.ensured, refl)
