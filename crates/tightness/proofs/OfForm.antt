-- Written by tools/tightness: each public function of `form` meets its contract, and the contract is tight. Assumes nothing.
use Rattle.std.specs.Prelude.{refl}
use denote.RattleType.{RattleType}
use mir.Syntax.{Dict}
use Rattle.std.specs.declared.clone.Clone.{Ghosts}
use Rattle.tightness.specs.Tight.{Meets, MeetsCopy, Tight}
use Rattle.tightness.proofs.Laws.{equal, result}
use Rattle.form.specs.contracts.refusal_at
use Rattle.form.proofs.refusal_at.Met as refusal_at_met
use Rattle.form.proofs.refusal_at.Symbol as refusal_at_symbol
use Rattle.form.specs.contracts.refusal_of
use Rattle.form.proofs.refusal_of.Met as refusal_of_met
use Rattle.form.proofs.refusal_of.Symbol as refusal_of_symbol
use Rattle.form.specs.contracts.refusal_in
use Rattle.form.proofs.refusal_in.Met as refusal_in_met
use Rattle.form.proofs.refusal_in.Symbol as refusal_in_symbol
use Rattle.form.specs.contracts.Reason.number as Reason_number
use Rattle.form.proofs.Reason.number.Met as Reason_number_met
use Rattle.form.proofs.Reason.number.Symbol as Reason_number_symbol
use Rattle.form.specs.contracts.Refusal.of_type as Refusal_of_type
use Rattle.form.proofs.Refusal.of_type.Met as Refusal_of_type_met
use Rattle.form.proofs.Refusal.of_type.Symbol as Refusal_of_type_symbol
use Rattle.form.specs.contracts.RefusalFromReason.from as RefusalFromReason_from
use Rattle.form.proofs.RefusalFromReason.from.Met as RefusalFromReason_from_met
use Rattle.form.proofs.RefusalFromReason.from.Symbol as RefusalFromReason_from_symbol
use Rattle.form.specs.contracts.first_broken
use Rattle.form.proofs.first_broken.Met as first_broken_met
use Rattle.form.proofs.first_broken.Symbol as first_broken_symbol
use Rattle.form.specs.contracts.judge
use Rattle.form.proofs.judge.Met as judge_met
use Rattle.form.proofs.judge.Symbol as judge_symbol
use Rattle.form.specs.contracts.read_form
use Rattle.form.proofs.read_form.Met as read_form_met
use Rattle.form.proofs.read_form.Symbol as read_form_symbol

pub meets_form_refusal_at : Meets refusal_at.ended (λ M 𝓤 𝓛. refusal_at.clauses 𝓛) refusal_at_symbol.name refusal_at_symbol.code
meets_form_refusal_at M = refusal_at_met.met

pub tight_form_refusal_at : Tight refusal_at.ended (λ M 𝓤 𝓛. refusal_at.clauses 𝓛)
tight_form_refusal_at c r q w v a b = (equal (result refusal_at.ended c) a.ensured b.ensured, refl)

pub meets_form_refusal_of : Meets refusal_of.ended (λ M 𝓤 𝓛. refusal_of.clauses 𝓛) refusal_of_symbol.name refusal_of_symbol.code
meets_form_refusal_of M = refusal_of_met.met

pub tight_form_refusal_of : Tight refusal_of.ended (λ M 𝓤 𝓛. refusal_of.clauses 𝓛)
tight_form_refusal_of c r q w v a b = (equal (result refusal_of.ended c) a.ensured b.ensured, refl)

pub meets_form_refusal_in : MeetsCopy refusal_in.ended (λ A g d M 𝓤 𝓛. refusal_in.clauses A g d 𝓛) refusal_in_symbol.name refusal_in_symbol.code
meets_form_refusal_in M = refusal_in_met.met

pub tight_form_refusal_in : (A : RattleType) (g : Ghosts A.Denot) (d : Dict) → Tight (refusal_in.ended A g d) (λ M 𝓤 𝓛. refusal_in.clauses A g d 𝓛)
tight_form_refusal_in A g d c r q w v a b = (equal (result (refusal_in.ended A g d) c) a.ensured b.ensured, refl)

pub meets_form_Reason_number : Meets Reason_number.ended (λ M 𝓤 𝓛. Reason_number.clauses 𝓛) Reason_number_symbol.name Reason_number_symbol.code
meets_form_Reason_number M = Reason_number_met.met

pub tight_form_Reason_number : Tight Reason_number.ended (λ M 𝓤 𝓛. Reason_number.clauses 𝓛)
tight_form_Reason_number c r q w v a b = (equal (result Reason_number.ended c) a.ensured b.ensured, refl)

pub meets_form_Refusal_of_type : Meets Refusal_of_type.ended (λ M 𝓤 𝓛. Refusal_of_type.clauses 𝓛) Refusal_of_type_symbol.name Refusal_of_type_symbol.code
meets_form_Refusal_of_type M = Refusal_of_type_met.met

pub tight_form_Refusal_of_type : Tight Refusal_of_type.ended (λ M 𝓤 𝓛. Refusal_of_type.clauses 𝓛)
tight_form_Refusal_of_type c r q w v a b = (equal (result Refusal_of_type.ended c) a.ensured b.ensured, refl)

pub meets_form_RefusalFromReason_from : Meets RefusalFromReason_from.ended (λ M 𝓤 𝓛. RefusalFromReason_from.clauses 𝓛) RefusalFromReason_from_symbol.name RefusalFromReason_from_symbol.code
meets_form_RefusalFromReason_from M = RefusalFromReason_from_met.met

pub tight_form_RefusalFromReason_from : Tight RefusalFromReason_from.ended (λ M 𝓤 𝓛. RefusalFromReason_from.clauses 𝓛)
tight_form_RefusalFromReason_from c r q w v a b = (equal (result RefusalFromReason_from.ended c) a.ensured b.ensured, refl)

pub meets_form_first_broken : Meets first_broken.ended (λ M 𝓤 𝓛. first_broken.clauses 𝓛) first_broken_symbol.name first_broken_symbol.code
meets_form_first_broken M = first_broken_met.met

pub tight_form_first_broken : Tight first_broken.ended (λ M 𝓤 𝓛. first_broken.clauses 𝓛)
tight_form_first_broken c r q w v a b = (equal (result first_broken.ended c) a.ensured b.ensured, refl)

pub meets_form_judge : Meets judge.ended (λ M 𝓤 𝓛. judge.clauses 𝓛) judge_symbol.name judge_symbol.code
meets_form_judge M = judge_met.met

pub tight_form_judge : Tight judge.ended (λ M 𝓤 𝓛. judge.clauses 𝓛)
tight_form_judge c r q w v a b = (equal (result judge.ended c) a.ensured b.ensured, refl)

pub meets_form_read_form : Meets read_form.ended (λ M 𝓤 𝓛. read_form.clauses 𝓛) read_form_symbol.name read_form_symbol.code
meets_form_read_form M = read_form_met.met

pub tight_form_read_form : Tight read_form.ended (λ M 𝓤 𝓛. read_form.clauses 𝓛)
tight_form_read_form c r q w v a b = (equal (result read_form.ended c) a.ensured b.ensured, refl)
