-- Written by tools/tightness: each public function of `classes` meets its contract, and the contract is tight. Assumes nothing.
use Rattle.std.specs.Prelude.{refl}
use Rattle.tightness.specs.Tight.{Meets, Tight}
use Rattle.tightness.proofs.Laws.{equal, result}
use Rattle.classes.specs.contracts.Class.merged as Class_merged
use Rattle.classes.proofs.Class.merged.Met as Class_merged_met
use Rattle.classes.proofs.Class.merged.Symbol as Class_merged_symbol
use Rattle.classes.specs.contracts.U8FromClass.from as U8FromClass_from
use Rattle.classes.proofs.U8FromClass.from.Met as U8FromClass_from_met
use Rattle.classes.proofs.U8FromClass.from.Symbol as U8FromClass_from_symbol
use Rattle.classes.specs.contracts.merge_both
use Rattle.classes.proofs.merge_both.Met as merge_both_met
use Rattle.classes.proofs.merge_both.Symbol as merge_both_symbol
use Rattle.classes.specs.contracts.clean_up
use Rattle.classes.proofs.clean_up.Met as clean_up_met
use Rattle.classes.proofs.clean_up.Symbol as clean_up_symbol

pub meets_classes_Class_merged : Meets Class_merged.ended (λ M 𝓤 𝓛. Class_merged.clauses 𝓛) Class_merged_symbol.name Class_merged_symbol.code
meets_classes_Class_merged M = Class_merged_met.met

pub tight_classes_Class_merged : Tight Class_merged.ended (λ M 𝓤 𝓛. Class_merged.clauses 𝓛)
tight_classes_Class_merged c r q w v a b = (equal (result Class_merged.ended c) a.ensured b.ensured, refl)

pub meets_classes_U8FromClass_from : Meets U8FromClass_from.ended (λ M 𝓤 𝓛. U8FromClass_from.clauses 𝓛) U8FromClass_from_symbol.name U8FromClass_from_symbol.code
meets_classes_U8FromClass_from M = U8FromClass_from_met.met

pub tight_classes_U8FromClass_from : Tight U8FromClass_from.ended (λ M 𝓤 𝓛. U8FromClass_from.clauses 𝓛)
tight_classes_U8FromClass_from c r q w v a b = (equal (result U8FromClass_from.ended c) a.ensured b.ensured, refl)

pub meets_classes_merge_both : Meets merge_both.ended (λ M 𝓤 𝓛. merge_both.clauses 𝓛) merge_both_symbol.name merge_both_symbol.code
meets_classes_merge_both M = merge_both_met.met

pub tight_classes_merge_both : Tight merge_both.ended (λ M 𝓤 𝓛. merge_both.clauses 𝓛)
tight_classes_merge_both c r q w v a b = (equal (result merge_both.ended c) a.ensured b.ensured, refl)

pub meets_classes_clean_up : Meets clean_up.ended (λ M 𝓤 𝓛. clean_up.clauses 𝓛) clean_up_symbol.name clean_up_symbol.code
meets_classes_clean_up M = clean_up_met.met

pub tight_classes_clean_up : Tight clean_up.ended (λ M 𝓤 𝓛. clean_up.clauses 𝓛)
tight_classes_clean_up c r q w v a b = (equal (result clean_up.ended c) a.ensured b.ensured, refl)
