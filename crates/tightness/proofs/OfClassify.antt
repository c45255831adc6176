-- Written by tools/tightness: each public function of `classify` meets its contract, and the contract is tight. Assumes nothing.
use Rattle.std.specs.Prelude.{◌≡◌, refl}
use mathlib.Core.Path.{sym, ◌∙◌}
use Rattle.tightness.specs.Tight.{Meets, Tight}
use Rattle.tightness.proofs.Laws.{bytes, equal, result, settle}
use Rattle.classify.specs.contracts.fill_classes
use Rattle.classify.proofs.fill_classes.Met as fill_classes_met
use Rattle.classify.proofs.fill_classes.Symbol as fill_classes_symbol
use Rattle.classify.specs.contracts.packed_classes.PackedFromArrayClass2.from as PackedFromArrayClass2_from
use Rattle.classify.proofs.packed_classes.PackedFromArrayClass2.from.Met as PackedFromArrayClass2_from_met
use Rattle.classify.proofs.packed_classes.PackedFromArrayClass2.from.Symbol as PackedFromArrayClass2_from_symbol
use Rattle.classify.specs.contracts.is_wide
use Rattle.classify.proofs.is_wide.Met as is_wide_met
use Rattle.classify.proofs.is_wide.Symbol as is_wide_symbol
use Rattle.classify.specs.contracts.classes_in
use Rattle.classify.proofs.classes_in.Met as classes_in_met
use Rattle.classify.proofs.classes_in.Symbol as classes_in_symbol
use Rattle.classify.specs.contracts.table_words.WordFromPacked.from as WordFromPacked_from
use Rattle.classify.proofs.table_words.WordFromPacked.from.Met as WordFromPacked_from_met
use Rattle.classify.proofs.table_words.WordFromPacked.from.Symbol as WordFromPacked_from_symbol
use Rattle.classify.specs.contracts.table_words.Entry.asks as Entry_asks
use Rattle.classify.proofs.table_words.Entry.asks.Met as Entry_asks_met
use Rattle.classify.proofs.table_words.Entry.asks.Symbol as Entry_asks_symbol
use Rattle.classify.specs.contracts.table_words.Entry.is_wide as Entry_is_wide
use Rattle.classify.proofs.table_words.Entry.is_wide.Met as Entry_is_wide_met
use Rattle.classify.proofs.table_words.Entry.is_wide.Symbol as Entry_is_wide_symbol
use Rattle.classify.specs.contracts.table_words.Entry.classes as Entry_classes
use Rattle.classify.proofs.table_words.Entry.classes.Met as Entry_classes_met
use Rattle.classify.proofs.table_words.Entry.classes.Symbol as Entry_classes_symbol

pub meets_classify_fill_classes : Meets fill_classes.ended (λ M 𝓤 𝓛. fill_classes.clauses 𝓛) fill_classes_symbol.name fill_classes_symbol.code
meets_classify_fill_classes M = fill_classes_met.met

pub tight_classify_fill_classes : Tight fill_classes.ended (λ M 𝓤 𝓛. fill_classes.clauses 𝓛)
tight_classify_fill_classes c r q w v a b = (refl, λ i. (tt, (same_table i, tt)))
  where
    same_table : w.1.0 ≡ v.1.0
    same_table = settle bytes a.ensured b.ensured (λ e f. e.0 ∙ sym f.0)

pub meets_classify_PackedFromArrayClass2_from : Meets PackedFromArrayClass2_from.ended (λ M 𝓤 𝓛. PackedFromArrayClass2_from.clauses 𝓛) PackedFromArrayClass2_from_symbol.name PackedFromArrayClass2_from_symbol.code
meets_classify_PackedFromArrayClass2_from M = PackedFromArrayClass2_from_met.met

pub tight_classify_PackedFromArrayClass2_from : Tight PackedFromArrayClass2_from.ended (λ M 𝓤 𝓛. PackedFromArrayClass2_from.clauses 𝓛)
tight_classify_PackedFromArrayClass2_from c r q w v a b = (settle (result PackedFromArrayClass2_from.ended c) a.ensured b.ensured (λ e f i. record { 0 = (e.0 ∙ sym f.0) i }), refl)

pub meets_classify_is_wide : Meets is_wide.ended (λ M 𝓤 𝓛. is_wide.clauses 𝓛) is_wide_symbol.name is_wide_symbol.code
meets_classify_is_wide M = is_wide_met.met

pub tight_classify_is_wide : Tight is_wide.ended (λ M 𝓤 𝓛. is_wide.clauses 𝓛)
tight_classify_is_wide c r q w v a b = (equal (result is_wide.ended c) a.ensured b.ensured, refl)

pub meets_classify_classes_in : Meets classes_in.ended (λ M 𝓤 𝓛. classes_in.clauses 𝓛) classes_in_symbol.name classes_in_symbol.code
meets_classify_classes_in M = classes_in_met.met

pub tight_classify_classes_in : Tight classes_in.ended (λ M 𝓤 𝓛. classes_in.clauses 𝓛)
tight_classify_classes_in c r q w v a b = (equal (result classes_in.ended c) a.ensured b.ensured, refl)

pub meets_classify_WordFromPacked_from : Meets WordFromPacked_from.ended (λ M 𝓤 𝓛. WordFromPacked_from.clauses 𝓛) WordFromPacked_from_symbol.name WordFromPacked_from_symbol.code
meets_classify_WordFromPacked_from M = WordFromPacked_from_met.met

pub tight_classify_WordFromPacked_from : Tight WordFromPacked_from.ended (λ M 𝓤 𝓛. WordFromPacked_from.clauses 𝓛)
tight_classify_WordFromPacked_from c r q w v a b = (settle (result WordFromPacked_from.ended c) a.ensured b.ensured (λ e f i. record { 0 = (e ∙ sym f) i }), refl)

pub meets_classify_Entry_asks : Meets Entry_asks.ended (λ M 𝓤 𝓛. Entry_asks.clauses 𝓛) Entry_asks_symbol.name Entry_asks_symbol.code
meets_classify_Entry_asks M = Entry_asks_met.met

pub tight_classify_Entry_asks : Tight Entry_asks.ended (λ M 𝓤 𝓛. Entry_asks.clauses 𝓛)
tight_classify_Entry_asks c r q w v a b = (equal (result Entry_asks.ended c) a.ensured b.ensured, refl)

pub meets_classify_Entry_is_wide : Meets Entry_is_wide.ended (λ M 𝓤 𝓛. Entry_is_wide.clauses 𝓛) Entry_is_wide_symbol.name Entry_is_wide_symbol.code
meets_classify_Entry_is_wide M = Entry_is_wide_met.met

pub tight_classify_Entry_is_wide : Tight Entry_is_wide.ended (λ M 𝓤 𝓛. Entry_is_wide.clauses 𝓛)
tight_classify_Entry_is_wide c r q w v a b = (equal (result Entry_is_wide.ended c) a.ensured b.ensured, refl)

pub meets_classify_Entry_classes : Meets Entry_classes.ended (λ M 𝓤 𝓛. Entry_classes.clauses 𝓛) Entry_classes_symbol.name Entry_classes_symbol.code
meets_classify_Entry_classes M = Entry_classes_met.met

pub tight_classify_Entry_classes : Tight Entry_classes.ended (λ M 𝓤 𝓛. Entry_classes.clauses 𝓛)
tight_classify_Entry_classes c r q w v a b = (equal (result Entry_classes.ended c) a.ensured b.ensured, refl)
