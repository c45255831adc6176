-- Request 2026-03, of the definitions and of the calls. Assumes nothing.
use mathlib.Core.Path.{◌≡◌, refl, sym, ap, ◌∙◌}
use mathlib.Core.Logic.{◌↔◌, ◌≢◌}
use mathlib.Core.List.{List}
use Prim.Native.Nat.{ℕ}
use borrow.Author.Tests.{eq-eqb, ne_eqb}
use lib.ListN.{length}
use Rattle.tightness.proofs.Laws.{result, bytes, told}
use Rattle.form.specs.declared.Refusal.{Refusal}
use Rattle.form.specs.Conditions.{wrong_record}
use Rattle.description.specs.Description.{model_in}
use Rattle.form.specs.Reading.{refusal_in}
use Rattle.types.specs.Large.{too_large}
use Rattle.types.specs.Wrong.{refusal_for}
use Rattle.station.proofs.Orders.{kept}
use Rattle.flat.specs.declared.Tidied.{Tidied}
use Rattle.flat.specs.contracts.Tidied as tidied-record
use Rattle.tidying.specs.Answers.{tidied, length_refusal, tidy_refusal, length_answer, tidy_after}
use Rattle.tidying.specs.Statements.{TidyBytes, SameCall}
use Rattle.tidying.proofs.Answering.{length-none_exactly, tidiable-length, tidy-accepts, accepts-tidiable}
use Rattle.tidying.proofs.Tidied.{same_exactly, tidy-form}
use Rattle.tidying.proofs.Wellformed.{tidy-table}
use Rattle.tidying.proofs.EachByte.{tidy-bytes}
use Rattle.tidying.proofs.Cases.{tidy-cases, wide_case}
use Rattle.callbridge.specs.Outcome.{left_in}
use Rattle.callbridge.specs.TidyingCalls.{tidied_given}
use Rattle.callbridge.proofs.Told.{tidied-told}
use Rattle.callbridge.specs.contracts.cb_tidy_length
use Rattle.callbridge.specs.contracts.cb_tidy
use Rattle.promises.specs.Meaning.{outcome, Answered}
use Rattle.promises.specs.Orders.{tidy_length_order, tidy_order}
use Rattle.promises.specs.WrongType.{Names}
use Rattle.promises.specs.Tidying.{TellsLength, TidiesFlat, Tidying}
use Rattle.promises.proofs.Answering.{answered}
use Rattle.promises.proofs.WrongType.{names, alone}
use Rattle.promises.proofs.Exports.{fills, told-number, refusal-told, answered-by, along}

-- ---- the length

length-answered : (d : List ℕ) → Answered {X = ℕ} (outcome {X = ℕ} (length_refusal d) (length (tidied d))) (tidy_length_order d) (length (tidied d))
unfolding length_refusal
length-answered d = answered refl refl

length-names : (d : List ℕ) → Names d (refusal_for d (length_refusal d))
unfolding length_refusal
length-names d = names d (tidy_length_order d) (alone (wrong_record d)) (alone (too_large (model_in d) d))

length-fills : (d : List ℕ) (old : Tidied) → TellsLength d old (refusal_in (tidied_given (length_answer d))) (left_in (tidied_given (length_answer d)) old)
length-fills d old = fills (λ (t : Tidied). t.length.0) d _ _ old _ (length_refusal d) _ _ (tidied-told d) (λ z. refl) (length-answered d) refl (length-names d)

-- ---- the form

tidy-answered : (d : List ℕ) (room : ℕ) → Answered {X = Unit {0}} (outcome (tidy_refusal d room) tt) (tidy_order d room) tt
unfolding tidy_refusal
tidy-answered d room = answered refl refl

tidy-names : (d : List ℕ) (room : ℕ) → Names d (refusal_for d (tidy_refusal d room))
unfolding tidy_refusal
tidy-names d room = names d (tidy_order d room) (alone (wrong_record d)) (alone (too_large (model_in d) d))

after-refused : (d out : List ℕ) → tidy_refusal d (length out) ≢ 0 → tidy_after d out ≡ out
unfolding tidy_after
after-refused d out h = rw (ne_eqb (tidy_refusal d (length out)) 0 h) refl

after-tidy : (d out : List ℕ) → tidy_refusal d (length out) ≡ 0 → tidy_after d out ≡ tidied d
unfolding tidy_after
after-tidy d out e = rw (eq-eqb (tidy_refusal d (length out)) 0 e) refl

tidies : (d out : List ℕ) → TidiesFlat d out (refusal_for d (tidy_refusal d (length out))) (tidy_after d out)
tidies d out =
    let n = tidy_refusal d (length out) in
    let number = refusal-told d n (refusal_for d n) refl in
    record {
      answered = answered-by d n (refusal_for d n) (tidy_order d (length out)) refl (tidy-answered d (length out));
      names = tidy-names d (length out);
      refused = λ p. after-refused d out (λ z. p (number ∙ z));
      tidy = λ z. record { tidiable = accepts-tidiable d (length out) (sym number ∙ z); are = sym (after-tidy d out (sym number ∙ z)) };
    }

-- ---- two calls

same_out : (d e w v : List ℕ) → TidyBytes d w → TidyBytes e v → (w ≡ v) ↔ SameCall d e
same_out d e w v x y = (
  λ q. (same_exactly d e).0 (record { bytes = w; one = x; other = record { tidiable = y.tidiable; are = y.are ∙ sym q } }),
  λ s.
      let t = (same_exactly d e).1 s in
      sym x.are ∙ t.one.are ∙ sym t.other.are ∙ y.are,
)

again : (d e w out : List ℕ) → TidyBytes d w → e ≡ w → length out ≡ length w → (tidy_refusal e (length out) ≡ 0) × (tidy_after e out ≡ w)
again d e w out x q l =
    let form = tidy-form d x.tidiable in
    let same : tidied (tidied d) ≡ tidied d = form.twice in
    let zero : tidy_refusal (tidied d) (length out) ≡ 0 = tidy-accepts (tidied d) out form.again (l ∙ ap length (sym x.are ∙ sym same)) in
    rw (q, ← x.are) (zero, after-tidy (tidied d) out zero ∙ same)

-- ---- all of it

pub tidying : Tidying
tidying = record {
  tidiable_exactly = λ d. (λ t. (length-none_exactly d).0 ((tidiable-length d).0 t), λ n. (tidiable-length d).1 ((length-none_exactly d).1 n));
  same_exactly = same_exactly;
  table = tidy-table;
  form = tidy-form;
  bytes = tidy-bytes;
  cases_hold = tidy-cases;
  wide_case = wide_case;
  tells_length = λ c r w a.
      along (TellsLength c.passed.0.now c.passed.1.0.now)
      (told (result cb_tidy_length.ended c) a.ensured (λ f. f.0)) (told (tidied-record.the_row).coded a.ensured (λ f. f.1))
      (length-fills c.passed.0.now c.passed.1.0.now);
  tidies_flat = λ c r w a.
      along (TidiesFlat c.passed.0.now c.passed.1.0.now)
      (told (result cb_tidy.ended c) a.ensured (λ f. f.0)) (told bytes a.ensured (λ f. f.1))
      (tidies c.passed.0.now c.passed.1.0.now);
  same_out = λ c e r w q v a b x y.
      same_out c.passed.0.now e.passed.0.now w.1.0 v.1.0
      ((along (TidiesFlat c.passed.0.now c.passed.1.0.now)
      (told (result cb_tidy.ended c) a.ensured (λ f. f.0)) (told bytes a.ensured (λ f. f.1))
      (tidies c.passed.0.now c.passed.1.0.now)).tidy x)
      ((along (TidiesFlat e.passed.0.now e.passed.1.0.now)
      (told (result cb_tidy.ended e) b.ensured (λ f. f.0)) (told bytes b.ensured (λ f. f.1))
      (tidies e.passed.0.now e.passed.1.0.now)).tidy y);
  tidies_twice = λ c e r w q v a b x y l.
      let t =
      again c.passed.0.now e.passed.0.now w.1.0 e.passed.1.0.now
      ((along (TidiesFlat c.passed.0.now c.passed.1.0.now)
      (told (result cb_tidy.ended c) a.ensured (λ f. f.0)) (told bytes a.ensured (λ f. f.1))
      (tidies c.passed.0.now c.passed.1.0.now)).tidy x) y l in
      (refusal-told e.passed.0.now _ q (told (result cb_tidy.ended e) b.ensured (λ f. f.0)) ∙ t.0, told bytes b.ensured (λ f. f.1) ∙ t.1);
  length_suits = λ c r w e q v a b x y l.
      let d = c.passed.0.now in
      let old = c.passed.1.0.now in
      let t = tidied-told d in
      let z : length_refusal d ≡ 0 = sym (told-number t) ∙ ap (λ (k : Refusal). k.number) (sym (told (result cb_tidy_length.ended c) a.ensured (λ f. f.0))) ∙ x in
      let n : w.1.0.length.0 ≡ length (tidied d) = ap (λ (k : Tidied). k.length.0) (told (tidied-record.the_row).coded a.ensured (λ f. f.1) ∙ t.left old ∙ kept (length_refusal d) _ old z) in
      let f = refusal-told e.passed.0.now _ q (told (result cb_tidy.ended e) b.ensured (λ f. f.0)) in
      f ∙ ap (λ (k : List ℕ). tidy_refusal k (length e.passed.1.0.now)) y ∙ tidy-accepts d e.passed.1.0.now ((tidiable-length d).1 z) (l ∙ n);
}
