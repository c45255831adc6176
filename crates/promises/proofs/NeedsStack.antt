-- Request 2026-10, of the definitions and of the call. Assumes nothing.
use Rattle.std.specs.Prelude.{Err, Ok}
use mathlib.Core.Path.{◌≡◌, refl, sym, ap, ◌∙◌}
use mathlib.Core.Logic.{◌≢◌}
use mathlib.Core.Bool.{Bool, true, false, not}
use mathlib.Core.List.{List}
use Prim.Native.Nat.{ℕ}
use borrow.Author.Tests.{ltb-true, ltb-false}
use lib.Dec.{ltb, eqb}
use Rattle.tightness.proofs.Laws.{result, told}
use Rattle.description.specs.Description.{arguments_in}
use Rattle.form.specs.declared.Refusal.{Refusal}
use Rattle.form.specs.Reading.{refusal_by, refusal_at, refusal_in}
use Rattle.form.proofs.Order.{accepts-exactly}
use Rattle.types.specs.Wrong.{refusal_for}
use Rattle.uses.specs.Uses.{uses_refusal}
use Rattle.uses.proofs.Uses.{uses-positive}
use Rattle.layout.specs.Arguments.{area_of}
use Rattle.layout.specs.Verdict.{verdict}
use Rattle.layout.specs.Layout.{layout_of, layout_answer}
use Rattle.layout.specs.StackNeeds.{stack_need, stack_answer}
use Rattle.layout.specs.declared.needing.StackNeed.{StackNeed as Need}
use Rattle.layout.proofs.Verdict.{verdict-uses, no_ten, ten, accepted-uses}
use Rattle.layout.proofs.Needed.{never_ten, only_ten, stack-needed}
use Rattle.station.proofs.Orders.{kept}
use Rattle.flat.specs.declared.StackNeed.{StackNeed}
use Rattle.flat.specs.declared.Layout.{Layout}
use Rattle.flat.specs.Records.{layout_of as flat_layout}
use Rattle.flat.specs.StackNeeds.{flat_need, need_meant}
use Rattle.flat.proofs.Needed.{need_means}
use Rattle.flat.specs.contracts.StackNeed as need-record
use Rattle.flat.specs.contracts.Layout as layout-record
use Rattle.callbridge.specs.Outcome.{left_in}
use Rattle.callbridge.specs.StackCalls.{need_given}
use Rattle.callbridge.specs.LayoutCalls.{layout_given}
use Rattle.callbridge.proofs.Told.{need_told, layout-told}
use Rattle.callbridge.specs.contracts.cb_needs_stack
use Rattle.callbridge.specs.contracts.cb_layout_of
use Rattle.promises.specs.Meaning.{outcome, Answered}
use Rattle.promises.specs.Orders.{need_order}
use Rattle.promises.specs.NeedsStack.{of_need, need_read, TellsNeed, Beside, NeedsStack}
use Rattle.promises.proofs.Answering.{answered, decided}
use Rattle.promises.proofs.WrongType.{wrong_type}
use Rattle.promises.proofs.Exports.{fills, told-number, along}

-- ---- the library's call, and the C call

need_means_outcome : (d : List ℕ) → of_need (stack_answer d) ≡ outcome (uses_refusal d) ((stack_need d).needed, (stack_need d).looked)
unfolding stack_answer refusal_for refusal_by refusal_at
need_means_outcome d = decided of_need (Ok (stack_need d)) (λ n. Err (refusal_for d n)) ((stack_need d).needed, (stack_need d).looked) refl (λ n. refl) (uses_refusal d)

need_answered : (d : List ℕ) → Answered (of_need (stack_answer d)) (need_order d) ((stack_need d).needed, (stack_need d).looked)
unfolding uses_refusal
need_answered d = answered refl (need_means_outcome d)

need_fills : (d : List ℕ) (old : StackNeed) → TellsNeed d old (refusal_in (need_given (stack_answer d))) (left_in (need_given (stack_answer d)) old)
need_fills d old =
    fills need_read d _ _ old _ (uses_refusal d) _ _ (need_told d) (λ z j. ((need_means (stack_need d) j).needed, (need_means (stack_need d) j).looked)) (need_answered d) (need_means_outcome d)
    (wrong_type.needs_stack d)

-- ---- beside the layout

module _ (d : List ℕ) (old : StackNeed) (past : Layout) where
  -- the answers of the two calls
  abbrev r : Refusal
  r = refusal_in (need_given (stack_answer d))

  abbrev q : Refusal
  q = refusal_in (layout_given (arguments_in d) (layout_answer d))

  known : uses_refusal d ≡ 0 → (r.number ≡ 0) × (need_meant (left_in (need_given (stack_answer d)) old) ≡ stack_need d)
  known z = (told-number (need_told d) ∙ z, ap need_meant ((need_told d).left old ∙ kept (uses_refusal d) (flat_need (stack_need d)) old z) ∙ need_means (stack_need d))

  area-kept : verdict d ≡ 0 → (left_in (layout_given (arguments_in d) (layout_answer d)) past).area.0 ≡ area_of d
  unfolding flat_layout layout_of
  area-kept v = ap (λ (l : Layout). l.area.0) ((layout-told d).left past ∙ kept (verdict d) (flat_layout (layout_of d) (arguments_in d)) past v)

  number : q.number ≡ verdict d
  number = told-number (layout-told d)

  -- the verdict is 0, 10, or what one of 1 to 9 says
  lower-verdict : verdict d ≢ 0 → verdict d ≢ 10 → verdict d ≡ uses_refusal d
  lower-verdict z t = verdict-uses d (λ u. neither u (ltb 16384 (area_of d)) refl)
    where
      neither : uses_refusal d ≡ 0 → (b : Bool) → ltb 16384 (area_of d) ≡ b → ⊥
      neither u true e = t (ten d u (ltb-true 16384 (area_of d) e))
      neither u false e = z (no_ten d u (ltb-false 16384 (area_of d) e))

  beside : Beside r (left_in (need_given (stack_answer d)) old) q (left_in (layout_given (arguments_in d) (layout_answer d)) past)
  beside = record {
    laid = λ e.
        let v : verdict d ≡ 0 = sym number ∙ e in
        let k = known (accepted-uses d v) in
        (k.0, ap (λ (n : Need). n.needed) k.1 ∙ (stack-needed d (accepted-uses d v)).area ∙ ap (λ (a : ℕ). not (eqb a 0)) (sym (area-kept v)));
    ten = λ e.
        let v : verdict d ≡ 10 = sym number ∙ e in
        let k = known (only_ten d v) in
        (k.0, ap (λ (n : Need). n.needed) k.1 ∙ (stack-needed d (only_ten d v)).ten v);
    lower = λ z t. (need_told d).refusal ∙ ap (refusal_for d) (sym (lower-verdict (λ v. z (number ∙ v)) (λ v. t (number ∙ v)))) ∙ sym (layout-told d).refusal;
  }

beside_same : (d e : List ℕ) → e ≡ d → (old : StackNeed) (past : Layout)
    → Beside (refusal_in (need_given (stack_answer d))) (left_in (need_given (stack_answer d)) old) (refusal_in (layout_given (arguments_in e) (layout_answer e))) (left_in (layout_given (arguments_in e) (layout_answer e)) past)
beside_same d e s old past = rw s (beside d old past)

-- ---- all of it

pub needs_stack : NeedsStack
unfolding uses_refusal
needs_stack = record {
  answered = need_answered;
  needed = λ d n. stack-needed d ((accepts-exactly (need_order d) (uses-positive d)).1 n);
  tells_need = λ c r w a.
      along (TellsNeed c.passed.0.now c.passed.1.0.now)
      (told (result cb_needs_stack.ended c) a.ensured (λ f. f.0)) (told (need-record.the_row).coded a.ensured (λ f. f.1))
      (need_fills c.passed.0.now c.passed.1.0.now);
  never_ten = λ c r w a e.
      never_ten c.passed.0.now
      (sym (told-number (need_told c.passed.0.now)) ∙ sym (ap (λ (k : Refusal). k.number) (told (result cb_needs_stack.ended c) a.ensured (λ f. f.0))) ∙ e);
  beside_layout = λ c r w e q v a b s.
      along (λ x y. Beside x y q v.1.0) (told (result cb_needs_stack.ended c) a.ensured (λ f. f.0)) (told (need-record.the_row).coded a.ensured (λ f. f.1))
      (along (Beside _ _) (told (result cb_layout_of.ended e) b.ensured (λ f. f.0)) (told (layout-record.the_row).coded b.ensured (λ f. f.1))
      (beside_same c.passed.0.now e.passed.0.now s c.passed.1.0.now e.passed.1.0.now));
}
