-- Request 2026-01: the type that each call's refusal names is the lowest that breaks the rule. Assumes nothing.
use Rattle.std.specs.Prelude.{Err, Ok}
use mathlib.Core.Path.{◌≡◌, refl, sym, subst, ◌∙◌}
use mathlib.Core.Logic.{◌≢◌}
use mathlib.Core.Bool.{Bool, true, false, cond, ◌&&◌, ◌||◌, true≢false}
use mathlib.Core.List.{List, [], ◌∷◌}
use Prim.Native.Nat.{ℕ, zero, suc}
use native.Mathlib.Omega.{arith}
use borrow.Author.Tests.{eq-eqb, ne_eqb, ltb-true}
use lib.Dec.{eqb}
use Rattle.description.specs.Description.{types_in, header_of, model_in}
use Rattle.form.specs.Conditions.{wrong_record, first_broken}
use Rattle.form.specs.Order.{Rule, rule, first, form_refusal}
use Rattle.form.specs.Reading.{refusal_at, refusal_by, refusal_of, reading_of}
use Rattle.form.proofs.Form.{broken-first, broken-least}
use Rattle.types.specs.Large.{too_large, first_large}
use Rattle.types.specs.Wrong.{refusal_for}
use Rattle.types.proofs.Large.{large-first, large-least}
use Rattle.questions.specs.Questions.{question_refusal}
use Rattle.questions.specs.Offsets.{offsets_refusal}
use Rattle.uses.specs.Uses.{uses_refusal}
use Rattle.layout.specs.Verdict.{verdict}
use Rattle.layout.specs.Lists.{list_refusal}
use Rattle.moving.specs.Orders.{place_refusal, gather_refusal}
use Rattle.returning.specs.Orders.{put_refusal, take_refusal}
use Rattle.station.specs.Paper.{kcb, refusal_under}
use Rattle.station.specs.declared.Station.{Station}
use Rattle.station.specs.Attachment.{described, attach_refusal, detach_refusal}
use Rattle.station.proofs.Changes.{change-order}
use Rattle.station.proofs.Kcb.{kcb-refusal}
use Rattle.walk.specs.Orders.{open_refusal, step_refusal, show_refusal}
use Rattle.finishing.specs.Rest.{finish_refusal}
use Rattle.promises.specs.Orders.{form_order, check_order, need_order, question_order, offsets_order, layout_order, place_order, gather_order, put_order, take_order, attach_order, detach_order, open_order, step_order, show_order, change_order, finish_order}
use Rattle.promises.specs.WrongType.{Names, refusal_read, WrongType}

-- whether a condition numbered n holds
abbrev holding : ℕ → List Rule → Bool
holding n [] = false
holding n (rule m b ∷ rules) = (eqb m n && b) || holding n rules

-- an order that answers n has such a condition
holds : (n : ℕ) (rules : List Rule) → n ≢ 0 → first rules ≡ n → holding n rules ≡ true
holds n [] z e = absurd (z (sym e))
holds n (rule m true ∷ rules) z e = rw (eq-eqb m n e)
holds n (rule m false ∷ rules) z e = rest (eqb m n) (holds n rules z e)
  where
    rest : (b : Bool) → holding n rules ≡ true → ((b && false) || holding n rules) ≡ true
    rest true h = h
    rest false h = h

-- any call whose order has 6 and 7 for those two conditions alone
module _ (d : List ℕ) (rules : List Rule) (six : holding 6 rules ≡ true → wrong_record d ≡ true) (seven : holding 7 rules ≡ true → too_large (model_in d) d ≡ true) where
  pub names : Names d (refusal_for d (first rules))
  unfolding refusal_for refusal_by refusal_at wrong_record too_large
  names = record {
    six = λ e. rw (eq-eqb (first rules) 6 e) (
        let b : wrong_record d ≡ true = six (holds 6 rules (λ z. omega arith) e) in
        record {
          known = ltb-true (first_broken d) (types_in d) b;
          breaks = broken-first d b;
          lower = λ j l q. true≢false (sym q ∙ broken-least d j l);
        }
        );
    seven = λ e. rw (e) (
        let b : too_large (model_in d) d ≡ true = seven (holds 7 rules (λ z. omega arith) e) in
        record {
          known = ltb-true (first_large (model_in d) d) (types_in d) b;
          breaks = large-first (model_in d) d b;
          lower = λ j l q. omega (arith, q, large-least (model_in d) d j l);
        }
        );
    other = λ p q. rw (ne_eqb (first rules) 6 p, ne_eqb (first rules) 7 q);
  }

-- a condition, and none behind it
pub alone : (b : Bool) → (b || false) ≡ true → b ≡ true
alone true e = refl
alone false e = e

-- the same of the seat's
seated : (d : List ℕ) (n : ℕ) → Names d (refusal_for d n) → Names d (refusal_under kcb d n)
seated d n h = rw (kcb-refusal d n) h

-- of 1 to 6, 6 alone names a type
read_names : (d : List ℕ) → Names d (refusal_read (reading_of d))
unfolding reading_of form_refusal refusal_of refusal_at wrong_record
read_names d = by (first (form_order d)) refl
  where
    by : (n : ℕ) → first (form_order d) ≡ n → Names d (refusal_read (cond (eqb n 0) (Ok (header_of d)) (Err (refusal_at n (cond (eqb n 6) (first_broken d) 0)))))
    by zero e = record { six = λ p. absurd (omega (arith, p)); seven = λ p. absurd (omega (arith, p)); other = λ p q. refl }
    by (suc m) e = rw (ne_eqb (suc m) 0 (λ z. omega (arith, z))) (record {
      six = λ p. rw (eq-eqb (suc m) 6 p) (
          let b : wrong_record d ≡ true = alone (wrong_record d) (holds 6 (form_order d) (λ z. omega arith) (e ∙ p)) in
          record {
            known = ltb-true (first_broken d) (types_in d) b;
            breaks = broken-first d b;
            lower = λ j l q. true≢false (sym q ∙ broken-least d j l);
          }
          );
      seven = λ p. absurd (true≢false (sym (holds 7 (form_order d) (λ z. omega arith) (e ∙ p))));
      other = λ p q. rw (ne_eqb (suc m) 6 p) refl;
    })

-- neither 6 nor 7 is among 11 and 13
detach-names : (s : Station) (seat d : List ℕ) → Names d (refusal_of (detach_refusal s seat))
unfolding refusal_of refusal_at detach_refusal
detach-names s seat d = record {
  six = λ e. absurd (true≢false (sym (holds 6 (detach_order s seat) (λ z. omega arith) e)));
  seven = λ e. absurd (true≢false (sym (holds 7 (detach_order s seat) (λ z. omega arith) e)));
  other = λ p q. refl;
}

pub wrong_type : WrongType
unfolding kcb verdict uses_refusal question_refusal offsets_refusal list_refusal place_refusal gather_refusal put_refusal take_refusal attach_refusal open_refusal step_refusal show_refusal finish_refusal
wrong_type = record {
  read_form_lem = read_names;
  check = λ d. names d (check_order d) (alone (wrong_record d)) (alone (too_large (model_in d) d));
  question = λ d t. names d (question_order d t) (alone (wrong_record d)) (alone (too_large (model_in d) d));
  member_offsets_lem = λ d t room. names d (offsets_order d t room) (alone (wrong_record d)) (alone (too_large (model_in d) d));
  lay_out = λ d room. names d (layout_order d room) (alone (wrong_record d)) (alone (too_large (model_in d) d));
  needs_stack = λ d. names d (need_order d) (alone (wrong_record d)) (alone (too_large (model_in d) d));
  place_values = λ d h values registers upper stack. names d (place_order d h values registers upper stack) (alone (wrong_record d)) (alone (too_large (model_in d) d));
  gather_values = λ d values registers upper stack. names d (gather_order d values registers upper stack) (alone (wrong_record d)) (alone (too_large (model_in d) d));
  put_returned = λ d h value image upper. names d (put_order d h value image upper) (alone (wrong_record d)) (alone (too_large (model_in d) d));
  take_returned = λ d image upper value. names d (take_order d image upper value) (alone (wrong_record d)) (alone (too_large (model_in d) d));
  attach = λ s seat d. seated d _ (names d (attach_order s seat d) (alone (wrong_record d)) (alone (too_large (model_in d) d)));
  detach = detach-names;
  change = λ s seat d. subst (λ (n : ℕ). Names d (refusal_under kcb d n)) (sym (change-order kcb s seat d)) (seated d _ (names d (change_order s seat d) (alone (wrong_record d)) (alone (too_large (model_in d) d))));
  open_walk_lem = λ s seat. seated (described s seat) _ (names (described s seat) (open_order s seat) (alone (wrong_record (described s seat))) (alone (too_large (model_in (described s seat)) (described s seat))));
  step = λ s seat w a. seated (described s seat) _ (names (described s seat) (step_order s seat w a) (alone (wrong_record (described s seat))) (alone (too_large (model_in (described s seat)) (described s seat))));
  show = λ s seat w a. seated (described s seat) _ (names (described s seat) (show_order s seat w a) (alone (wrong_record (described s seat))) (alone (too_large (model_in (described s seat)) (described s seat))));
  finish_walk_lem = λ s seat w a. seated (described s seat) _ (names (described s seat) (finish_order s seat w a) (alone (wrong_record (described s seat))) (alone (too_large (model_in (described s seat)) (described s seat))));
}
