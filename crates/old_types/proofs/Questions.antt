-- The refusals of a question about one type of the 386 kind: which number, exactly, and what an answered question is sure of. Assumes nothing.
use mathlib.Core.Path.{◌≡◌, refl, ◌∙◌}
use mathlib.Core.List.{List, [], ◌∷◌}
use mathlib.Core.Logic.{◌↔◌, ◌≢◌}
use Prim.Native.Nat.{ℕ, ◌+◌, ◌≤◌, ◌<◌}
use lib.ListN.{length}
use native.Mathlib.Omega.{arith}
use borrow.Author.Tests.{leb-false, le-leb, lt-leb}
use Rattle.description.specs.Description.{types_in, kind_at, a_at, count_at, member_start}
use Rattle.std.specs.Prelude.{Err}
use Rattle.form.specs.declared.Refusal.{Refusal}
use Rattle.form.specs.Reading.{refusal_of, judgment}
use Rattle.form.proofs.Judgment.{refused}
use Rattle.form.specs.Order.{rule, NoneHolds, Answers, Positive}
use Rattle.form.proofs.Order.{refuses-exactly, accepts-exactly, first-before, first-behind, first-both, positive-append}
use Rattle.old_types.specs.Conditions.{types_order, types_refusal, refusal_for}
use Rattle.old_types.specs.Asks.{Sized, IsExtent}
use Rattle.old_types.proofs.Judged.{no_type}
use Rattle.types.specs.declared.Extent.{Extent}
use Rattle.types.specs.Decode.{ty_at}
use Rattle.old_types.proofs.Orders.{accepted-sized, types-positive}
use Rattle.old_types.proofs.Trees.{sized-ruled}
use Rattle.questions.specs.Questions.{not_below}
use Rattle.old_types.specs.Questions.{question_refusal, extent_of, question_order}

-- the answer is n exactly where condition n holds and none before it
pub question-exactly : (d : List ℕ) (t n : ℕ) → n ≢ 0 → (question_refusal d t ≡ n) ↔ Answers (question_order d t) n
unfolding question_refusal
question-exactly d t n h = refuses-exactly (question_order d t) n h

pub question-positive : (d : List ℕ) (t : ℕ) → Positive (question_order d t)
question-positive d t = positive-append (types_order d) (rule 8 (not_below d t) ∷ []) (types-positive d) (omega arith, tt)

pub question-none_exactly : (d : List ℕ) (t : ℕ) → (question_refusal d t ≡ 0) ↔ NoneHolds (question_order d t)
unfolding question_refusal
question-none_exactly d t = accepts-exactly (question_order d t) (question-positive d t)

module _ (d : List ℕ) (t : ℕ) where
  -- what is answered, by what the types are and by whether t is one of them
  types-behind : (types_refusal d ≡ 0 → ⊥) → question_refusal d t ≡ types_refusal d
  unfolding question_refusal types_refusal
  types-behind h = first-before (types_order d) (rule 8 (not_below d t) ∷ []) h

  pub judged-types : (found : Refusal) → Err found ≡ judgment (types_refusal d) (refusal_for d (types_refusal d)) → Err found ≡ judgment (question_refusal d t) (refusal_for d (question_refusal d t))
  judged-types found e = rw (types-behind (refused _ _ found e).0) e

  module _ (right : types_refusal d ≡ 0) where
    question-eight : types_in d ≤ t → question_refusal d t ≡ 8
    unfolding question_refusal types_refusal not_below
    question-eight past = first-behind (types_order d) (rule 8 (not_below d t) ∷ []) (types-positive d) right ∙ rw (le-leb (types_in d) t past)

    pub judged-eight : types_in d ≤ t → Err (refusal_of 8) ≡ judgment (question_refusal d t) (refusal_for d (question_refusal d t))
    judged-eight past = rw (question-eight past, no_type d 8 refl refl)

    pub question-right : t < types_in d → question_refusal d t ≡ 0
    unfolding question_refusal types_refusal not_below
    question-right below = first-behind (types_order d) (rule 8 (not_below d t) ∷ []) (types-positive d) right ∙ rw (lt-leb (types_in d) t below)

  module _ (answered : question_refusal d t ≡ 0) where
    pub answered-types : types_refusal d ≡ 0
    unfolding question_refusal types_refusal
    answered-types = (first-both (types_order d) (rule 8 (not_below d t) ∷ []) (types-positive d) answered).0

    pub answered-known : t < types_in d
    unfolding not_below
    answered-known = leb-false (types_in d) t ((question-none_exactly d t).0 answered).1.1.1.1.1.1.1.1.0

    pub answered-sized : Sized d t
    answered-sized = accepted-sized d answered-types t answered-known

    -- the extent that was found is the definition's
    pub extent_is : (e : Extent) → IsExtent (ty_at d t) e → e ≡ extent_of (ty_at d t)
    extent_is e h = λ i. record { size = record { 0 = h.size i }; align = record { 0 = h.align i } }

    -- the run of a struct or a union lies within the description
    pub run-within : 2 ≤ kind_at d t → member_start d + a_at d t + count_at d t ≤ length d
    run-within two = omega (arith, answered-sized.whole.stated, (sized-ruled d t answered-sized).run two)
