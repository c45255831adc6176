-- The offsets of a type's members: which number, exactly, and how they follow one another. Assumes nothing.
use mathlib.Core.Path.{◌≡◌, refl, sym, ap, ◌∙◌}
use mathlib.Core.Bool.{Bool, true, false, cond}
use mathlib.Core.List.{List, [], ◌∷◌}
use mathlib.Core.Logic.{◌↔◌, ◌≢◌}
use Prim.Native.Nat.{ℕ, suc, ◌+◌, ◌-◌, ◌^◌, ◌≤◌, ◌<◌, max}
use native.Mathlib.Omega.{arith}
use borrow.Author.Tests.{eq-eqb, ne_eqb, lt-ltb, le-ltb, ltb-false}
use lib.Dec.{eqb}
use lib.ListN.{length, get_or}
use Rattle.description.specs.Description.{types_in, kind_at, a_at, count_at, member_at, model_in}
use Rattle.form.specs.Order.{rule, NoneHolds, Answers}
use Rattle.std.specs.Prelude.{Result, Ok, Err}
use Rattle.form.specs.declared.Refusal.{Refusal}
use Rattle.form.specs.Reading.{refusal_of, judgment}
use Rattle.form.proofs.Judgment.{refused, judgment-none}
use Rattle.form.proofs.Order.{refuses-exactly, accepts-exactly, first-before, first-behind, first-both, positive-append}
use Rattle.types.specs.Size.{size_ty, align_ty, offset_after, end_after}
use Rattle.types.specs.Decode.{tys_from, ty_at}
use Rattle.types.specs.Offsets.{offsets_from, member_offsets, members_of, count}
use Rattle.types.specs.Asks.{Sized, SizedRun, IsExtent}
use Rattle.types.specs.Table.{filled}
use Rattle.types.specs.Wrong.{refusal_for}
use Rattle.types.specs.declared.Extent.{Extent}
use Rattle.types.proofs.Offsets.{group-offsets, group-members, run-count}
use Rattle.types.proofs.Records.{View, v0, v1, v2, view}
use Rattle.types.proofs.Runs.{group-run, member-low, member-asks, run_step, run-rest}
use Rattle.types.proofs.Sizes.{offset-high}
use Rattle.types.proofs.Trees.{at-basic, at-array, at-group}
use Rattle.types.proofs.Wrong.{no_type}
use Rattle.questions.specs.Questions.{question_order, question_refusal}
use Rattle.questions.specs.Offsets.{short_offsets, offsets_order, offsets_refusal, OffsetAt, offsets_count, offsets_after, AskOffsets}
use Rattle.questions.proofs.Questions.{question-positive}

-- how many members a type has, by its kind
module _ (d : List ℕ) (t : ℕ) (s : Sized (model_in d) d t) where
  pub group-count : 2 ≤ kind_at d t → count (members_of (ty_at d t)) ≡ count_at d t
  group-count two =
      ap (λ ty. count (members_of ty)) (at-group d t s two)
      ∙ ap count (group-members (eqb (kind_at d t) 3) (tys_from (ty_at d) d (a_at d t) (count_at d t)))
      ∙ run-count (ty_at d) d (a_at d t) (count_at d t)

  pub other-count : kind_at d t < 2 → count (members_of (ty_at d t)) ≡ 0
  unfolding members_of count
  other-count less = by (view (kind_at d t))
    where
      by : View (kind_at d t) → count (members_of (ty_at d t)) ≡ 0
      by (v0 e) = ap (λ ty. count (members_of ty)) (at-basic d t s e)
      by (v1 e) = ap (λ ty. count (members_of ty)) (at-array d t s e)
      by (v2 two) = absurd (omega arith)

-- the answer is n exactly where condition n holds and none before it; 11 comes last
pub offsets-exactly : (d : List ℕ) (t room n : ℕ) → n ≢ 0 → (offsets_refusal d t room ≡ n) ↔ Answers (offsets_order d t room) n
unfolding offsets_refusal
offsets-exactly d t room n h = refuses-exactly (offsets_order d t room) n h

pub offsets-none_exactly : (d : List ℕ) (t room : ℕ) → (offsets_refusal d t room ≡ 0) ↔ NoneHolds (offsets_order d t room)
unfolding offsets_refusal
offsets-none_exactly d t room = accepts-exactly (offsets_order d t room) (positive-append (question_order d t) (rule 11 (short_offsets d t room) ∷ []) (question-positive d t) (omega arith, tt))

-- which number, and what is left in the list, from what the code looks at
module _ (d : List ℕ) (t room : ℕ) where
  offsets-question : (question_refusal d t ≡ 0 → ⊥) → offsets_refusal d t room ≡ question_refusal d t
  unfolding offsets_refusal question_refusal
  offsets-question h = first-before (question_order d t) (rule 11 (short_offsets d t room) ∷ []) h

  behind : question_refusal d t ≡ 0 → (b : Bool) → short_offsets d t room ≡ b → offsets_refusal d t room ≡ cond b 11 0
  unfolding offsets_refusal question_refusal
  behind q b e = first-behind (question_order d t) (rule 11 (short_offsets d t room) ∷ []) (question-positive d t) q ∙ rw e

  eleven : question_refusal d t ≡ 0 → room < count (members_of (ty_at d t)) → offsets_refusal d t room ≡ 11
  unfolding short_offsets
  eleven q l = behind q true (lt-ltb room (count (members_of (ty_at d t))) l)

  no_eleven : question_refusal d t ≡ 0 → count (members_of (ty_at d t)) ≤ room → offsets_refusal d t room ≡ 0
  unfolding short_offsets
  no_eleven q l = behind q false (le-ltb room (count (members_of (ty_at d t))) l)

  pub offsets-answered : offsets_refusal d t room ≡ 0 → question_refusal d t ≡ 0
  unfolding offsets_refusal question_refusal
  offsets-answered h = (first-both (question_order d t) (rule 11 (short_offsets d t room) ∷ []) (question-positive d t) h).0

  pub offsets-room : offsets_refusal d t room ≡ 0 → count (members_of (ty_at d t)) ≤ room
  unfolding short_offsets
  offsets-room h = ltb-false room (count (members_of (ty_at d t))) ((offsets-none_exactly d t room).0 h).1.1.1.1.1.1.1.1.0

  pub count_none : offsets_refusal d t room ≢ 0 → offsets_count d t room ≡ 0
  unfolding offsets_count
  count_none h = rw (ne_eqb (offsets_refusal d t room) 0 h) refl

  pub count-all : offsets_refusal d t room ≡ 0 → offsets_count d t room ≡ count (members_of (ty_at d t))
  unfolding offsets_count
  count-all e = rw (eq-eqb (offsets_refusal d t room) 0 e) refl

module _ (d : List ℕ) (t : ℕ) (list : List ℕ) where
  pub list_kept : offsets_refusal d t (length list) ≢ 0 → offsets_after d t list ≡ list
  unfolding offsets_after filled
  list_kept h = ap (λ (n : ℕ). filled (OffsetAt d t) n list) (count_none d t (length list) h)

  pub list_filled : offsets_refusal d t (length list) ≡ 0 → offsets_after d t list ≡ filled (OffsetAt d t) (count (members_of (ty_at d t))) list
  unfolding offsets_after
  list_filled e = ap (λ (n : ℕ). filled (OffsetAt d t) n list) (count-all d t (length list) e)

  -- the four ways in which `member_offsets` ends
  abbrev answer : Result (Unit {0}) Refusal
  answer = judgment (offsets_refusal d t (length list)) (refusal_for d (offsets_refusal d t (length list)))

  pub ends-refused : (found : Refusal) → Err found ≡ judgment (question_refusal d t) (refusal_for d (question_refusal d t)) → (Err found ≡ answer) × (list ≡ offsets_after d t list)
  ends-refused found e =
      let wrong = (refused _ _ found e).0 in
      let same = offsets-question d t (length list) wrong in
      (rw same e, sym (list_kept (λ q. wrong (sym same ∙ q))))

  module _ (answered : question_refusal d t ≡ 0) (s : Sized (model_in d) d t) where
    pub ends-other : kind_at d t < 2 → (Ok (tt {0}) ≡ answer) × (list ≡ offsets_after d t list)
    unfolding filled
    ends-other less =
        let none = other-count d t s less in
        let z : offsets_refusal d t (length list) ≡ 0 = no_eleven d t (length list) answered (omega (arith, none)) in
        (judgment-none _ _ z, sym (list_filled z ∙ ap (λ (n : ℕ). filled (OffsetAt d t) n list) none))

    pub ends-short : 2 ≤ kind_at d t → length list < count_at d t → (Err (refusal_of 11) ≡ answer) × (list ≡ offsets_after d t list)
    ends-short two less =
        let e : offsets_refusal d t (length list) ≡ 11 = eleven d t (length list) answered (omega (arith, group-count d t s two)) in
        (rw (e, no_type d 11 refl refl), sym (list_kept (λ q. omega (arith, q, e))))

    pub ends-filled : 2 ≤ kind_at d t → count_at d t ≤ length list → (Ok (tt {0}) ≡ answer) × (filled (OffsetAt d t) (count_at d t) list ≡ offsets_after d t list)
    ends-filled two room =
        let all = group-count d t s two in
        let z : offsets_refusal d t (length list) ≡ 0 = no_eleven d t (length list) answered (omega (arith, all)) in
        (judgment-none _ _ z, sym (list_filled z ∙ ap (λ (n : ℕ). filled (OffsetAt d t) n list) all))

-- where the loop stands before member i of n from place a on, those before it ending at x: the offsets of those that are left are the rest of all
pub record Before (d : List ℕ) (k a n : ℕ) (u : Bool) (i x : ℕ) : Type 0 where
  pub run : SizedRun (model_in d) d k (a + i) (n - i) x 1
  pub rest : (j : ℕ) → get_or (offsets_from (model_in d) (tys_from (ty_at d) d (a + i) (n - i)) u x) j 0 ≡ OffsetAt d k (i + j)

module _ (d : List ℕ) (k a n : ℕ) (u : Bool) where
  pub before-first : (table : List ℕ) (room : ℕ) → AskOffsets d k table room → a ≡ a_at d k → (n ≡ count_at d k) × (n < 65536) → u ≡ eqb (kind_at d k) 3 → Before d k a n u 0 0
  unfolding OffsetAt
  before-first table room p ea en eu = record {
    run = rw (first-place, all_left) (group-run d k a p.sized ea n en.0 p.group en.1 0 1 refl refl);
    rest = λ j. rw (first-place, all_left, ea, en.0, eu) (ap (λ l. get_or l j 0) (sym whole) ∙ ap (λ i. get_or (member_offsets (model_in d) (ty_at d k)) i 0) (omega arith));
  }
    where
      first-place : a + 0 ≡ a
      first-place = omega arith

      all_left : n - 0 ≡ n
      all_left = omega arith

      whole : member_offsets (model_in d) (ty_at d k) ≡ offsets_from (model_in d) (tys_from (ty_at d) d (a_at d k) (count_at d k)) (eqb (kind_at d k) 3) 0
      whole = ap (member_offsets (model_in d)) (at-group d k p.sized p.group) ∙ group-offsets (model_in d) (eqb (kind_at d k) 3) (tys_from (ty_at d) d (a_at d k) (count_at d k))

  -- member i is of type t
  module _ (i x : ℕ) (b : Before d k a n u i x) (less : i < n) (t : ℕ) (et : t ≡ member_at d (a + i)) where
    pub member-known : t < types_in d
    member-known = omega (arith, member-low d k (a + i) (n - i) x 1 b.run (omega arith) t et, b.run.sized.known)

  module _ (i x : ℕ) (b : Before d k a n u i x) (less : i < n) (t : ℕ) (et : t ≡ member_at d (a + i)) (e : Extent) (ee : IsExtent (model_in d) (ty_at d t) e) where
    pub offset-asks : (x ≤ 2 ^ 32) × ((0 < e.align.0) × (e.align.0 ≤ 32))
    offset-asks =
        let q = member-asks d k (a + i) (n - i) x 1 b.run (omega arith) t et e ee in
        (omega (arith, q.0), q.1.1)

    pub end_asks : (o : ℕ) → o ≡ offset_after u x e.align.0 → o + e.size.0 ≤ 2 ^ 63
    end_asks o eo =
        let q = member-asks d k (a + i) (n - i) x 1 b.run (omega arith) t et e ee in
        omega (arith, q, eo, offset-high u x e.align.0 q.1.1.0)

    step : offsets_from (model_in d) (tys_from (ty_at d) d (a + i) (n - i)) u x
        ≡ offset_after u x (align_ty (model_in d) (ty_at d t)) ∷ offsets_from (model_in d) (tys_from (ty_at d) d (a + i + 1) (n - i - 1)) u (end_after u x (align_ty (model_in d) (ty_at d t)) (size_ty (model_in d) (ty_at d t)))
    unfolding offsets_from
    step = ap (λ ts. offsets_from (model_in d) ts u x) (run_step d k (a + i) (n - i) x 1 b.run (omega arith) t et)

    pub offset-is : offset_after u x e.align.0 ≡ OffsetAt d k i
    offset-is = ap (offset_after u x) ee.align ∙ ap (λ l. get_or l 0 0) (sym step) ∙ b.rest 0 ∙ ap (OffsetAt d k) (omega arith)

    pub before-next : (o y : ℕ) → o ≡ offset_after u x e.align.0 → y ≡ max x (o + e.size.0) → Before d k a n u (i + 1) y
    unfolding end_after
    before-next o y eo ey = record {
      run = rw (next_place, next-left) (one-aligned (run-rest d k (a + i) (n - i) x 1 b.run (omega arith) t et e ee u y (max 1 e.align.0) (ey ∙ rw eo refl) refl));
      rest = λ j. rw (next_place, next-left, ey, eo, ee.align, ee.size) (ap (λ l. get_or l (suc j) 0) (sym step) ∙ b.rest (suc j) ∙ ap (OffsetAt d k) (omega arith));
    }
      where
        next_place : a + (i + 1) ≡ a + i + 1
        next_place = omega arith

        next-left : n - (i + 1) ≡ n - i - 1
        next-left = omega arith

        one-aligned : {c : ℕ} → SizedRun (model_in d) d k (a + i + 1) (n - i - 1) y c → SizedRun (model_in d) d k (a + i + 1) (n - i - 1) y 1
        one-aligned r = record { sized = r.sized; fits = r.fits; lower = r.lower; room = r.room; low = omega arith; high = omega arith }
