-- Where the members of a type lie, and what a list of their offsets holds. Assumes nothing.
use mathlib.Core.Path.{◌≡◌, refl, sym, ap, ap₂, ◌∙◌, subst}
use mathlib.Core.Bool.{Bool, true, false}
use mathlib.Core.List.{List}
use Prim.Native.Nat.{ℕ, ◌+◌, ◌%◌, ◌≤◌, ◌<◌}
use native.Mathlib.Numerals.{add-one}
use native.Mathlib.Omega.{arith}
use borrow.Author.Tests.{eq-eqb, ne_eqb, eqb-true, eqb-false}
use lib.Dec.{eqb}
use lib.ListN.{length, get_or}
use Rattle.description.specs.Description.{kind_at, a_at, count_at, model_in}
use Rattle.types.specs.Tree.{Tys, group}
use Rattle.types.specs.Size.{align_ty, size_ty, offset_after}
use Rattle.types.specs.Decode.{tys_from, ty_at}
use Rattle.types.specs.Offsets.{offsets_from, member_offsets, members_of, count, member_in}
use Rattle.types.specs.Table.{filled}
use Rattle.types.proofs.Sizes.{align-low}
use Rattle.types.proofs.Offsets.{members-count, group-offsets, run-count, run-member, first-offset, next-offset, union-offset, member-aligned, member-within}
use Rattle.types.proofs.Table.{filled-below, filled-past}
use Rattle.types.proofs.Trees.{at-group}
use Rattle.questions.specs.Questions.{question_refusal}
use Rattle.questions.specs.Offsets.{offsets_refusal, OffsetAt, offsets_after}
use Rattle.questions.proofs.Questions.{answered-sized}
use Rattle.questions.proofs.Offsets.{group-count, other-count, offsets-answered, offsets-room, list_kept, list_filled}
use Rattle.places.specs.Statements.{RoundedUp}
use Rattle.places.proofs.Offsets.{rounded-up}
use Rattle.promises.specs.Demand2.{member_ty, MembersLie}

-- ---- the offsets

pub as_many : (d : List ℕ) (t : ℕ) → question_refusal d t ≡ 0 → 2 ≤ kind_at d t
    → (length (member_offsets (model_in d) (ty_at d t)) ≡ count_at d t) × (count (members_of (ty_at d t)) ≡ count_at d t)
as_many d t answered two =
    let all = group-count d t (answered-sized d t answered) two in
    (members-count (model_in d) (ty_at d t) ∙ all, all)

module _ (d : List ℕ) (t : ℕ) (answered : question_refusal d t ≡ 0) (two : 2 ≤ kind_at d t) where
  abbrev ts : Tys
  ts = tys_from (ty_at d) d (a_at d t) (count_at d t)

  abbrev u : Bool
  u = eqb (kind_at d t) 3

  ty_is : ty_at d t ≡ group u ts
  ty_is = at-group d t (answered-sized d t answered) two

  offset-in : (b : Bool) → u ≡ b → (i : ℕ) → OffsetAt d t i ≡ get_or (offsets_from (model_in d) ts b 0) i 0
  unfolding OffsetAt
  offset-in b e i = ap (λ l. get_or l i 0) (ap (member_offsets (model_in d)) ty_is ∙ group-offsets (model_in d) u ts) ∙ ap (λ c. get_or (offsets_from (model_in d) ts c 0) i 0) e

  member_is : (i : ℕ) → i < count_at d t → member_in ts i ≡ member_ty d t i
  member_is i h = run-member (ty_at d) d (a_at d t) (count_at d t) i h

  counted : (i : ℕ) → i < count_at d t → i < count ts
  counted i h = omega (arith, run-count (ty_at d) d (a_at d t) (count_at d t))

  next_is : kind_at d t ≡ 2 → (i : ℕ) → i + 1 < count_at d t
      → OffsetAt d t (i + 1) ≡ offset_after false (OffsetAt d t i + size_ty (model_in d) (member_ty d t i)) (align_ty (model_in d) (member_ty d t (i + 1)))
  next_is k i h =
      let struct : u ≡ false = ne_eqb (kind_at d t) 3 (omega arith) in
      offset-in false struct (i + 1)
      ∙ ap (λ j. get_or (offsets_from (model_in d) ts false 0) j 0) (add-one i)
      ∙ next-offset (model_in d) ts 0 i (omega (arith, counted (i + 1) h))
      ∙ ap₂ (offset_after false) (ap₂ ◌+◌ (sym (offset-in false struct i)) (ap (size_ty (model_in d)) (member_is i (omega arith))))
      (ap (λ j. align_ty (model_in d) (member_in ts j)) (sym (add-one i)) ∙ ap (align_ty (model_in d)) (member_is (i + 1) h))

  up : (x a o : ℕ) → 0 < a → o ≡ offset_after false x a → RoundedUp a x o
  unfolding offset_after
  up x a o h e = subst (RoundedUp a x) (sym e) (rounded-up a x h)

  pub members-lie : MembersLie d t (OffsetAt d t)
  members-lie = record {
    first = λ k. offset-in false (ne_eqb (kind_at d t) 3 (omega arith)) 0 ∙ first-offset (model_in d) ts;
    next = λ k i h. up _ _ _ (align-low (model_in d) (member_ty d t (i + 1))) (next_is k i h);
    union = λ k i h. offset-in true (eq-eqb (kind_at d t) 3 k) i ∙ union-offset (model_in d) ts 0 i;
    aligned = λ i h. ap₂ ◌%◌ (offset-in u refl i) (ap (align_ty (model_in d)) (sym (member_is i h))) ∙ member-aligned (model_in d) ts u 0 i (counted i h);
    within = λ i h.
        let o : OffsetAt d t i ≡ get_or (offsets_from (model_in d) ts u 0) i 0 = offset-in u refl i in
        let s : size_ty (model_in d) (member_ty d t i) ≡ size_ty (model_in d) (member_in ts i) = ap (size_ty (model_in d)) (sym (member_is i h)) in
        let w : size_ty (model_in d) (ty_at d t) ≡ size_ty (model_in d) (group u ts) = ap (size_ty (model_in d)) ty_is in
        omega (arith, o, s, w, member-within (model_in d) ts u i (counted i h));
  }

-- the same of offsets that are the same
pub same_lie : (d : List ℕ) (t : ℕ) (o p : ℕ → ℕ) → 1 ≤ count_at d t → ((i : ℕ) → i < count_at d t → p i ≡ o i) → MembersLie d t o → MembersLie d t p
same_lie d t o p some e l = record {
  first = λ k. e 0 (omega arith) ∙ l.first k;
  next = λ k i h. subst (λ x. RoundedUp (align_ty (model_in d) (member_ty d t (i + 1))) (x + size_ty (model_in d) (member_ty d t i)) (p (i + 1))) (sym (e i (omega arith)))
      (subst (RoundedUp (align_ty (model_in d) (member_ty d t (i + 1))) (o i + size_ty (model_in d) (member_ty d t i))) (sym (e (i + 1) h)) (l.next k i h));
  union = λ k i h. e i h ∙ l.union k i h;
  aligned = λ i h. ap (λ x. x % align_ty (model_in d) (member_ty d t i)) (e i h) ∙ l.aligned i h;
  within = λ i h. omega (arith, e i h, l.within i h);
}

-- ---- the list at exit

module _ (d : List ℕ) (t : ℕ) (list : List ℕ) where
  module _ (i x : ℕ) (accepted : offsets_refusal d t (length list) ≡ 0) (two : 2 ≤ kind_at d t) where
    many : count (members_of (ty_at d t)) ≡ count_at d t
    many = group-count d t (answered-sized d t (offsets-answered d t (length list) accepted)) two

    pub offset-below : i < count_at d t → get_or (offsets_after d t list) i x ≡ OffsetAt d t i
    offset-below h =
        ap (λ l. get_or l i x) (list_filled d t list accepted)
        ∙ filled-below (OffsetAt d t) (count (members_of (ty_at d t))) list i x (offsets-room d t (length list) accepted) (omega (arith, many))

    pub offset-past : count_at d t ≤ i → get_or (offsets_after d t list) i x ≡ get_or list i x
    offset-past h =
        ap (λ l. get_or l i x) (list_filled d t list accepted)
        ∙ filled-past (OffsetAt d t) (count (members_of (ty_at d t))) list i x (omega (arith, many))

  pub other-stays : kind_at d t < 2 → offsets_after d t list ≡ list
  unfolding filled
  other-stays less = by (eqb (offsets_refusal d t (length list)) 0) refl
    where
      by : (b : Bool) → eqb (offsets_refusal d t (length list)) 0 ≡ b → offsets_after d t list ≡ list
      by true e =
          let z : offsets_refusal d t (length list) ≡ 0 = eqb-true (offsets_refusal d t (length list)) 0 e in
          list_filled d t list z ∙ ap (λ (n : ℕ). filled (OffsetAt d t) n list) (other-count d t (answered-sized d t (offsets-answered d t (length list) z)) less)
      by false e = list_kept d t list (eqb-false (offsets_refusal d t (length list)) 0 e)
