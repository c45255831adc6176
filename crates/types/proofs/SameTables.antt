-- Two descriptions that have one type table have the same types under the same numbers. Assumes nothing.
use mathlib.Core.Path.{◌≡◌, refl, ap, ap₂, ◌∙◌}
use mathlib.Core.List.{List}
use Prim.Native.Nat.{ℕ, zero, suc, ◌+◌, ◌*◌, ◌≤◌, ◌<◌}
use native.Mathlib.Omega.{arith}
use borrow.Author.Tests.{eq-eqb, ne_eqb}
use lib.Dec.{eqb}
use Rattle.description.specs.Description.{byte_at, types_in, members_in, member_start, record_start, kind_at, a_at, count_at, member_at}
use Rattle.form.specs.Order.{form_refusal}
use Rattle.form.proofs.Form.{accepted-records}
use Rattle.types.specs.Tree.{Ty, array, more, group}
use Rattle.types.specs.Decode.{tys_from, ty_by, ty_at}
use Rattle.types.specs.SameTables.{SameTable}
use Rattle.types.proofs.Records.{View, v0, v1, v2, view, Ruled, ruled}
use Rattle.types.proofs.Trees.{written}

module _ (d e : List ℕ) (s : SameTable d e) where
  -- what stands in the records, and in the runs
  module _ (k : ℕ) (l : k < types_in d) where
    same_kind : kind_at e k ≡ kind_at d k
    unfolding kind_at
    same_kind = s.bytes (record_start k) (omega arith) (omega arith)

    same-a : a_at e k ≡ a_at d k
    unfolding a_at
    same-a = s.bytes (record_start k + 1) (omega arith) (omega arith)

    same_count : count_at e k ≡ count_at d k
    unfolding count_at
    same_count = omega (arith, s.bytes (record_start k + 2) (omega arith) (omega arith), s.bytes (record_start k + 2 + 1) (omega arith) (omega arith))

  same-member : (i : ℕ) → i < members_in d → member_at e i ≡ member_at d i
  unfolding member_at
  same-member i l = ap (λ (t : ℕ). byte_at e (11 + 4 * t + i)) s.types ∙ s.bytes (member_start d + i) (omega arith) (omega arith)

  same-run : (f g : ℕ → Ty) (i n : ℕ) → i + n ≤ members_in d → ((j : ℕ) → i ≤ j → j < i + n → g (member_at d j) ≡ f (member_at d j)) → tys_from g e i n ≡ tys_from f d i n
  unfolding tys_from
  same-run f g i zero l h = refl
  same-run f g i (suc n) l h =
      ap₂ more (ap g (same-member i (omega arith)) ∙ h i (omega arith) (omega arith)) (same-run f g (i + 1) n (omega arith) (λ j p q. h j (omega arith) (omega arith)))

  same-written : (f g : ℕ → Ty) (k : ℕ) → k < types_in d → Ruled d k → ((j : ℕ) → j < k → g j ≡ f j) → View (kind_at d k) → written g e k ≡ written f d k
  same-written f g k l r h (v0 q) = rw (same_kind k l, same-a k l, eq-eqb (kind_at d k) 0 q)
  same-written f g k l r h (v1 q) =
      rw (same_kind k l, same-a k l, same_count k l, ne_eqb (kind_at d k) 0 (omega arith), eq-eqb (kind_at d k) 1 q) (ap (λ (t : Ty). array t (count_at d k)) (h (a_at d k) (r.element q)))
  same-written f g k l r h (v2 q) =
      rw (same_kind k l, same-a k l, same_count k l, ne_eqb (kind_at d k) 0 (omega arith), ne_eqb (kind_at d k) 1 (omega arith))
      (ap (group (eqb (kind_at d k) 3)) (same-run f g (a_at d k) (count_at d k) (r.run q) (λ j p t. h (member_at d j) (r.member q j p t))))

  module _ (right : form_refusal d ≡ 0) where
    same_by : (n k : ℕ) → k < types_in d → ty_by n e k ≡ ty_by n d k
    unfolding ty_by
    same_by zero k l = refl
    same_by (suc n) k l = same-written (ty_by n d) (ty_by n e) k l (ruled d k (accepted-records d right k l)) (λ j p. same_by n j (omega arith)) (view (kind_at d k))

    pub same-type : (k : ℕ) → k < types_in d → ty_at e k ≡ ty_at d k
    unfolding ty_at
    same-type k l = same_by (suc k) k l
