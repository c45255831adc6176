-- How the type of a number is made of those of lower numbers. Assumes nothing.
use mathlib.Core.Path.{◌≡◌, refl, ap, ap₂, ◌∙◌}
use mathlib.Core.List.{List}
use Prim.Native.Nat.{ℕ, zero, suc, ◌+◌, ◌≤◌, ◌<◌}
use native.Mathlib.Omega.{arith}
use borrow.Author.Tests.{eq-eqb, ne_eqb}
use lib.Dec.{eqb}
use Rattle.description.specs.Description.{kind_at, a_at, count_at, member_at}
use Rattle.types.specs.Tree.{Ty, basic, array, more, group}
use Rattle.types.proofs.Trees.{written}
use Rattle.types.specs.Decode.{tys_from, ty_by, ty_at}
use Rattle.old_types.specs.Asks.{Sized}
use Rattle.types.proofs.Records.{View, v0, v1, v2, view, Ruled, ruled}

tys_same : (f g : ℕ → Ty) (d : List ℕ) (i n : ℕ) → ((j : ℕ) → i ≤ j → j < i + n → f (member_at d j) ≡ g (member_at d j)) → tys_from f d i n ≡ tys_from g d i n
unfolding tys_from
tys_same f g d i zero h = refl
tys_same f g d i (suc n) h = ap₂ more (h i (omega arith) (omega arith)) (tys_same f g d (i + 1) n (λ j p q. h j (omega arith) (omega arith)))

written_same : (d : List ℕ) (f g : ℕ → Ty) (k : ℕ) → Ruled d k → ((j : ℕ) → j < k → f j ≡ g j) → View (kind_at d k) → written f d k ≡ written g d k
written_same d f g k r h (v0 e) = rw (eq-eqb (kind_at d k) 0 e)
written_same d f g k r h (v1 e) =
    rw (ne_eqb (kind_at d k) 0 (omega arith), eq-eqb (kind_at d k) 1 e) (ap (λ (t : Ty). array t (count_at d k)) (h (a_at d k) (r.element e)))
written_same d f g k r h (v2 l) =
    rw (ne_eqb (kind_at d k) 0 (omega arith), ne_eqb (kind_at d k) 1 (omega arith))
    (ap (group (eqb (kind_at d k) 3)) (tys_same f g d (a_at d k) (count_at d k) (λ j p q. h (member_at d j) (r.member l j p q))))

-- how deep is allowed does not matter, once it is enough
ty_same : (d : List ℕ) (top : ℕ) → ((j : ℕ) → j ≤ top → Ruled d j) → (m n k : ℕ) → k ≤ top → k < m → k < n → ty_by m d k ≡ ty_by n d k
unfolding ty_by
ty_same d top ok zero n k a p q = absurd (omega arith)
ty_same d top ok (suc m) zero k a p q = absurd (omega arith)
ty_same d top ok (suc m) (suc n) k a p q =
    written_same d (ty_by m d) (ty_by n d) k (ok k a) (λ j h. ty_same d top ok m n j (omega arith) (omega arith) (omega arith)) (view (kind_at d k))

module _ (d : List ℕ) (k : ℕ) (s : Sized d k) where
  pub sized-ruled : Ruled d k
  sized-ruled = ruled d k (s.right k (omega arith))

  at_same : ty_at d k ≡ written (ty_at d) d k
  unfolding ty_at ty_by
  at_same =
      written_same d (ty_by k d) (λ j. ty_by (suc j) d j) k sized-ruled
      (λ j h. ty_same d k (λ i p. ruled d i (s.right i p)) k (suc j) j (omega arith) h (omega arith)) (view (kind_at d k))

  -- type k, by its kind
  pub at-basic : kind_at d k ≡ 0 → ty_at d k ≡ basic (a_at d k)
  at-basic e = at_same ∙ rw (eq-eqb (kind_at d k) 0 e)

  pub at-array : kind_at d k ≡ 1 → ty_at d k ≡ array (ty_at d (a_at d k)) (count_at d k)
  at-array e = at_same ∙ rw (ne_eqb (kind_at d k) 0 (omega arith), eq-eqb (kind_at d k) 1 e)

  pub at-group : 2 ≤ kind_at d k → ty_at d k ≡ group (eqb (kind_at d k) 3) (tys_from (ty_at d) d (a_at d k) (count_at d k))
  at-group l = at_same ∙ rw (ne_eqb (kind_at d k) 0 (omega arith), ne_eqb (kind_at d k) 1 (omega arith))

  -- what is asked of k holds of each type below it
  pub sized-below : (j : ℕ) → j < k → Sized d j
  sized-below j h = record {
    known = omega arith;
    whole = s.whole;
    right = λ i p. s.right i (omega arith);
    small = λ i p. s.small i (omega arith);
  }
