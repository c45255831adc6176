-- The rules for aggregates are document 01's, whatever the table; alignments of the 386 kind are 1, 2 and 4. Assumes nothing.
use mathlib.Core.Path.{◌≡◌, refl, ap, ap₂}
use mathlib.Core.Bool.{Bool, true, false}
use mathlib.Core.List.{List, [], ◌∷◌}
use Prim.Native.Nat.{ℕ, zero, suc, ◌*◌, ◌≤◌, ◌<◌, max}
use lib.ListN.{length, get_or}
use native.Mathlib.Omega.{arith}
use Rattle.description.specs.declared.Model.{Model}
use Rattle.units.specs.Raise.{raise}
use Rattle.types.specs.Tree.{Ty, Tys, basic, array, struct, union, none, more}
use Rattle.types.specs.Alignments.{Alignment, one, two, four}
use Rattle.types.specs.Size.{align_ty as align_ty64, align_tys as align_tys64, size_ty as size_ty64, end_of as end_of64, end_after}
use Rattle.types.proofs.Sizes.{each_at}
use Rattle.old_types.specs.Basic.{aligns, basic_align}
use Rattle.old_types.specs.Size.{align_by, aligns_by, size_by, end_by, old, align_ty}
use Rattle.old_types.specs.Statements.{tables}

mutual
  unfolding align_by aligns_by align_ty64 align_tys64

  pub same_align : (m : Model) (t : Ty) → align_by (tables m) t ≡ align_ty64 m t
  same_align m (basic code) = refl
  same_align m (array t n) = same_align m t
  same_align m (struct ts) = same-aligns m ts
  same_align m (union ts) = same-aligns m ts

  pub same-aligns : (m : Model) (ts : Tys) → aligns_by (tables m) ts ≡ align_tys64 m ts
  same-aligns m none = refl
  same-aligns m (more t ts) = ap₂ max (same_align m t) (same-aligns m ts)

mutual
  unfolding size_by end_by size_ty64 end_of64

  pub same_size : (m : Model) (t : Ty) → size_by (tables m) t ≡ size_ty64 m t
  same_size m (basic code) = refl
  same_size m (array t n) = ap (λ (s : ℕ). s * n) (same_size m t)
  same_size m (struct ts) = ap₂ raise (same-aligns m ts) (same_end m ts false 0)
  same_size m (union ts) = ap₂ raise (same-aligns m ts) (same_end m ts true 0)

  pub same_end : (m : Model) (ts : Tys) (u : Bool) (x : ℕ) → end_by (tables m) ts u x ≡ end_of64 m ts u x
  same_end m none u x = refl
  same_end m (more t ts) u x = rw (same_align m t, same_size m t) (same_end m ts u (end_after u x (align_ty64 m t) (size_ty64 m t)))

-- within a list what is said to stand past its end does not matter
pub within : (l : List ℕ) (k a b : ℕ) → k < length l → get_or l k a ≡ get_or l k b
within [] k a b h = absurd (omega arith)
within (y ∷ l) zero a b h = refl
within (y ∷ l) (suc k) a b h = within l k a b (omega arith)

-- ---- alignments of the 386 kind

-- "alignment meaning 4": none is more
pub data Small : ℕ → Type 0 where
  by_one : Small 1
  by_two : Small 2
  by_four : Small 4

basic-small : (code : ℕ) → Small (basic_align code)
unfolding basic_align
basic-small code =
    each_at Small aligns 1
    (by_one, (by_one, (by_two, (by_four, (by_four, (by_one, (by_four, (by_four, (by_four, (by_one, (by_one, (by_one, (by_one, (by_one, (by_one, (by_four, (by_one, tt))))))))))))))))) by_one code

max-small : (a b : ℕ) → Small a → Small b → Small (max a b)
max-small _ _ by_one by_one = by_one
max-small _ _ by_one by_two = by_two
max-small _ _ by_one by_four = by_four
max-small _ _ by_two by_one = by_two
max-small _ _ by_two by_two = by_two
max-small _ _ by_two by_four = by_four
max-small _ _ by_four by_one = by_four
max-small _ _ by_four by_two = by_four
max-small _ _ by_four by_four = by_four

mutual
  unfolding align_by aligns_by old

  pub small-align : (t : Ty) → Small (align_ty t)
  small-align (basic code) = basic-small code
  small-align (array t n) = small-align t
  small-align (struct ts) = small-aligns ts
  small-align (union ts) = small-aligns ts

  pub small-aligns : (ts : Tys) → Small (aligns_by old ts)
  small-aligns none = by_one
  small-aligns (more t ts) = max-small _ _ (small-align t) (small-aligns ts)

pub small_is : {a : ℕ} → Small a → Alignment a
small_is by_one = one
small_is by_two = two
small_is by_four = four

pub small_low : {a : ℕ} → Small a → 1 ≤ a
small_low by_one = omega arith
small_low by_two = omega arith
small_low by_four = omega arith

pub small-high : {a : ℕ} → Small a → a ≤ 4
small-high by_one = omega arith
small-high by_two = omega arith
small-high by_four = omega arith

pub align-low : (t : Ty) → 1 ≤ align_ty t
align-low t = small_low (small-align t)

pub align-high : (t : Ty) → align_ty t ≤ 4
align-high t = small-high (small-align t)

pub aligns-low : (ts : Tys) → 1 ≤ aligns_by old ts
aligns-low ts = small_low (small-aligns ts)

pub aligns-high : (ts : Tys) → aligns_by old ts ≤ 4
aligns-high ts = small-high (small-aligns ts)
