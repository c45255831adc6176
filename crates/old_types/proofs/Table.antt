-- What the table of sizes and alignments of the 386 kind holds. Assumes nothing.
use mathlib.Core.Path.{◌≡◌, ap₂, ◌∙◌}
use mathlib.Core.List.{List}
use Prim.Native.Nat.{ℕ, ◌+◌, ◌/◌, ◌%◌, ◌≤◌, ◌<◌}
use native.Mathlib.Omega.{arith}
use borrow.Author.Tests.{eq-eqb, ne_eqb}
use lib.ListN.{length, get_or, set}
use Rattle.description.specs.Description.{types_in}
use Rattle.types.specs.Decode.{ty_at}
use Rattle.types.specs.Table.{packed, IsEntry, filled}
use Rattle.types.specs.declared.Extent.{Extent}
use Rattle.types.proofs.Table.{filled_next, filled-below}
use Rattle.old_types.specs.Size.{align_ty, size_ty}
use Rattle.old_types.specs.Conditions.{first_large, kept_refusal}
use Rattle.old_types.specs.Asks.{Sized, IsExtent}
use Rattle.old_types.specs.Table.{entry_at, sizes_after, Sizes}
use Rattle.old_types.proofs.Sizes.{align-high}

-- size and alignment come out of an entry again
packed-size : (x s a : ℕ) → s ≤ 4096 → x ≡ packed s a → x % 8192 ≡ s
unfolding packed
packed-size x s a h e = omega arith

packed-align : (x s a : ℕ) → s ≤ 4096 → a ≤ 4 → x ≡ packed s a → x / 8192 % 64 ≡ a
unfolding packed
packed-align x s a h l e = omega arith

-- the entries that were filled
pub sizes-filled : (d t : List ℕ) (n : ℕ) → length t ≡ 64 → n ≤ 64 → ((k : ℕ) → k < n → size_ty (ty_at d k) ≤ 4096) → Sizes d n (filled (entry_at d) n t)
sizes-filled d t n e l s = record { few = l; small = s; right = λ k h. filled-below (entry_at d) n t k 0 (omega arith) h }

-- what an entry says is what the type has
module _ (d t : List ℕ) (n : ℕ) (sizes : Sizes d n t) (k : ℕ) (l : k < n) where
  pub entry-low : k < 64
  entry-low = omega (arith, sizes.few)

  pub entry-extent : (r : Extent) → IsEntry (get_or t k 0) r → IsExtent (ty_at d k) r
  unfolding entry_at
  entry-extent r e = record {
    size = e.size ∙ packed-size (get_or t k 0) (size_ty (ty_at d k)) (align_ty (ty_at d k)) (sizes.small k l) (sizes.right k l);
    align = e.align ∙ packed-align (get_or t k 0) (size_ty (ty_at d k)) (align_ty (ty_at d k)) (sizes.small k l) (align-high (ty_at d k)) (sizes.right k l);
  }

-- the same of a type that can be asked, in a table of all types
module _ (d t : List ℕ) (w : Sizes d (types_in d) t) (k : ℕ) (s : Sized d k) where
  pub known-low : k < 64
  known-low = entry-low d t (types_in d) w k s.known

  pub known-extent : (r : Extent) → IsEntry (get_or t k 0) r → IsExtent (ty_at d k) r
  known-extent = entry-extent d t (types_in d) w k s.known

pub extent_entry : (d : List ℕ) (k : ℕ) (e : Extent) → IsExtent (ty_at d k) e → packed e.size.0 e.align.0 ≡ entry_at d k
unfolding entry_at
extent_entry d k e h = ap₂ packed h.size h.align

-- one entry more
pub filled_more : (d t u : List ℕ) (k x : ℕ) → u ≡ filled (entry_at d) k t → x ≡ entry_at d k → set u k x ≡ filled (entry_at d) (k + 1) t
filled_more d t u k x eu ex = rw (eu, ex) (filled_next (entry_at d) k t)

-- the whole table
module _ (d t : List ℕ) where
  pub sizes-refused : (kept_refusal d ≡ 0 → ⊥) → t ≡ sizes_after d t
  unfolding sizes_after
  sizes-refused h = rw (ne_eqb (kept_refusal d) 0 h)

  pub sizes-worked : kept_refusal d ≡ 0 → filled (entry_at d) (first_large d) t ≡ sizes_after d t
  unfolding sizes_after
  sizes-worked h = rw (eq-eqb (kept_refusal d) 0 h)
