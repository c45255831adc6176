-- Tables of types: what `index_of` finds, and what is added. Assumes nothing.
use mathlib.Core.Path.{◌≡◌, refl, ap, ◌∙◌}
use mathlib.Core.Bool.{Bool, true, false, cond}
use mathlib.Core.List.{List, [], ◌∷◌, ◌++◌}
use Prim.Native.Nat.{ℕ, zero, suc, ◌≤◌, ◌<◌}
use native.Mathlib.Omega.{arith}
use borrow.Author.Tests.{lt-ltb, le-ltb}
use lib.ListN.{length, length-append, get_or-append}
use Rattle.types.specs.Tree.{Ty, basic}
use Rattle.tidying.specs.Same.{same_ty}
use Rattle.tidying.specs.Numbering.{index_of, completed}
use Rattle.tidying.specs.Ordered.{at}
use Rattle.tidying.specs.Equal.{same_true, same_self}

pub index_bound : (table : List Ty) (t : Ty) → index_of table t ≤ length table
unfolding index_of
index_bound [] t = omega arith
index_bound (s ∷ table) t = by (same_ty s t) (index_bound table t)
  where
    by : (b : Bool) → index_of table t ≤ length table → cond b 0 (suc (index_of table t)) ≤ suc (length table)
    by true h = omega arith
    by false h = omega arith

-- the number that is found is the type's
pub at-index : (table : List Ty) (t : Ty) → index_of table t < length table → at table (index_of table t) ≡ t
unfolding index_of
at-index [] t h = absurd (omega arith)
at-index (s ∷ table) t h = by (same_ty s t) refl h (at-index table t)
  where
    by : (b : Bool) → same_ty s t ≡ b → cond b 0 (suc (index_of table t)) < suc (length table) → (index_of table t < length table → at table (index_of table t) ≡ t)
        → at (s ∷ table) (cond b 0 (suc (index_of table t))) ≡ t
    by true e h r = same_true s t e
    by false e h r = r (omega arith)

-- a type that stands somewhere is found there or before
pub index_at : (table : List Ty) (k : ℕ) → k < length table → index_of table (at table k) ≤ k
unfolding index_of
index_at [] k h = absurd (omega arith)
index_at (s ∷ table) zero h = rw (same_self s) (omega arith)
index_at (s ∷ table) (suc k) h = by (same_ty s (at table k)) (index_at table k (omega arith))
  where
    by : (b : Bool) → index_of table (at table k) ≤ k → cond b 0 (suc (index_of table (at table k))) ≤ suc k
    by true h = omega arith
    by false h = omega arith

-- what is found stays where more follows
pub index_append : (table later : List Ty) (t : Ty) → index_of table t < length table → index_of (table ++ later) t ≡ index_of table t
unfolding index_of
index_append [] later t h = absurd (omega arith)
index_append (s ∷ table) later t h = by (same_ty s t) h (index_append table later t)
  where
    by : (b : Bool) → cond b 0 (suc (index_of table t)) < suc (length table) → (index_of table t < length table → index_of (table ++ later) t ≡ index_of table t)
        → cond b 0 (suc (index_of (table ++ later) t)) ≡ cond b 0 (suc (index_of table t))
    by true h r = refl
    by false h r = ap suc (r (omega arith))

-- and what is not found is the next
pub index_snoc : (table : List Ty) (t : Ty) → length table ≤ index_of table t → index_of (table ++ t ∷ []) t ≡ length table
unfolding index_of
index_snoc [] t h = rw (same_self t)
index_snoc (s ∷ table) t h = by (same_ty s t) h (index_snoc table t)
  where
    by : (b : Bool) → suc (length table) ≤ cond b 0 (suc (index_of table t)) → (length table ≤ index_of table t → index_of (table ++ t ∷ []) t ≡ length table)
        → cond b 0 (suc (index_of (table ++ t ∷ []) t)) ≡ suc (length table)
    by true h r = absurd (omega arith)
    by false h r = ap suc (r (omega arith))

-- completing a type
pub completed-old : (table : List Ty) (t : Ty) → index_of table t < length table → completed table t ≡ table
unfolding completed
completed-old table t h = rw (lt-ltb (index_of table t) (length table) h)

pub completed-new : (table : List Ty) (t : Ty) → length table ≤ index_of table t → completed table t ≡ table ++ t ∷ []
unfolding completed
completed-new table t h = rw (le-ltb (index_of table t) (length table) h)

-- a type is in a table or not
pub data There (table : List Ty) (t : Ty) : Type 0 where
  there : index_of table t < length table → There table t
  absent : length table ≤ index_of table t → There table t

pub look : (table : List Ty) (t : Ty) → There table t
look table t = by (index_of table t) (length table) (λ h. there h) (λ h. absent h)
  where
    by : (m n : ℕ) → (m < n → There table t) → (n ≤ m → There table t) → There table t
    by zero zero f g = g (omega arith)
    by zero (suc n) f g = f (omega arith)
    by (suc m) zero f g = g (omega arith)
    by (suc m) (suc n) f g = by m n (λ h. f (omega arith)) (λ h. g (omega arith))

-- one table begins with the other
pub record Grows (table more : List Ty) : Type 0 where
  pub longer : length table ≤ length more
  pub same : (t : Ty) → index_of table t < length table → index_of more t ≡ index_of table t
  pub kept : (k : ℕ) → k < length table → at more k ≡ at table k

pub grows_self : (table : List Ty) → Grows table table
grows_self table = record { longer = omega arith; same = λ t h. refl; kept = λ k h. refl }

pub grows_on : (a b c : List Ty) → Grows a b → Grows b c → Grows a c
grows_on a b c p q = record {
  longer = omega (arith, p.longer, q.longer);
  same = λ t h. q.same t (omega (arith, p.same t h, p.longer)) ∙ p.same t h;
  kept = λ k h. q.kept k (omega (arith, p.longer)) ∙ p.kept k h;
}

pub grows_snoc : (table : List Ty) (t : Ty) → Grows table (table ++ t ∷ [])
grows_snoc table t = record {
  longer = omega (arith, length-append table (t ∷ []));
  same = λ s h. index_append table (t ∷ []) s h;
  kept = λ k h. get_or-append table (t ∷ []) (basic 0) k h;
}

pub completed-grows : (table : List Ty) (t : Ty) → Grows table (completed table t)
completed-grows table t = by (look table t)
  where
    by : There table t → Grows table (completed table t)
    by (there h) = rw (completed-old table t h) (grows_self table)
    by (absent h) = rw (completed-new table t h) (grows_snoc table t)

-- a completed type is there
pub completed-there : (table : List Ty) (t : Ty) → index_of (completed table t) t < length (completed table t)
completed-there table t = by (look table t)
  where
    by : There table t → index_of (completed table t) t < length (completed table t)
    by (there h) = rw (completed-old table t h) h
    by (absent h) = rw (completed-new table t h) (omega (arith, index_snoc table t h, length-append table (t ∷ [])))
