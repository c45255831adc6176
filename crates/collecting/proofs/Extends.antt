-- Numbering is a prefix order: what is reached stands behind what was there. Assumes nothing.
use mathlib.Core.Path.{◌≡◌, refl, sym, ap, ap₂, ◌∙◌}
use mathlib.Core.List.{List, [], ◌∷◌, ◌++◌, append_assoc, append-nil}
use Prim.Native.Nat.{ℕ, suc, ◌<◌}
use native.Mathlib.Omega.{arith}
use lib.ListN.{length, get_or, take}
use lib.Seq.{take-append_seam}
use Rattle.types.specs.Tree.{Ty, Tys, basic, array, struct, union, none, more}
use Rattle.tidying.specs.Numbering.{completed, reached, reached_all}
use Rattle.tidying.specs.Ordered.{at, AllBelow, Below, Ordered}
use Rattle.tidying.specs.Tidy.{numbers_of}
use Rattle.tidying.proofs.Tables.{There, there, absent, look, completed-old, completed-new, Grows, grows_self}
use Rattle.tidying.proofs.Reached.{below-grows, reach}
use Rattle.collecting.specs.Rows.{Row, array_row, struct_row, union_row}
use Rattle.collecting.specs.Image.{row_of, rows_of, image}

-- b is a with more behind it
pub record Behind (a b : List Ty) : Type 0 where
  pub later : List Ty
  pub is : b ≡ a ++ later

pub behind-self : (a : List Ty) → Behind a a
behind-self a = record { later = []; is = sym (append-nil a) }

pub behind-on : (a b c : List Ty) → Behind a b → Behind b c → Behind a c
behind-on a b c p q = record { later = p.later ++ q.later; is = q.is ∙ ap (λ (l : List Ty). l ++ q.later) p.is ∙ append_assoc a p.later q.later }

completed-behind : (a : List Ty) (t : Ty) → Behind a (completed a t)
completed-behind a t = by (look a t)
  where
    by : There a t → Behind a (completed a t)
    by (there h) = record { later = []; is = completed-old a t h ∙ sym (append-nil a) }
    by (absent h) = record { later = t ∷ []; is = completed-new a t h }

mutual
  unfolding reached reached_all

  pub reached-behind : (a : List Ty) (t : Ty) → Behind a (reached a t)
  reached-behind a (basic c) = completed-behind a (basic c)
  reached-behind a (array t n) = behind-on a (reached a t) _ (reached-behind a t) (completed-behind (reached a t) (array t n))
  reached-behind a (struct ts) = behind-on a (reached_all a ts) _ (all-behind a ts) (completed-behind (reached_all a ts) (struct ts))
  reached-behind a (union ts) = behind-on a (reached_all a ts) _ (all-behind a ts) (completed-behind (reached_all a ts) (union ts))

  pub all-behind : (a : List Ty) (ts : Tys) → Behind a (reached_all a ts)
  all-behind a none = behind-self a
  all-behind a (more t ts) = behind-on a (reached a t) _ (reached-behind a t) (all-behind (reached a t) ts)

-- ---- rows

-- each of these types has its parts in the table
unfoldable pub Known : List Ty → List Ty → Type 0
Known a [] = Unit {0}
Known a (t ∷ ts) = Below a (length a) t × Known a ts

pub known_by : (a l : List Ty) → ((k : ℕ) → k < length l → Below a (length a) (get_or l k (basic 0))) → Known a l
unfolding Known
known_by a [] f = tt
known_by a (t ∷ ts) f = (f 0 (omega arith), known_by a ts (λ k h. f (suc k) (omega arith)))

pub known-all : (a : List Ty) → Ordered a → Known a a
known-all a o = known_by a a (λ k h. below-grows a a (grows_self a) k (length a) (at a k) (omega arith) (omega arith) (o.parts k h))

-- rows stay as they are in a longer table
module _ (a b : List Ty) (g : Grows a b) where
  pub numbers-grow : (ts : Tys) → AllBelow a (length a) ts → numbers_of b ts ≡ numbers_of a ts
  unfolding numbers_of AllBelow
  numbers-grow none p = refl
  numbers-grow (more t ts) p = ap₂ (λ (x : ℕ) (y : List ℕ). x ∷ y) (g.same t p.0) (numbers-grow ts p.1)

  pub row_grows : (t : Ty) → Below a (length a) t → row_of b t ≡ row_of a t
  unfolding Below
  row_grows (basic c) p = refl
  row_grows (array t n) p = ap (λ (k : ℕ). array_row k n) (g.same t p)
  row_grows (struct ts) p = ap struct_row (numbers-grow ts p)
  row_grows (union ts) p = ap union_row (numbers-grow ts p)

  pub rows_grow : (l : List Ty) → Known a l → rows_of b l ≡ rows_of a l
  unfolding rows_of Known
  rows_grow [] p = refl
  rows_grow (t ∷ ts) p = ap₂ (λ (x : Row) (y : List Row). x ∷ y) (row_grows t p.0) (rows_grow ts p.1)

pub rows-length : (a l : List Ty) → length (rows_of a l) ≡ length l
unfolding rows_of
rows-length a [] = refl
rows-length a (t ∷ ts) = ap suc (rows-length a ts)

pub rows_append : (a l m : List Ty) → rows_of a (l ++ m) ≡ rows_of a l ++ rows_of a m
unfolding rows_of
rows_append a [] m = refl
rows_append a (t ∷ ts) m = ap (λ (y : List Row). row_of a t ∷ y) (rows_append a ts m)

-- the step back
pub image-behind : (a b : List Ty) → Ordered a → Grows a b → Behind a b → take (length a) (image b) ≡ image a
image-behind a b o g p =
    ap (take (length a)) (ap (rows_of b) p.is ∙ rows_append b a p.later ∙ ap (λ (l : List Row). l ++ rows_of b p.later) (rows_grow a b g a (known-all a o)))
    ∙ ap (λ (k : ℕ). take k (rows_of a a ++ rows_of b p.later)) (sym (rows-length a a))
    ∙ take-append_seam (rows_of a a) (rows_of b p.later)

pub image-back : (a : List Ty) (t : Ty) → Ordered a → take (length a) (image (reached a t)) ≡ image a
image-back a t o = image-behind a (reached a t) o (reach a t o).grows (reached-behind a t)
