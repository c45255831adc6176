-- Completing a type by rows is completing it by trees. Assumes nothing.
use mathlib.Core.Path.{◌≡◌, refl, sym, ap, ap₂, ◌∙◌}
use mathlib.Core.Bool.{Bool, true, false, cond, ◌&&◌}
use mathlib.Core.List.{List, [], ◌∷◌, ◌++◌}
use Prim.Native.Nat.{ℕ, suc, ◌<◌}
use native.Mathlib.Omega.{arith}
use borrow.Author.Tests.{eq-eqb, ne_eqb, lt-ltb, le-ltb}
use lib.Dec.{eqb, ltb}
use lib.ListN.{length}
use Rattle.types.specs.Tree.{Ty, Tys, basic, array, struct, union, none, more}
use Rattle.tidying.specs.Same.{same_ty, same_tys}
use Rattle.tidying.specs.Numbering.{index_of, completed, reached}
use Rattle.tidying.specs.Ordered.{at, AllBelow, Below, Ordered}
use Rattle.tidying.specs.Tidy.{numbers_of}
use Rattle.tidying.specs.Equal.{same_true, same_self}
use Rattle.tidying.proofs.Tables.{at-index, index_bound, index_snoc, There, there, absent, look, completed-old, completed-new, grows_snoc}
use Rattle.tidying.proofs.Reached.{reach}
use Rattle.grammar.specs.Meaning.{arrays}
use Rattle.collecting.specs.Rows.{Row, array_row, same_numbers, same_row, find, Made, intern, tower}
use Rattle.collecting.specs.Image.{row_of, rows_of, image}
use Rattle.collecting.proofs.Extends.{Known, known-all, rows_grow, row_grows, rows-length, rows_append}

-- equal numbers, equal types
module _ (a : List Ty) where
  pub same_index : (t s : Ty) → index_of a t < length a → index_of a s < length a → eqb (index_of a t) (index_of a s) ≡ same_ty t s
  same_index t s p q = by (same_ty t s) refl
    where
      by : (b : Bool) → same_ty t s ≡ b → eqb (index_of a t) (index_of a s) ≡ same_ty t s
      by true e = eq-eqb (index_of a t) (index_of a s) (ap (index_of a) (same_true t s e)) ∙ sym e
      by false e = ne_eqb (index_of a t) (index_of a s) (λ h. differ (sym (at-index a t p) ∙ ap (at a) h ∙ at-index a s q) e) ∙ sym e
        where
          differ : t ≡ s → same_ty t s ≡ false → ⊥
          differ h e = let z : true ≡ false = sym (same_self s) ∙ ap (λ (x : Ty). same_ty x s) (sym h) ∙ e in clash z
            where
              clash : true ≡ false → ⊥
              clash z = let n : ◌≡◌ {A = ℕ} 0 1 = ap (λ (b : Bool). cond b 0 1) z in omega (arith, n)

  same-all : (ts ss : Tys) → AllBelow a (length a) ts → AllBelow a (length a) ss → same_numbers (numbers_of a ts) (numbers_of a ss) ≡ same_tys ts ss
  unfolding same_numbers numbers_of same_tys AllBelow
  same-all none none p q = refl
  same-all none (more s ss) p q = refl
  same-all (more t ts) none p q = refl
  same-all (more t ts) (more s ss) p q = ap₂ (λ (x y : Bool). x && y) (same_index t s p.0 q.0) (same-all ts ss p.1 q.1)

  pub same_row_lem : (t s : Ty) → Below a (length a) t → Below a (length a) s → same_row (row_of a t) (row_of a s) ≡ same_ty t s
  unfolding same_row same_ty Below
  same_row_lem (basic c) (basic e) p q = refl
  same_row_lem (basic c) (array s n) p q = refl
  same_row_lem (basic c) (struct ss) p q = refl
  same_row_lem (basic c) (union ss) p q = refl
  same_row_lem (array t m) (basic e) p q = refl
  same_row_lem (array t m) (array s n) p q = ap (λ (x : Bool). x && eqb m n) (same_index t s p q)
  same_row_lem (array t m) (struct ss) p q = refl
  same_row_lem (array t m) (union ss) p q = refl
  same_row_lem (struct ts) (basic e) p q = refl
  same_row_lem (struct ts) (array s n) p q = refl
  same_row_lem (struct ts) (struct ss) p q = same-all ts ss p q
  same_row_lem (struct ts) (union ss) p q = refl
  same_row_lem (union ts) (basic e) p q = refl
  same_row_lem (union ts) (array s n) p q = refl
  same_row_lem (union ts) (struct ss) p q = refl
  same_row_lem (union ts) (union ss) p q = same-all ts ss p q

  pub find-index : (l : List Ty) (t : Ty) → Known a l → Below a (length a) t → find (rows_of a l) (row_of a t) ≡ index_of l t
  unfolding find rows_of index_of Known
  find-index [] t k p = refl
  find-index (s ∷ l) t k p = ap₂ (λ (b : Bool) (x : ℕ). cond b 0 (suc x)) (same_row_lem s t k.0 p) (find-index l t k.1 p)

-- a type in its table, by rows
abbrev pub made_in : List Ty → Ty → Made
made_in b t = record { rows = image b; number = index_of b t }

pub image-snoc : (a : List Ty) (t : Ty) → Ordered a → Below a (length a) t → image (a ++ t ∷ []) ≡ image a ++ row_of a t ∷ []
unfolding rows_of
image-snoc a t o p =
    let g = grows_snoc a t in
    rows_append (a ++ t ∷ []) a (t ∷ [])
    ∙ ap₂ (λ (x : List Row) (y : Row). x ++ y ∷ []) (rows_grow a (a ++ t ∷ []) g a (known-all a o)) (row_grows a (a ++ t ∷ []) g t p)

pub intern-right : (a : List Ty) (t : Ty) → Ordered a → Below a (length a) t → intern (image a) (row_of a t) ≡ made_in (completed a t) t
unfolding intern
intern-right a t o p = rw (find-index a a t (known-all a o) p, rows-length a a) (by (look a t))
  where
    by : There a t → record { rows = cond (ltb (index_of a t) (length a)) (image a) (image a ++ row_of a t ∷ []); number = index_of a t } ≡ made_in (completed a t) t
    by (there h) = rw (lt-ltb (index_of a t) (length a) h, completed-old a t h) refl
    by (absent h) =
        let n : index_of (a ++ t ∷ []) t ≡ index_of a t = index_snoc a t h ∙ omega (arith, h, index_bound a t) in
        rw (le-ltb (index_of a t) (length a) h, completed-new a t h, n, image-snoc a t o p) refl

-- arrays of a type that was reached, by rows
pub tower-right : (a : List Ty) (t : Ty) (ns : List ℕ) → Ordered a → tower ns (made_in (reached a t) t) ≡ made_in (reached a (arrays ns t)) (arrays ns t)
unfolding tower reached Below
tower-right a t [] o = refl
tower-right a t (n ∷ ns) o =
    let r = reach a (arrays ns t) o in
    ap (λ (m : Made). intern m.rows (array_row m.number n)) (tower-right a t ns o)
    ∙ intern-right (reached a (arrays ns t)) (array (arrays ns t) n) r.ordered r.there
