-- What is reached: the table grows, stays in order, and has the type. Assumes nothing.
use mathlib.Core.Path.{◌≡◌, ◌∙◌}
use mathlib.Core.List.{List, [], ◌∷◌, ◌++◌}
use mathlib.Core.Logic.{◌⊎◌, inl, inr}
use Prim.Native.Nat.{ℕ, ◌≤◌, ◌<◌}
use native.Mathlib.Nat.{eq-or-lt_of_le}
use native.Mathlib.Omega.{arith}
use lib.ListN.{length, length-append, get_or-append}
use lib.Seq.{get_or-append_seam}
use Rattle.types.specs.Tree.{Ty, Tys, basic, array, struct, union, none, more}
use Rattle.tidying.specs.Call.{Returned, void, returned, Call}
use Rattle.tidying.specs.Numbering.{index_of, completed, reached, reached_all, reached_by, reached_from, table_of}
use Rattle.tidying.specs.Ordered.{at, AllBelow, Below, Ordered}
use Rattle.tidying.proofs.Tables.{index_append, index_snoc, completed-old, completed-new, There, there, absent, look, Grows, grows_self, grows_on, grows_snoc, completed-grows, completed-there}

-- a number below k stays below it in a longer table
module _ (a b : List Ty) (g : Grows a b) where
  pub all-grows : (k l : ℕ) (ts : Tys) → k ≤ length a → k ≤ l → AllBelow a k ts → AllBelow b l ts
  unfolding AllBelow
  all-grows k l none h m p = p
  all-grows k l (more t ts) h m p = (omega (arith, p.0, g.same t (omega (arith, p.0))), all-grows k l ts h m p.1)

  pub below-grows : (k l : ℕ) (t : Ty) → k ≤ length a → k ≤ l → Below a k t → Below b l t
  unfolding Below
  below-grows k l (basic c) h m p = p
  below-grows k l (array t n) h m p = omega (arith, p, g.same t (omega (arith, p)))
  below-grows k l (struct ts) h m p = all-grows k l ts h m p
  below-grows k l (union ts) h m p = all-grows k l ts h m p

-- one type more
module _ (a : List Ty) (o : Ordered a) (t : Ty) (parts : Below a (length a) t) where
  ordered-snoc : length a ≤ index_of a t → Ordered (a ++ t ∷ [])
  ordered-snoc new = record { parts = λ k h. below k (which k h); once = λ k h. once k (which k h) }
    where
      which : (k : ℕ) → k < length (a ++ t ∷ []) → (k ≡ length a) ⊎ (k < length a)
      which k h = eq-or-lt_of_le {n = k} {m = length a} (omega (arith, length-append a (t ∷ [])))

      below : (k : ℕ) → (k ≡ length a) ⊎ (k < length a) → Below (a ++ t ∷ []) k (at (a ++ t ∷ []) k)
      below k (inl e) = rw (e, get_or-append_seam a t [] (basic 0)) (below-grows a (a ++ t ∷ []) (grows_snoc a t) (length a) (length a) t (omega arith) (omega arith) parts)
      below k (inr l) = rw (get_or-append a (t ∷ []) (basic 0) k l) (below-grows a (a ++ t ∷ []) (grows_snoc a t) k k (at a k) (omega arith) (omega arith) (o.parts k l))

      once : (k : ℕ) → (k ≡ length a) ⊎ (k < length a) → index_of (a ++ t ∷ []) (at (a ++ t ∷ []) k) ≡ k
      once k (inl e) = rw (e, get_or-append_seam a t [] (basic 0)) (index_snoc a t new)
      once k (inr l) = rw (get_or-append a (t ∷ []) (basic 0) k l) (index_append a (t ∷ []) (at a k) (omega (arith, o.once k l)) ∙ o.once k l)

  pub completed-ordered : Ordered (completed a t)
  completed-ordered = by (look a t)
    where
      by : There a t → Ordered (completed a t)
      by (there h) = rw (completed-old a t h) o
      by (absent h) = rw (completed-new a t h) (ordered-snoc h)

-- from table a, with a type, to table b
pub record Reach (a : List Ty) (t : Ty) (b : List Ty) : Type 0 where
  pub ordered : Ordered b
  pub grows : Grows a b
  pub there : index_of b t < length b

pub record ReachAll (a : List Ty) (ts : Tys) (b : List Ty) : Type 0 where
  pub ordered : Ordered b
  pub grows : Grows a b
  pub there : AllBelow b (length b) ts

reach_done : (a b : List Ty) (t : Ty) → Ordered b → Grows a b → Below b (length b) t → Reach a t (completed b t)
reach_done a b t o g p = record { ordered = completed-ordered b o t p; grows = grows_on a b (completed b t) g (completed-grows b t); there = completed-there b t }

mutual
  unfolding reached reached_all Below AllBelow

  pub reach : (a : List Ty) (t : Ty) → Ordered a → Reach a t (reached a t)
  reach a (basic c) o = reach_done a a (basic c) o (grows_self a) tt
  reach a (array t n) o = let r = reach a t o in reach_done a (reached a t) (array t n) r.ordered r.grows r.there
  reach a (struct ts) o = let r = reach_all a ts o in reach_done a (reached_all a ts) (struct ts) r.ordered r.grows r.there
  reach a (union ts) o = let r = reach_all a ts o in reach_done a (reached_all a ts) (union ts) r.ordered r.grows r.there

  pub reach_all : (a : List Ty) (ts : Tys) → Ordered a → ReachAll a ts (reached_all a ts)
  reach_all a none o = record { ordered = o; grows = grows_self a; there = tt }
  reach_all a (more t ts) o =
      let r = reach a t o in
      let q = reach_all (reached a t) ts r.ordered in
      record {
        ordered = q.ordered;
        grows = grows_on a (reached a t) (reached_all (reached a t) ts) r.grows q.grows;
        there = (omega (arith, q.grows.same t r.there, q.grows.longer, r.there), q.there);
      }

pub ordered-none : Ordered []
ordered-none = record { parts = λ k h. absurd (omega arith); once = λ k h. absurd (omega arith) }

-- each of a list of types has a number
unfoldable pub Numbered : List Ty → List Ty → Type 0
Numbered a [] = Unit {0}
Numbered a (t ∷ ts) = (index_of a t < length a) × Numbered a ts

pub record ReachFrom (a ts b : List Ty) : Type 0 where
  pub ordered : Ordered b
  pub grows : Grows a b
  pub there : Numbered b ts

pub reach_from : (a ts : List Ty) → Ordered a → ReachFrom a ts (reached_from a ts)
unfolding reached_from Numbered
reach_from a [] o = record { ordered = o; grows = grows_self a; there = tt }
reach_from a (t ∷ ts) o =
    let r = reach a t o in
    let q = reach_from (reached a t) ts r.ordered in
    record {
      ordered = q.ordered;
      grows = grows_on a (reached a t) (reached_from (reached a t) ts) r.grows q.grows;
      there = (omega (arith, q.grows.same t r.there, q.grows.longer, r.there), q.there);
    }

-- the return type has a number
unfoldable pub ReturnNumbered : List Ty → Returned → Type 0
ReturnNumbered a void = Unit {0}
ReturnNumbered a (returned t) = index_of a t < length a

pub reach_by : (r : Returned) → Ordered (reached_by [] r) × ReturnNumbered (reached_by [] r) r
unfolding reached_by ReturnNumbered
reach_by void = (ordered-none, tt)
reach_by (returned t) = let q = reach [] t ordered-none in (q.ordered, q.there)

return_void : (a : List Ty) → ReturnNumbered a void
unfolding ReturnNumbered
return_void a = tt

return_there : (a : List Ty) (t : Ty) → index_of a t < length a → ReturnNumbered a (returned t)
unfolding ReturnNumbered
return_there a t h = h

pub return_index : (a : List Ty) (t : Ty) → ReturnNumbered a (returned t) → index_of a t < length a
unfolding ReturnNumbered
return_index a t h = h

-- the table of a call
pub record Table (c : Call) (table : List Ty) : Type 0 where
  pub ordered : Ordered table
  pub returns : ReturnNumbered table c.returns
  pub arguments : Numbered table c.arguments

pub table-right : (c : Call) → Table c (table_of c)
unfolding table_of
table-right c =
    let p = reach_by c.returns in
    let q = reach_from (reached_by [] c.returns) c.arguments p.0 in
    record { ordered = q.ordered; returns = on c.returns p.1 q.grows; arguments = q.there }
  where
    on : (r : Returned) → ReturnNumbered (reached_by [] c.returns) r → Grows (reached_by [] c.returns) (reached_from (reached_by [] c.returns) c.arguments) → ReturnNumbered (reached_from (reached_by [] c.returns) c.arguments) r
    on void p g = return_void _
    on (returned t) p g = return_there _ t (let h = return_index _ t p in omega (arith, g.same t h, g.longer))
