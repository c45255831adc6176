-- Types that are there already are not reached anew. Assumes nothing.
use mathlib.Core.Path.{◌≡◌, refl, sym, ap, ◌∙◌}
use mathlib.Core.Bool.{Bool, true, false}
use mathlib.Core.List.{List}
use Prim.Native.Nat.{ℕ, zero, suc, ◌≤◌, ◌<◌}
use native.Mathlib.Omega.{arith}
use lib.ListN.{length}
use Rattle.types.specs.Tree.{Ty, Tys, basic, array, struct, union, none, more, group}
use Rattle.tidying.specs.Numbering.{index_of, completed, reached, reached_all}
use Rattle.tidying.specs.Ordered.{AllBelow, Below, Ordered}
use Rattle.tidying.proofs.Tables.{at-index, completed-old, completed-there, Grows}
use Rattle.tidying.proofs.Reached.{all-grows, below-grows, completed-ordered}

pub grows_more : (a : List Ty) (k : ℕ) (ts : Tys) → k ≤ length a → AllBelow a k ts → AllBelow a (length a) ts
grows_more a k ts h p = all-grows a a (record { longer = omega arith; same = λ t q. refl; kept = λ i q. refl }) k (length a) ts h h p

module _ (a : List Ty) (o : Ordered a) where
  -- the parts of a type that is there are there
  pub parts-there : (t : Ty) → index_of a t < length a → Below a (length a) t
  parts-there t h =
      below-grows a a (record { longer = omega arith; same = λ s q. refl; kept = λ i q. refl }) (index_of a t) (length a) t (omega arith) (omega arith) (rw (at-index a t h) at (o.parts (index_of a t) h))

  mutual
    unfolding reached reached_all Below AllBelow

    -- what is there changes nothing
    pub reached-there : (t : Ty) → index_of a t < length a → reached a t ≡ a
    reached-there (basic c) h = completed-old a (basic c) h
    reached-there (array t n) h = rw (reached-there t (parts-there (array t n) h)) (completed-old a (array t n) h)
    reached-there (struct ts) h = rw (all_there ts (parts-there (struct ts) h)) (completed-old a (struct ts) h)
    reached-there (union ts) h = rw (all_there ts (parts-there (union ts) h)) (completed-old a (union ts) h)

    pub all_there : (ts : Tys) → AllBelow a (length a) ts → reached_all a ts ≡ a
    all_there none p = refl
    all_there (more t ts) p = rw (reached-there t p.0) (all_there ts p.1)

  -- a type whose parts are there is completed
  pub reached-parts : (t : Ty) → Below a (length a) t → reached a t ≡ completed a t
  unfolding reached Below
  reached-parts (basic c) p = refl
  reached-parts (array t n) p = rw (reached-there t p)
  reached-parts (struct ts) p = rw (all_there ts p)
  reached-parts (union ts) p = rw (all_there ts p)

-- completing it first changes nothing of what is reached after
pub reached-first : (a : List Ty) → Ordered a → (t : Ty) → Below a (length a) t → reached a t ≡ reached (completed a t) t
reached-first a o t p = reached-parts a o t p ∙ sym (reached-there (completed a t) (completed-ordered a o t p) t (completed-there a t))

-- member i is t, and the members before it are there
unfoldable pub AtPlace : List Ty → ℕ → Ty → Tys → Type 0
AtPlace a zero t none = ⊥
AtPlace a zero t (more s ts) = t ≡ s
AtPlace a (suc i) t none = ⊥
AtPlace a (suc i) t (more s ts) = (index_of a s < length a) × AtPlace a i t ts

-- the first part that is not there: what a and b reach from it is the same, and so is what they reach from its owner
module _ (a b : List Ty) (oa : Ordered a) (ob : Ordered b) (g : Grows a b) where
  pub element-on : (t : Ty) (n : ℕ) → reached a t ≡ reached b t → reached a (array t n) ≡ reached b (array t n)
  unfolding reached
  element-on t n e = rw e

  members-on : (i : ℕ) (t : Ty) (ts : Tys) → AtPlace a i t ts → reached a t ≡ reached b t → reached_all a ts ≡ reached_all b ts
  unfolding AtPlace reached_all
  members-on zero t none p e = absurd p
  members-on zero t (more s ts) p e = rw (← p) (ap (λ (l : List Ty). reached_all l ts) e)
  members-on (suc i) t none p e = absurd p
  members-on (suc i) t (more s ts) p e =
      rw (reached-there a oa s p.0, reached-there b ob s (omega (arith, p.0, g.same s p.0, g.longer))) (members-on i t ts p.1 e)

  pub group-on : (u : Bool) (i : ℕ) (t : Ty) (ts : Tys) → AtPlace a i t ts → reached a t ≡ reached b t → reached a (group u ts) ≡ reached b (group u ts)
  unfolding reached
  group-on true i t ts p e = rw (members-on i t ts p e)
  group-on false i t ts p e = rw (members-on i t ts p e)
