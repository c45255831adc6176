-- `same_ty` is equality. Assumes nothing.
use mathlib.Core.Path.{◌≡◌, refl, sym, ap, ap₂, ◌∙◌}
use mathlib.Core.Bool.{Bool, true, false, ◌&&◌, true≢false}
use mathlib.Core.HLevel.{Stable-paths→set}
use borrow.Author.Tests.{eq-eqb, eqb-true}
use Rattle.types.specs.Tree.{Ty, Tys, basic, array, struct, union, none, more}
use Rattle.tidying.specs.Same.{same_ty, same_tys}

pub both : (a b : Bool) → (a && b) ≡ true → (a ≡ true) × (b ≡ true)
both true b h = (refl, h)
both false b h = absurd (true≢false (cc))

mutual
  unfolding same_ty same_tys

  pub same_true : (t s : Ty) → same_ty t s ≡ true → t ≡ s
  same_true (basic c) (basic e) h = ap basic (eqb-true c e h)
  same_true (basic c) (array s n) h = absurd (true≢false (cc))
  same_true (basic c) (struct ss) h = absurd (true≢false (cc))
  same_true (basic c) (union ss) h = absurd (true≢false (cc))
  same_true (array t m) (basic e) h = absurd (true≢false (cc))
  same_true (array t m) (array s n) h = let p = both _ _ h in ap₂ array (same_true t s p.0) (eqb-true m n p.1)
  same_true (array t m) (struct ss) h = absurd (true≢false (cc))
  same_true (array t m) (union ss) h = absurd (true≢false (cc))
  same_true (struct ts) (basic e) h = absurd (true≢false (cc))
  same_true (struct ts) (array s n) h = absurd (true≢false (cc))
  same_true (struct ts) (struct ss) h = ap struct (sames_true ts ss h)
  same_true (struct ts) (union ss) h = absurd (true≢false (cc))
  same_true (union ts) (basic e) h = absurd (true≢false (cc))
  same_true (union ts) (array s n) h = absurd (true≢false (cc))
  same_true (union ts) (struct ss) h = absurd (true≢false (cc))
  same_true (union ts) (union ss) h = ap union (sames_true ts ss h)

  pub sames_true : (ts ss : Tys) → same_tys ts ss ≡ true → ts ≡ ss
  sames_true none none h = refl
  sames_true none (more s ss) h = absurd (true≢false (cc))
  sames_true (more t ts) none h = absurd (true≢false (cc))
  sames_true (more t ts) (more s ss) h = let p = both _ _ h in ap₂ more (same_true t s p.0) (sames_true ts ss p.1)

mutual
  unfolding same_ty same_tys

  pub same_self : (t : Ty) → same_ty t t ≡ true
  same_self (basic c) = eq-eqb c c refl
  same_self (array t n) = rw (same_self t, eq-eqb n n refl)
  same_self (struct ts) = sames_self ts
  same_self (union ts) = sames_self ts

  pub sames_self : (ts : Tys) → same_tys ts ts ≡ true
  sames_self none = refl
  sames_self (more t ts) = rw (same_self t, sames_self ts)

-- so that of an equation between types there is at most one proof
pub Ty-set : IsSet Ty
Ty-set = Stable-paths→set (λ t s stable. by t s stable (same_ty t s) refl)
  where
    by : (t s : Ty) → ((t ≡ s → ⊥) → ⊥) → (b : Bool) → same_ty t s ≡ b → t ≡ s
    by t s stable true e = same_true t s e
    by t s stable false e = absurd (stable (λ q. let z : same_ty t t ≡ false = rw (sym q) at e in true≢false (sym (same_self t) ∙ z)))
