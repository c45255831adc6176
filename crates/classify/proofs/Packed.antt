-- Classes in one number, merged and cleaned up: where a test of the numbers shows that nothing changes, and what the rules make of the rest. Assumes nothing.
use mathlib.Core.Path.{◌≡◌, refl, sym, ap, ◌∙◌}
use mathlib.Core.Bool.{Bool, true, false, ◌&&◌, ◌||◌, true≢false}
use mathlib.Core.List.{[], ◌∷◌}
use Prim.Native.Nat.{ℕ, zero, suc, ◌+◌, ◌*◌, ◌/◌, ◌%◌, ◌<◌}
use native.Mathlib.Omega.{arith}
use borrow.Author.Tests.{eqb-true, ltb-true}
use lib.Dec.{eqb, ltb}
use Rattle.classes.specs.declared.Class.{Class}
use Rattle.classes.specs.declared.Class.TheVariants.{NoClass}
use Rattle.classes.specs.Classes.{same, no_classes, merge_of, merge_all}
use Rattle.classes.specs.CleanUp.{up_alone, settled, clean_up}
use Rattle.classes.proofs.Laws.{merge_commutes, merge_none}
use Rattle.classes.proofs.Absorb.{merge_self}
use Rattle.classify.specs.Table.{class_by, pair_in}
use Rattle.classify.proofs.Table.{low_part, high_part}

-- 64 is NO_CLASS twice
pub none-packed : pair_in 64 ≡ no_classes 2
unfolding pair_in class_by
none-packed = refl

-- eightbyte by eightbyte
merge_parts : (x y : ℕ) (a b : Class) → a ≡ merge_of (class_by (x % 8)) (class_by (y % 8)) → b ≡ merge_of (class_by (x / 8 % 8)) (class_by (y / 8 % 8))
    → a ∷ b ∷ [] ≡ merge_all (pair_in x) (pair_in y)
unfolding pair_in merge_all
merge_parts x y a b ea eb = rw (ea, eb)

-- what adds nothing
pub adds_nothing : (x y : ℕ) → (eqb y 0 || eqb x y) ≡ true → merge_of (class_by x) (class_by y) ≡ class_by x
unfolding class_by
adds_nothing x y h = by (eqb y 0) refl
  where
    by : (b : Bool) → eqb y 0 ≡ b → merge_of (class_by x) (class_by y) ≡ class_by x
    by true e = ap (λ (n : ℕ). merge_of (class_by x) (class_by n)) (eqb-true y 0 e) ∙ merge_none (class_by x)
    by false e =
        let is : eqb x y ≡ true = rw e at h in
        ap (λ (n : ℕ). merge_of (class_by x) (class_by n)) (sym (eqb-true x y is)) ∙ merge_self (class_by x)

none-merged : (c : Class) → c ≡ merge_of NoClass c
none-merged c = sym (merge_commutes NoClass c ∙ merge_none c)

-- the four ways out without the rules

pub merged_same : (x y : ℕ) → x ≡ y → pair_in x ≡ merge_all (pair_in x) (pair_in y)
unfolding pair_in
merged_same x y e =
    merge_parts x y (class_by (x % 8)) (class_by (x / 8 % 8))
    (sym (ap (λ (n : ℕ). merge_of (class_by (x % 8)) (class_by (n % 8))) (sym e) ∙ merge_self (class_by (x % 8))))
    (sym (ap (λ (n : ℕ). merge_of (class_by (x / 8 % 8)) (class_by (n / 8 % 8))) (sym e) ∙ merge_self (class_by (x / 8 % 8))))

pub merged_first : (x y : ℕ) → x ≡ 64 → pair_in y ≡ merge_all (pair_in x) (pair_in y)
unfolding pair_in class_by
merged_first x y e =
    merge_parts x y (class_by (y % 8)) (class_by (y / 8 % 8))
    (rw e (none-merged (class_by (y % 8))))
    (rw e (none-merged (class_by (y / 8 % 8))))

module _ (x y : ℕ) (h : merge_of (class_by (x % 8)) (class_by (y % 8)) ≡ class_by (x % 8)) where
  pub merged_next : (s : ℕ) → s ≡ y / 8 % 8 → x / 8 % 8 ≡ 0 → pair_in (64 + x % 8 + 8 * s) ≡ merge_all (pair_in x) (pair_in y)
  unfolding pair_in class_by
  merged_next s es e =
      let small : s < 8 = omega arith in
      rw (low_part (x % 8) s (omega arith) small, high_part (x % 8) s (omega arith) small, es)
      (merge_parts x y (class_by (x % 8)) (class_by (y / 8 % 8)) (sym h) (rw e (none-merged (class_by (y / 8 % 8)))))

  pub merged_kept : (s : ℕ) → s ≡ y / 8 % 8 → (eqb s 0 || eqb (x / 8 % 8) s) ≡ true → pair_in x ≡ merge_all (pair_in x) (pair_in y)
  unfolding pair_in
  merged_kept s es t =
      merge_parts x y (class_by (x % 8)) (class_by (x / 8 % 8)) (sym h) (sym (ap (λ (n : ℕ). merge_of (class_by (x / 8 % 8)) (class_by n)) (sym es) ∙ adds_nothing (x / 8 % 8) s t))

-- clean-up is about none of the first three classes
plain-clean : (a b : ℕ) → a < 3 → b < 3 → class_by a ∷ class_by b ∷ [] ≡ clean_up (class_by a ∷ class_by b ∷ [])
unfolding class_by clean_up same up_alone settled
plain-clean zero zero p q = refl
plain-clean zero (suc zero) p q = refl
plain-clean zero (suc (suc zero)) p q = refl
plain-clean (suc zero) zero p q = refl
plain-clean (suc zero) (suc zero) p q = refl
plain-clean (suc zero) (suc (suc zero)) p q = refl
plain-clean (suc (suc zero)) zero p q = refl
plain-clean (suc (suc zero)) (suc zero) p q = refl
plain-clean (suc (suc zero)) (suc (suc zero)) p q = refl
plain-clean (suc (suc (suc a))) b p q = absurd (omega arith)
plain-clean zero (suc (suc (suc b))) p q = absurd (omega arith)
plain-clean (suc zero) (suc (suc (suc b))) p q = absurd (omega arith)
plain-clean (suc (suc zero)) (suc (suc (suc b))) p q = absurd (omega arith)

pub clean_kept : (x : ℕ) → (ltb (x % 8) 3 && ltb (x / 8 % 8) 3) ≡ true → pair_in x ≡ clean_up (pair_in x)
unfolding pair_in
clean_kept x h = plain-clean (x % 8) (x / 8 % 8) (ltb-true (x % 8) 3 both.0) (ltb-true (x / 8 % 8) 3 both.1)
  where
    split : (a b : Bool) → (a && b) ≡ true → (a ≡ true) × (b ≡ true)
    split true b e = (refl, e)
    split false b e = absurd (true≢false (sym e))

    both : (ltb (x % 8) 3 ≡ true) × (ltb (x / 8 % 8) 3 ≡ true)
    both = split (ltb (x % 8) 3) (ltb (x / 8 % 8) 3) h
