-- The numbers of an argument's registers, and of a returned value's, by the numbers of the general ones. Assumes nothing.
use Rattle.std.proofs.Common.{◌≡◌, ℕ, zero, suc, [], ◌∷◌, refl, arith}
use borrow.Author.Tests.{le-ltb, ne_eqb}
use Rattle.places.specs.declared.Register.{Register}
use Rattle.places.specs.declared.Register.TheVariants.{General, Vector, Upper, Wide}
use Rattle.flat.specs.Numbers.{general_number, back_number, register_number, return_number, number_in}

pub number_in-arguments : (r : Register) → number_in (0 ∷ 1 ∷ 2 ∷ 3 ∷ 4 ∷ 5 ∷ []) r ≡ register_number r
unfolding general_number
number_in-arguments (General n) = by n.0
  where
    by : (k : ℕ) → number_in (0 ∷ 1 ∷ 2 ∷ 3 ∷ 4 ∷ 5 ∷ []) (General (record { 0 = k })) ≡ general_number k
    by zero = refl
    by (suc zero) = refl
    by (suc (suc zero)) = refl
    by (suc (suc (suc zero))) = refl
    by (suc (suc (suc (suc zero)))) = refl
    by (suc (suc (suc (suc (suc zero))))) = refl
    by (suc (suc (suc (suc (suc (suc k)))))) = rw (le-ltb (suc (suc (suc (suc (suc (suc k)))))) 6 (omega arith))
number_in-arguments (Vector n) = refl
number_in-arguments (Upper n) = refl
number_in-arguments (Wide n) = refl

pub number_in-returned : (r : Register) → number_in (6 ∷ 2 ∷ []) r ≡ return_number r
unfolding back_number
number_in-returned (General n) = by n.0
  where
    by : (k : ℕ) → number_in (6 ∷ 2 ∷ []) (General (record { 0 = k })) ≡ back_number k
    by zero = refl
    by (suc zero) = refl
    by (suc (suc k)) = rw (ne_eqb (suc (suc k)) 0 (λ e. omega (arith, e)), ne_eqb (suc (suc k)) 1 (λ e. omega (arith, e)))
number_in-returned (Vector n) = refl
number_in-returned (Upper n) = refl
number_in-returned (Wide n) = refl
