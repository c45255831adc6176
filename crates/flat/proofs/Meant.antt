-- Numbers mean the registers and classes that they were made of. Assumes nothing.
use mathlib.Core.Path.{◌≡◌, refl, ap, ◌∙◌}
use Prim.Native.Nat.{ℕ, zero, suc, ◌+◌, ◌≤◌, ◌<◌}
use native.Mathlib.Omega.{arith}
use borrow.Author.Tests.{lt-ltb, le-ltb}
use Rattle.classes.specs.declared.Class.TheVariants.{NoClass, Integer, Sse, SseUp, X87, X87Up, ComplexX87, Memory}
use Rattle.places.specs.declared.Register.{Register}
use Rattle.places.specs.declared.Register.TheVariants.{General, Vector, Upper, Wide}
use Rattle.images.specs.Asks.{Known}
use Rattle.flat.specs.Numbers.{general_number, vector_number, back_number, register_number, return_number, vector_meant, register_meant, return_meant, class_meant}
use Rattle.flat.specs.Meanings.{ClassesMean}

-- one of the vector registers, or the upper half of one
vector-number : (first n : ℕ) → n < 8 → vector_number first n ≡ first + n
unfolding vector_number
vector-number first n h = rw (lt-ltb n 8 h)

lower-meant : (n : ℕ) → n < 8 → vector_meant (16 + n) ≡ Vector (record { 0 = n })
unfolding vector_meant
lower-meant n h = rw (lt-ltb (16 + n) 32 (omega arith)) (ap (λ (k : ℕ). Vector (record { 0 = k })) (omega arith))

upper-meant : (n : ℕ) → n < 8 → vector_meant (32 + n) ≡ Upper (record { 0 = n })
unfolding vector_meant
upper-meant n h = rw (le-ltb (32 + n) 32 (omega arith), lt-ltb (32 + n) 48 (omega arith)) (ap (λ (k : ℕ). Upper (record { 0 = k })) (omega arith))

wide-meant : (n : ℕ) → vector_meant (48 + n) ≡ Wide (record { 0 = n })
unfolding vector_meant
wide-meant n = rw (le-ltb (48 + n) 32 (omega arith), le-ltb (48 + n) 48 (omega arith)) (ap (λ (k : ℕ). Wide (record { 0 = k })) (omega arith))

-- ---- a register of an argument

past : (n : ℕ) → 16 ≤ n → register_meant n ≡ vector_meant n
unfolding register_meant
past n h = rw (le-ltb n 16 h)

general-meant : (n : ℕ) → n < 6 → register_meant (general_number n) ≡ General (record { 0 = n })
unfolding register_meant general_number
general-meant n h = rw (lt-ltb n 6 h, lt-ltb n 16 (omega arith))

pub register-meant : (r : Register) → Known r → register_meant (register_number r) ≡ r
register-meant (General n) h = general-meant n.0 h
register-meant (Vector n) h = ap register_meant (vector-number 16 n.0 h) ∙ past (16 + n.0) (omega arith) ∙ lower-meant n.0 h
register-meant (Upper n) h = ap register_meant (vector-number 32 n.0 h) ∙ past (32 + n.0) (omega arith) ∙ upper-meant n.0 h
register-meant (Wide n) h = ap register_meant (vector-number 48 n.0 h) ∙ past (48 + n.0) (omega arith) ∙ wide-meant n.0

general-low : (n : ℕ) → n < 6 → general_number n ≡ n
unfolding general_number
general-low n h = rw (lt-ltb n 6 h)

-- and no such number is CB_NONE
pub register-low : (r : Register) → Known r → register_number r < 56
register-low (General n) h = omega (arith, general-low n.0 h)
register-low (Vector n) h = omega (arith, vector-number 16 n.0 h)
register-low (Upper n) h = omega (arith, vector-number 32 n.0 h)
register-low (Wide n) h = omega (arith, vector-number 48 n.0 h)

-- ---- a register of a returned value

-- rax or rdx, or a vector register
abbrev pub Back : Register → Type 0
Back (General n) = n.0 < 2
Back (Vector n) = n.0 < 8
Back (Upper n) = n.0 < 8
Back (Wide n) = n.0 < 8

past_back : (n : ℕ) → 16 ≤ n → return_meant n ≡ vector_meant n
unfolding return_meant
past_back n h = rw (le-ltb n 16 h)

back-meant : (n : ℕ) → n < 2 → return_meant (back_number n) ≡ General (record { 0 = n })
unfolding return_meant back_number
back-meant zero h = refl
back-meant (suc zero) h = refl
back-meant (suc (suc n)) h = absurd (omega arith)

back_low : (n : ℕ) → n < 2 → back_number n < 8
unfolding back_number
back_low zero h = omega arith
back_low (suc zero) h = omega arith
back_low (suc (suc n)) h = absurd (omega arith)

pub return_meant_lem : (r : Register) → Back r → return_meant (return_number r) ≡ r
return_meant_lem (General n) h = back-meant n.0 h
return_meant_lem (Vector n) h = ap return_meant (vector-number 16 n.0 h) ∙ past_back (16 + n.0) (omega arith) ∙ lower-meant n.0 h
return_meant_lem (Upper n) h = ap return_meant (vector-number 32 n.0 h) ∙ past_back (32 + n.0) (omega arith) ∙ upper-meant n.0 h
return_meant_lem (Wide n) h = ap return_meant (vector-number 48 n.0 h) ∙ past_back (48 + n.0) (omega arith) ∙ wide-meant n.0

-- no such number is CB_ST0, nor CB_NONE
pub return_not : (r : Register) → Back r → return_number r ≡ 8 → ⊥
return_not (General n) h e = omega (arith, back_low n.0 h)
return_not (Vector n) h e = omega (arith, vector-number 16 n.0 h)
return_not (Upper n) h e = omega (arith, vector-number 32 n.0 h)
return_not (Wide n) h e = omega (arith, vector-number 48 n.0 h)

pub return_low : (r : Register) → Back r → return_number r < 56
return_low (General n) h = omega (arith, back_low n.0 h)
return_low (Vector n) h = omega (arith, vector-number 16 n.0 h)
return_low (Upper n) h = omega (arith, vector-number 32 n.0 h)
return_low (Wide n) h = omega (arith, vector-number 48 n.0 h)

-- ---- a class

pub class_meant_lem : ClassesMean
unfolding class_meant
class_meant_lem NoClass = refl
class_meant_lem Integer = refl
class_meant_lem Sse = refl
class_meant_lem SseUp = refl
class_meant_lem X87 = refl
class_meant_lem X87Up = refl
class_meant_lem ComplexX87 = refl
class_meant_lem Memory = refl
