-- Of the alignments, and of numbers that are multiples of them: whatever goes by their cases is here. Assumes nothing.
use mathlib.Core.Path.{◌≡◌, refl}
use Prim.Native.Nat.{ℕ, zero, suc, ◌+◌, ◌-◌, ◌^◌, ◌/◌, ◌%◌, ◌≤◌, ◌<◌, ◌∣◌, max}
use native.Mathlib.Nat.{zero-add, suc-add, dvd_refl, dvd_trans, dvd-add, dvd-mul_right_of_dvd, dvd_of_mod-eq-zero, mod-eq-zero_of_dvd, pow-suc, pow-le-pow_right, two-pow-succ, max-eq_left, max-eq_right, max_comm}
use native.Mathlib.Decide.{dec_lt}
use native.Mathlib.Omega.{arith}
use Rattle.types.specs.Alignments.{Alignment, one, two, four, eight, sixteen, thirtytwo}

pub is-low : {a : ℕ} → Alignment a → 1 ≤ a
is-low one = omega arith
is-low two = omega arith
is-low four = omega arith
is-low eight = omega arith
is-low sixteen = omega arith
is-low thirtytwo = omega arith

pub is-high : {a : ℕ} → Alignment a → a ≤ 32
is-high one = omega arith
is-high two = omega arith
is-high four = omega arith
is-high eight = omega arith
is-high sixteen = omega arith
is-high thirtytwo = omega arith

-- bytes of one aligned block lie in one eightbyte
pub block : {a : ℕ} → Alignment a → a ≤ 8 → (p b c : ℕ) → p % a ≡ 0 → p ≤ b + a → b < p → p ≤ c + a → c < p → b / 8 ≡ c / 8
block one l p b c m h i j k = omega arith
block two l p b c m h i j k = omega arith
block four l p b c m h i j k = omega arith
block eight l p b c m h i j k = omega arith
block sixteen l p b c m h i j k = absurd (omega arith)
block thirtytwo l p b c m h i j k = absurd (omega arith)

-- each is a power of two, so that the lower of two divides the other

abbrev exponent : {a : ℕ} → Alignment a → ℕ
exponent one = 0
exponent two = 1
exponent four = 2
exponent eight = 3
exponent sixteen = 4
exponent thirtytwo = 5

is-power : {a : ℕ} (p : Alignment a) → a ≡ 2 ^ exponent p
is-power one = refl
is-power two = refl
is-power four = refl
is-power eight = refl
is-power sixteen = refl
is-power thirtytwo = refl

power_divides : (k i : ℕ) → 2 ^ k ∣ 2 ^ (i + k)
power_divides k zero = rw zero-add (dvd_refl (2 ^ k))
power_divides k (suc i) = rw (suc-add i k, pow-suc 2 (i + k)) (dvd-mul_right_of_dvd (2 ^ k) (power_divides k i) 2)

powers : (a b k j : ℕ) → a ≡ 2 ^ k → b ≡ 2 ^ j → a ≤ b → a ∣ b
powers a b k j e f l = by (dec_lt j k)
  where
    by : Dec (j < k) → a ∣ b
    by (yes m) = absurd (omega (arith, pow-le-pow_right {n = 2} (omega arith) {i = suc j} {j = k} m, two-pow-succ j, pow-le-pow_right {n = 2} (omega arith) {i = 0} {j = j} (omega arith)))
    by (no m) =
        let d : j - k + k ≡ j = omega arith in
        rw (e, f) (rw d at (power_divides k (j - k)))

-- so a multiple of the larger is one of both, and the other way round

pub max-align : (a b : ℕ) → Alignment a → Alignment b → Alignment (max a b)
max-align a b p q = by (dec_lt a b)
  where
    by : Dec (a < b) → Alignment (max a b)
    by (yes l) = rw (max-eq_right {n = a} {m = b} (omega arith)) q
    by (no l) = rw (max-eq_left {n = a} {m = b} (omega arith)) p

pub max-left : {a b : ℕ} → Alignment a → Alignment b → (x : ℕ) → x % max a b ≡ 0 → x % a ≡ 0
max-left {a} {b} p q x h = by (dec_lt a b)
  where
    by : Dec (a < b) → x % a ≡ 0
    by (yes l) =
        mod-eq-zero_of_dvd a (dvd_trans a (powers a b (exponent p) (exponent q) (is-power p) (is-power q) (omega arith)) (dvd_of_mod-eq-zero b (rw (max-eq_right {n = a} {m = b} (omega arith)) at h)))
    by (no l) = rw (max-eq_left {n = a} {m = b} (omega arith)) at h

pub max-right : {a b : ℕ} → Alignment a → Alignment b → (x : ℕ) → x % max a b ≡ 0 → x % b ≡ 0
max-right {a} {b} p q x h = max-left q p x (rw (max_comm b a) h)

pub max-both : (a b x : ℕ) → x % a ≡ 0 → x % b ≡ 0 → x % max a b ≡ 0
max-both a b x p q = by (dec_lt a b)
  where
    by : Dec (a < b) → x % max a b ≡ 0
    by (yes l) = rw (max-eq_right {n = a} {m = b} (omega arith)) q
    by (no l) = rw (max-eq_left {n = a} {m = b} (omega arith)) p

-- a sum of multiples is one
pub plus_aligned : (a x y : ℕ) → x % a ≡ 0 → y % a ≡ 0 → (x + y) % a ≡ 0
plus_aligned a x y p q = mod-eq-zero_of_dvd a (dvd-add a (dvd_of_mod-eq-zero a p) (dvd_of_mod-eq-zero a q))
