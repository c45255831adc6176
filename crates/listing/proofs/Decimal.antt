-- Decimal digits: the steps by which they are written, what they say, and how many there are. Assumes nothing.
use mathlib.Core.Path.{◌≡◌, refl, sym, ap, ◌∙◌}
use mathlib.Core.Bool.{Bool, true, false}
use mathlib.Core.List.{List, [], ◌∷◌, ◌++◌}
use Prim.Native.Nat.{ℕ, zero, suc, ◌+◌, ◌*◌, ◌-◌, ◌/◌, ◌%◌, ◌^◌, ◌≤◌, ◌<◌}
use native.Mathlib.Omega.{arith}
use borrow.Author.Tests.{lt-ltb, le-ltb, ltb-true, ltb-false}
use lib.Dec.{ltb}
use lib.ListN.{length, length-append}
use Rattle.listing.specs.Decimal.{digit, digits, decimal, read}
use Rattle.listing.specs.declared.texts.Text.{Text}
use Rattle.listing.specs.Puts.{Puts}
use Rattle.listing.proofs.Puts.{puts_join, puts_exact, puts_more, puts_same}

-- a step
digits-small : (k n : ℕ) → n < 10 → digits k n ≡ digit n ∷ []
unfolding digits
digits-small zero n h = refl
digits-small (suc k) n h = rw (lt-ltb n 10 h)

digits-large : (k n : ℕ) → 10 ≤ n → digits (suc k) n ≡ digits k (n / 10) ++ (digit (n % 10) ∷ [])
unfolding digits
digits-large k n h = rw (le-ltb n 10 h)

-- more steps than enough change nothing
digits-enough : (j k n : ℕ) → n ≤ j → n ≤ k → digits j n ≡ digits k n
digits-enough zero k n h l = digits-small zero n (omega arith) ∙ sym (digits-small k n (omega arith))
digits-enough (suc j) zero n h l = digits-small (suc j) n (omega arith) ∙ sym (digits-small zero n (omega arith))
digits-enough (suc j) (suc k) n h l = by (ltb n 10) refl (digits-enough j k (n / 10))
  where
    by : (b : Bool) → ltb n 10 ≡ b → (n / 10 ≤ j → n / 10 ≤ k → digits j (n / 10) ≡ digits k (n / 10)) → digits (suc j) n ≡ digits (suc k) n
    by true e rec = let s = ltb-true n 10 e in digits-small (suc j) n s ∙ sym (digits-small (suc k) n s)
    by false e rec =
        let s = ltb-false n 10 e in
        digits-large j n s ∙ ap (λ (l : List ℕ). l ++ (digit (n % 10) ∷ [])) (rec (omega arith) (omega arith)) ∙ sym (digits-large k n s)

pub decimal-small : (n : ℕ) → n < 10 → decimal n ≡ digit n ∷ []
unfolding decimal
decimal-small n h = digits-small n n h

pub decimal-large : (n : ℕ) → 10 ≤ n → decimal n ≡ decimal (n / 10) ++ (digit (n % 10) ∷ [])
unfolding decimal
decimal-large zero h = absurd (omega arith)
decimal-large (suc m) h = digits-large m (suc m) h ∙ ap (λ (l : List ℕ). l ++ (digit (suc m % 10) ∷ [])) (digits-enough m (suc m / 10) (suc m / 10) (omega arith) (omega arith))

-- what they say is the number
read-append : (s t : List ℕ) (n : ℕ) → read n (s ++ t) ≡ read (read n s) t
read-append [] t n = refl
read-append (c ∷ s) t n = read-append s t (n * 10 + (c - 48))

digits-say : (k n : ℕ) → n ≤ k → read 0 (digits k n) ≡ n
digits-say zero n h = ap (read 0) (digits-small zero n (omega arith)) ∙ omega arith
digits-say (suc k) n h = by (ltb n 10) refl (digits-say k (n / 10))
  where
    by : (b : Bool) → ltb n 10 ≡ b → (n / 10 ≤ k → read 0 (digits k (n / 10)) ≡ n / 10) → read 0 (digits (suc k) n) ≡ n
    by true e rec = ap (read 0) (digits-small (suc k) n (ltb-true n 10 e)) ∙ omega arith
    by false e rec =
        let s = ltb-false n 10 e in
        ap (read 0) (digits-large k n s)
        ∙ read-append (digits k (n / 10)) (digit (n % 10) ∷ []) 0
        ∙ ap (λ (m : ℕ). m * 10 + (digit (n % 10) - 48)) (rec (omega arith))
        ∙ omega arith

pub decimal-says : (n : ℕ) → read 0 (decimal n) ≡ n
unfolding decimal
decimal-says n = digits-say n n (omega arith)

digits-none : (n : ℕ) → digits zero n ≡ digit n ∷ []
unfolding digits
digits-none n = refl

-- a number below 10 ^ k has at most k digits
digits-short : (j k n : ℕ) → n < 10 ^ suc k → length (digits j n) ≤ suc k
digits-short zero k n h = rw (digits-none n) (omega arith)
digits-short (suc j) k n h = by (ltb n 10) refl k h (digits-short j)
  where
    by : (b : Bool) → ltb n 10 ≡ b → (k : ℕ) → n < 10 ^ suc k → ((k m : ℕ) → m < 10 ^ suc k → length (digits j m) ≤ suc k) → length (digits (suc j) n) ≤ suc k
    by true e k h rec = rw (digits-small (suc j) n (ltb-true n 10 e)) (omega arith)
    by false e zero h rec = absurd (omega (arith, ltb-false n 10 e))
    by false e (suc k) h rec =
        rw (digits-large j n (ltb-false n 10 e), length-append)
        (let r = rec k (n / 10) (omega arith) in omega arith)

pub decimal-short : (k n : ℕ) → n < 10 ^ suc k → length (decimal n) ≤ suc k
unfolding decimal
decimal-short k n h = digits-short n k n h

-- how they are stored
module _ (n : ℕ) {a b : Text} where
  pub puts_small : n < 10 → Puts 1 a b (digit n ∷ []) → Puts (length (decimal n)) a b (decimal n)
  puts_small h w = puts_exact (puts_same w (sym (decimal-small n h)))

  pub puts_large : {c : Text} → 10 ≤ n → Puts (length (decimal (n / 10))) a b (decimal (n / 10)) → Puts 1 b c (digit (n % 10) ∷ []) → Puts (length (decimal n)) a c (decimal n)
  puts_large h v w = puts_exact (puts_same (puts_join v w) (sym (decimal-large n h)))

  pub puts_five : n < 100000 → Puts (length (decimal n)) a b (decimal n) → Puts 5 a b (decimal n)
  puts_five h w = puts_more w (decimal-short 4 n h)

-- the room that the last digit takes
pub room_small : (n at : ℕ) → n < 10 → at + length (decimal n) ≤ 8192 → at < 8192
room_small n at h r = omega (arith, ap length (decimal-small n h))

pub room-large : (n at : ℕ) → 10 ≤ n → at + length (decimal n) ≤ 8192 → at + length (decimal (n / 10)) < 8192
room-large n at h r = omega (arith, ap length (decimal-large n h), length-append (decimal (n / 10)) (digit (n % 10) ∷ []))
