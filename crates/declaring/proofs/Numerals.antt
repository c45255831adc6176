-- Decimal digits are a number token that says the number. Assumes nothing.
use mathlib.Core.Path.{◌≡◌, refl, sym, ap, ◌∙◌}
use mathlib.Core.Bool.{Bool, true, false, true≢false, not, ◌||◌}
use mathlib.Core.List.{List, [], ◌∷◌, ◌++◌}
use Prim.Native.Nat.{ℕ, zero, suc, ◌+◌, ◌*◌, ◌-◌, ◌/◌, ◌%◌, ◌≤◌, ◌<◌}
use native.Mathlib.Omega.{arith}
use borrow.Author.Tests.{ltb-true, ltb-false}
use lib.Dec.{eqb, ltb}
use Rattle.listing.specs.Decimal as dec
use Rattle.listing.proofs.Decimal.{decimal-small, decimal-large, decimal-says}
use Rattle.grammar.specs.Tokens.{Class, blank, letter, digit, dot, alone, class_of, is_digit}
use Rattle.grammar.specs.Grammar.{size, all_digits, is_none, is_number, decimal, kind_of, said}
use Rattle.grammar.proofs.Possible.{and_both}
use Rattle.grammar.proofs.Live.{holds}
use Rattle.declaring.proofs.Cases.{each}

digit-class : (n : ℕ) → n < 10 → class_of (48 + n) ≡ digit
unfolding class_of
digit-class n h = each (λ n. class_of (48 + n) ≡ digit) 10 0 (refl, (refl, (refl, (refl, (refl, (refl, (refl, (refl, (refl, (refl, tt)))))))))) n (omega arith) h

digit_not : (n : ℕ) → n < 10 → 1 ≤ n → eqb (48 + n) 48 ≡ false
digit_not n h l = each (λ n. eqb (48 + n) 48 ≡ false) 9 1 (refl, (refl, (refl, (refl, (refl, (refl, (refl, (refl, (refl, tt))))))))) n l h

-- a digit, then digits; no zero in front of a number that is not 0
record Shape (nonzero : Bool) (w : List ℕ) : Type 0 where
  head : ℕ
  tail : List ℕ
  is : w ≡ head ∷ tail
  first : class_of head ≡ digit
  rest : all_digits tail ≡ true
  front : (not (eqb head 48) || is_none tail) ≡ true
  none : nonzero ≡ true → eqb head 48 ≡ false

all_append : (v w : List ℕ) → all_digits v ≡ true → all_digits w ≡ true → all_digits (v ++ w) ≡ true
all_append [] w h k = k
all_append (b ∷ v) w h k = let (p, q) = and_both (is_digit (class_of b)) (all_digits v) h in rw p (all_append v w q k)

shape_small : (n : ℕ) → n < 10 → (z : Bool) → (z ≡ true → 1 ≤ n) → Shape z (dec.decimal n)
shape_small n h z k = record {
  head = 48 + n;
  tail = [];
  is = decimal-small n h;
  first = digit-class n h;
  rest = refl;
  front = or-true (not (eqb (48 + n) 48));
  none = λ e. digit_not n h (k e);
}
  where
    or-true : (b : Bool) → (b || true) ≡ true
    or-true true = refl
    or-true false = refl

shape_large : (n : ℕ) → 10 ≤ n → Shape true (dec.decimal (n / 10)) → (z : Bool) → Shape z (dec.decimal n)
shape_large n h s z =
    record {
      head = s.head;
      tail = s.tail ++ (dec.digit (n % 10) ∷ []);
      is = decimal-large n h ∙ ap (λ (l : List ℕ). l ++ (dec.digit (n % 10) ∷ [])) s.is;
      first = s.first;
      rest = all_append s.tail (dec.digit (n % 10) ∷ []) s.rest (rw (digit-class (n % 10) (omega arith)) refl);
      front = rw (s.none refl) refl;
      none = λ e. s.none refl;
    }

shape_by : (k n : ℕ) → n ≤ k → (z : Bool) → (z ≡ true → 1 ≤ n) → Shape z (dec.decimal n)
shape_by zero n h z f = shape_small n (omega arith) z f
shape_by (suc k) n h z f = by (ltb n 10) refl (λ q. shape_by k (n / 10) (omega arith) true q)
  where
    by : (b : Bool) → ltb n 10 ≡ b → ((true ≡ true → 1 ≤ n / 10) → Shape true (dec.decimal (n / 10))) → Shape z (dec.decimal n)
    by true e rec = shape_small n (ltb-true n 10 e) z f
    by false e rec = let l = ltb-false n 10 e in shape_large n l (rec (λ q. omega arith)) z

shape : (n : ℕ) → Shape false (dec.decimal n)
shape n = shape_by n n (omega arith) false (λ e. absurd (true≢false (sym e)))

is-number : (n : ℕ) → is_number (dec.decimal n) ≡ true
is-number n = let s = shape n in rw s.is (rw (s.first, s.rest) s.front)

same_read : (n : ℕ) (w : List ℕ) → decimal n w ≡ dec.read n w
same_read n [] = refl
same_read n (b ∷ w) = same_read (n * 10 + (b - 48)) w

pub number-kind : (ss : List (List ℕ)) (n : ℕ) → kind_of ss (dec.decimal n) ≡ 0
unfolding kind_of
number-kind ss n = rw (is-number n) refl

pub number-said : (n : ℕ) → said (dec.decimal n) ≡ size n ∷ []
unfolding said
number-said n = rw (is-number n) (ap (λ (m : ℕ). size m ∷ []) (same_read 0 (dec.decimal n) ∙ decimal-says n))

-- and hold together, also behind a letter
digits-hold : (b : ℕ) (w : List ℕ) → class_of b ≡ digit → all_digits w ≡ true → holds (b ∷ w) ≡ true
digits-hold b [] h k = rw h refl
digits-hold b (c ∷ w) h k =
    let (p, q) = and_both (is_digit (class_of c)) (all_digits w) k in
    rw (h, is_digit_lem (class_of c) p) (digits-hold c w (is_digit_lem (class_of c) p) q)
  where
    is_digit_lem : (c : Class) → is_digit c ≡ true → c ≡ digit
    is_digit_lem blank h = absurd (true≢false (sym h))
    is_digit_lem letter h = absurd (true≢false (sym h))
    is_digit_lem digit h = refl
    is_digit_lem dot h = absurd (true≢false (sym h))
    is_digit_lem alone h = absurd (true≢false (sym h))

pub number-holds : (n : ℕ) → holds (dec.decimal n) ≡ true
number-holds n = let s = shape n in rw s.is (digits-hold s.head s.tail s.first s.rest)

pub name_holds : (n : ℕ) → holds (109 ∷ dec.decimal n) ≡ true
unfolding class_of
name_holds n = let s = shape n in rw s.is (by s.head s.tail s.first (digits-hold s.head s.tail s.first s.rest))
  where
    by : (b : ℕ) (w : List ℕ) → class_of b ≡ digit → holds (b ∷ w) ≡ true → holds (109 ∷ b ∷ w) ≡ true
    by b w h k = rw h k
