-- A number, byte by byte: what the next byte makes of it. Assumes nothing.
use mathlib.Core.Path.{◌≡◌, refl, sym, ap, ◌∙◌}
use mathlib.Core.Bool.{Bool, true, false, not, ◌&&◌, ◌||◌}
use mathlib.Core.List.{List, [], ◌∷◌, ◌++◌}
use Prim.Native.Nat.{ℕ, suc, ◌+◌, ◌≤◌, ◌<◌}
use native.Mathlib.Omega.{arith}
use lib.Dec.{eqb}
use lib.ListN.{length, get_or, take, length-take, drop_of_length-le}
use lib.Seq.{slice, slice-cons, slice_empty}
use borrow.Author.Tests.{eqb-true, eqb-false}
use Rattle.grammar.specs.Tokens.{class_of, is_digit}
use Rattle.grammar.specs.Grammar.{all_digits, is_none, is_number}
use Rattle.reading.specs.Coded.{class_code}
use Rattle.reading.proofs.Spelling.{is_digit_lem, no_digit}
use Rattle.reading.proofs.Steps.{slice_snoc}

digits_more : (w : List ℕ) (b : ℕ) → all_digits (w ++ b ∷ []) ≡ (all_digits w && is_digit (class_of b))
digits_more [] b = by (is_digit (class_of b))
  where
    by : (z : Bool) → (z && true) ≡ z
    by true = refl
    by false = refl
digits_more (x ∷ w) b = ap (λ (z : Bool). is_digit (class_of x) && z) (digits_more w b) ∙ by (is_digit (class_of x)) (all_digits w) (is_digit (class_of b))
  where
    by : (p q r : Bool) → (p && (q && r)) ≡ ((p && q) && r)
    by true q r = refl
    by false q r = refl

some_more : (w : List ℕ) (b : ℕ) → is_none (w ++ b ∷ []) ≡ false
some_more [] b = refl
some_more (x ∷ w) b = refl

number_more : (x : ℕ) (w : List ℕ) (b : ℕ) → is_number (x ∷ (w ++ b ∷ [])) ≡ (is_number (x ∷ w) && (is_digit (class_of b) && not (eqb x 48)))
number_more x w b = rw (digits_more w b, some_more w b) (by (is_digit (class_of x)) (all_digits w) (is_digit (class_of b)) (eqb x 48) (is_none w))
  where
    by : (p q r s n : Bool) → (p && ((q && r) && (not s || false))) ≡ ((p && (q && (not s || n))) && (r && not s))
    by false q r s n = refl
    by true false r s n = refl
    by true true true true true = refl
    by true true true true false = refl
    by true true true false n = refl
    by true true false true true = refl
    by true true false true false = refl
    by true true false false n = refl

slice_more : (start i : ℕ) (text : List ℕ) → start < i → i < length text → slice start (i + 1) text ≡ get_or text start 0 ∷ (slice (suc start) i text ++ get_or text i 0 ∷ [])
slice_more start i text l m =
    slice-cons start (i + 1) text 0 (omega arith) (omega arith) ∙ ap (λ (w : List ℕ). get_or text start 0 ∷ w) (slice_snoc (suc start) i text (omega arith) m)

number_step : (text : List ℕ) (start i : ℕ) → start < i → i < length text
    → is_number (slice start (i + 1) text) ≡ (is_number (slice start i text) && (is_digit (class_of (get_or text i 0)) && not (eqb (get_or text start 0) 48)))
number_step text start i l m =
    ap is_number (slice_more start i text l m) ∙ number_more (get_or text start 0) (slice (suc start) i text) (get_or text i 0)
    ∙ ap (λ (w : List ℕ). is_number w && (is_digit (class_of (get_or text i 0)) && not (eqb (get_or text start 0) 48))) (sym (slice-cons start i text 0 l (omega arith)))

one_byte : (text : List ℕ) (i : ℕ) → i < length text → slice i (i + 1) text ≡ get_or text i 0 ∷ []
one_byte text i m = slice-cons i (i + 1) text 0 (omega arith) (omega arith) ∙ let q : suc i ≡ i + 1 = omega arith in rw (q, slice_empty (i + 1) text)

number-one : (text : List ℕ) (i : ℕ) → i < length text → is_number (slice i (i + 1) text) ≡ is_digit (class_of (get_or text i 0))
number-one text i m = ap is_number (one_byte text i m) ∙ by (is_digit (class_of (get_or text i 0))) (not (eqb (get_or text i 0) 48))
  where
    by : (p q : Bool) → (p && (true && (q || true))) ≡ p
    by true true = refl
    by true false = refl
    by false q = refl

below : (a b : ℕ) → a ≤ b → (a ≡ b → ⊥) → a < b
below a b l n = by (eqb a b) refl
  where
    by : (z : Bool) → eqb a b ≡ z → a < b
    by true q = absurd (n (eqb-true a b q))
    by false q = let s = eqb-false a b q in omega arith

slice_none : (f t : ℕ) (l : List ℕ) → t ≤ f → slice f t l ≡ []
slice_none f t l h = drop_of_length-le (take t l) {i = f} (omega (arith, length-take t l))

-- what the next byte makes of it
pub on-other : (text : List ℕ) (start i x : ℕ) → start ≤ i → i < length text → x ≡ class_code (class_of (get_or text i 0)) → (x ≡ 2 → ⊥) → false ≡ is_number (slice start (i + 1) text)
on-other text start i x l m e n = by (eqb start i) refl
  where
    no : is_digit (class_of (get_or text i 0)) ≡ false
    no = no_digit (class_of (get_or text i 0)) (λ q. n (e ∙ q))

    by : (b : Bool) → eqb start i ≡ b → false ≡ is_number (slice start (i + 1) text)
    by true q = let s : start ≡ i = eqb-true start i q in rw s (sym (number-one text i m ∙ no))
    by false q =
        let s = eqb-false start i q in
        sym (number_step text start i (omega arith) m ∙ rw no (none (is_number (slice start i text))))
      where
        none : (z : Bool) → (z && (false && not (eqb (get_or text start 0) 48))) ≡ false
        none true = refl
        none false = refl

pub on-first : (text : List ℕ) (start i x : ℕ) → i < length text → x ≡ class_code (class_of (get_or text i 0)) → x ≡ 2 → start ≡ i → true ≡ is_number (slice start (i + 1) text)
on-first text start i x m e d q = rw q (sym (number-one text i m ∙ is_digit_lem (class_of (get_or text i 0)) (sym e ∙ d)))

pub on-digit : (text : List ℕ) (start i x : ℕ) (number : Bool) → start ≤ i → i < length text → x ≡ class_code (class_of (get_or text i 0)) → x ≡ 2 → (start ≡ i → ⊥)
    → number ≡ is_number (slice start i text) → number ≡ true → not (eqb (get_or text start 0) 48) ≡ is_number (slice start (i + 1) text)
on-digit text start i x number l m e d n h z =
    sym (number_step text start i (below start i l n) m ∙ rw (sym h ∙ z, is_digit_lem (class_of (get_or text i 0)) (sym e ∙ d)) refl)

pub on_none : (text : List ℕ) (start i : ℕ) (number : Bool) → start ≤ i → i < length text → (start ≡ i → ⊥) → number ≡ is_number (slice start i text) → number ≡ false → false ≡ is_number (slice start (i + 1) text)
on_none text start i number l m n h z = sym (number_step text start i (below start i l n) m ∙ rw (sym h ∙ z) refl)

pub by_none : (text : List ℕ) (i next : ℕ) → i < next → false ≡ is_number (slice next (i + 1) text)
by_none text i next l = ap is_number (sym (slice_none next (i + 1) text (omega arith)))

pub none_number : (text : List ℕ) (i : ℕ) → false ≡ is_number (slice i i text)
none_number text i = ap is_number (sym (slice_empty i text))

-- what was told of a number
pub told : (n w l r : Bool) → n ≡ w → r ≡ (n && l) → (w && l) ≡ r
told n w l r p q = ap (λ (z : Bool). z && l) (sym p) ∙ sym q
