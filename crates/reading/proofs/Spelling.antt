-- Tokens, byte by byte. Assumes nothing.
use mathlib.Core.Path.{◌≡◌, refl, sym, ap, ◌∙◌}
use mathlib.Core.Bool.{Bool, true, false, true≢false, ◌&&◌, ◌||◌}
use mathlib.Core.List.{List, [], ◌∷◌}
use Prim.Native.Nat.{ℕ, zero, suc, ◌+◌, ◌-◌, ◌≤◌, ◌<◌}
use native.Mathlib.Omega.{arith}
use lib.Dec.{eqb}
use lib.ListN.{length, get_or, drop, take, drop_of_length-le}
use lib.Seq.{slice, slice-cons, slice_empty, get_or-drop, get_or-take, drop-cons, drop-length}
use borrow.Author.Tests.{ne_eqb, eq-eqb}
use Rattle.grammar.specs.Tokens.{Class, blank, letter, digit, dot, alone, class_of, is_blank, is_letter, is_digit, joins}
use Rattle.grammar.specs.Grammar.{Grammar, same, all_digits, is_none, is_number, is_name, word_kind, kind_of}
use Rattle.grammar.specs.Machine.{feed, live, begins, some_fixed, possible, joins_run}
use Rattle.grammar.specs.Prototype.{spellings}
use Rattle.reading.specs.Coded.{class_code}

pub slice_at : (f t : ℕ) (l : List ℕ) (j : ℕ) → f + j < t → get_or (slice f t l) j 0 ≡ get_or l (f + j) 0
slice_at f t l j h = get_or-drop f (take t l) j 0 ∙ get_or-take t l (f + j) 0 h

-- a part of a text, as code takes it
take-drop : (a c : ℕ) (l : List ℕ) → take c (drop a l) ≡ drop a (take (a + c) l)
take-drop zero c l = let z : 0 + c ≡ c = omega arith in rw z refl
take-drop (suc a) c [] = let z : suc a + c ≡ suc (a + c) = omega arith in rw z (nil c)
  where
    nil : (c : ℕ) → ◌≡◌ {A = List ℕ} (take c []) []
    nil zero = refl
    nil (suc c) = refl
take-drop (suc a) c (x ∷ l) = let z : suc a + c ≡ suc (a + c) = omega arith in rw z (take-drop a c l)

pub part-slice : (f t : ℕ) (l : List ℕ) → f ≤ t → take (t - f) (drop f l) ≡ slice f t l
part-slice f t l h = let e : f + (t - f) ≡ t = omega arith in take-drop f (t - f) l ∙ ap (λ (n : ℕ). drop f (take n l)) e

begins-long : (w s : List ℕ) → length s < length w → begins w s ≡ false
begins-long [] s h = absurd (omega arith)
begins-long (x ∷ w) [] h = refl
begins-long (x ∷ w) (y ∷ s) h = by (eqb y x) (begins-long w s (omega arith))
  where
    by : (b : Bool) → begins w s ≡ false → (b && begins w s) ≡ false
    by true q = q
    by false q = refl

begins-step : (w s : List ℕ) (j : ℕ) → j < length w → j < length s
    → begins (drop j w) (drop j s) ≡ (eqb (get_or s j 0) (get_or w j 0) && begins (drop (suc j) w) (drop (suc j) s))
begins-step w s j h l = rw (drop-cons w j 0 h, drop-cons s j 0 l) refl

module _ (token s : List ℕ) where
  pub begins-too_long : (n x : ℕ) → x ≡ length s → x < length token → false ≡ begins token s
  begins-too_long n x e h = sym (begins-long token s (omega arith))

  pub begins-differs : (j x y n : ℕ) → begins (drop j token) (drop j s) ≡ begins token s
      → n ≡ length s → length token ≤ n → j < length token → x ≡ get_or s j 0 → y ≡ get_or token j 0 → (x ≡ y → ⊥) → false ≡ begins token s
  begins-differs j x y n i m o h p q d =
      let e : eqb (get_or s j 0) (get_or token j 0) ≡ false = ne_eqb _ _ (λ z. d (p ∙ z ∙ sym q)) in
      sym (sym i ∙ begins-step token s j (omega arith) (omega arith) ∙ rw e refl)

  pub begins-again : (j x y n : ℕ) → begins (drop j token) (drop j s) ≡ begins token s
      → n ≡ length s → length token ≤ n → j < length token → x ≡ get_or s j 0 → y ≡ get_or token j 0 → x ≡ y
      → begins (drop (j + 1) token) (drop (j + 1) s) ≡ begins token s
  begins-again j x y n i m o h p q d =
      let e : eqb (get_or s j 0) (get_or token j 0) ≡ true = eq-eqb _ _ (sym p ∙ d ∙ q) in
      let z : j + 1 ≡ suc j = omega arith in
      rw z (sym (begins-step token s j (omega arith) (omega arith) ∙ rw e refl) ∙ i)

  pub begins-done : (j : ℕ) → begins (drop j token) (drop j s) ≡ begins token s → j ≡ length token → true ≡ begins token s
  begins-done j i h =
      let e : j ≡ length token = h in
      rw (e, drop-length token) at i

  same-begins : (w s : List ℕ) → length s ≡ length w → begins w s ≡ same s w
  same-begins [] [] h = refl
  same-begins [] (y ∷ s) h = absurd (omega arith)
  same-begins (x ∷ w) [] h = absurd (omega arith)
  same-begins (x ∷ w) (y ∷ s) h = ap (λ (b : Bool). eqb y x && b) (same-begins w s (omega arith))

  same_length : (w s : List ℕ) → (length s ≡ length w → ⊥) → same s w ≡ false
  same_length [] [] h = absurd (h refl)
  same_length [] (y ∷ s) h = refl
  same_length (x ∷ w) [] h = refl
  same_length (x ∷ w) (y ∷ s) h = by (eqb y x) (same_length w s (λ e. h (omega arith)))
    where
      by : (b : Bool) → same s w ≡ false → (b && same s w) ≡ false
      by true q = q
      by false q = refl

  pub is-other : (n : ℕ) → n ≡ length s → (n ≡ length token → ⊥) → false ≡ same s token
  is-other n e h = sym (same_length token s (λ q. h (omega arith)))

  pub is_same : (n : ℕ) (b : Bool) → n ≡ length s → n ≡ length token → b ≡ begins token s → b ≡ same s token
  is_same n b e h q = q ∙ same-begins token s (omega arith)

pub is_digit_lem : (c : Class) → class_code c ≡ 2 → is_digit c ≡ true
is_digit_lem blank h = absurd (omega arith)
is_digit_lem letter h = absurd (omega arith)
is_digit_lem digit h = refl
is_digit_lem dot h = absurd (omega arith)
is_digit_lem alone h = absurd (omega arith)

pub no_digit : (c : Class) → (class_code c ≡ 2 → ⊥) → is_digit c ≡ false
no_digit blank h = refl
no_digit letter h = refl
no_digit digit h = absurd (h refl)
no_digit dot h = refl
no_digit alone h = refl

is-letter : (c : Class) → class_code c ≡ 1 → is_letter c ≡ true
is-letter blank h = absurd (omega arith)
is-letter letter h = refl
is-letter digit h = absurd (omega arith)
is-letter dot h = absurd (omega arith)
is-letter alone h = absurd (omega arith)

no_letter : (c : Class) → (class_code c ≡ 1 → ⊥) → is_letter c ≡ false
no_letter blank h = refl
no_letter letter h = absurd (h refl)
no_letter digit h = refl
no_letter dot h = refl
no_letter alone h = refl

pub is-blank : (c : Class) → class_code c ≡ 0 → is_blank c ≡ true
is-blank blank h = refl
is-blank letter h = absurd (omega arith)
is-blank digit h = absurd (omega arith)
is-blank dot h = absurd (omega arith)
is-blank alone h = absurd (omega arith)

pub no_blank : (c : Class) → (class_code c ≡ 0 → ⊥) → is_blank c ≡ false
no_blank blank h = absurd (h refl)
no_blank letter h = refl
no_blank digit h = refl
no_blank dot h = refl
no_blank alone h = refl

module _ (token : List ℕ) (some : 0 < length token) where
  front : token ≡ get_or token 0 0 ∷ drop 1 token
  front = drop-cons token 0 0 some

  pub number-none : (x : ℕ) → x ≡ class_code (class_of (get_or token 0 0)) → (x ≡ 2 → ⊥) → false ≡ is_number token
  number-none x e h = rw (front, no_digit (class_of (get_or token 0 0)) (λ q. h (e ∙ q))) refl

  pub digits-none : (x y j : ℕ) → x ≡ class_code (class_of (get_or token 0 0)) → x ≡ 2
      → all_digits (drop j token) ≡ all_digits (drop 1 token) → j < length token → y ≡ class_code (class_of (get_or token j 0)) → (y ≡ 2 → ⊥)
      → false ≡ is_number token
  digits-none x y j e h i l f n =
      let v : all_digits (drop j token) ≡ false = rw (drop-cons token j 0 l, no_digit (class_of (get_or token j 0)) (λ q. n (f ∙ q))) refl in
      let a : all_digits (drop 1 token) ≡ false = sym i ∙ v in
      rw (front, is_digit_lem (class_of (get_or token 0 0)) (sym e ∙ h), a) refl

  pub digits-again : (y j : ℕ) → all_digits (drop j token) ≡ all_digits (drop 1 token) → j < length token → y ≡ class_code (class_of (get_or token j 0)) → y ≡ 2
      → all_digits (drop (j + 1) token) ≡ all_digits (drop 1 token)
  digits-again y j i l f n =
      let z : j + 1 ≡ suc j = omega arith in
      let a : all_digits (drop j token) ≡ all_digits (drop (suc j) token) =
      rw (drop-cons token j 0 l, is_digit_lem (class_of (get_or token j 0)) (sym f ∙ n)) refl in
      rw z (sym a ∙ i)

  all_digits_lem : (j : ℕ) → all_digits (drop j token) ≡ all_digits (drop 1 token) → length token ≤ j → j ≤ length token → all_digits (drop 1 token) ≡ true
  all_digits_lem j i l m =
      let y : j ≡ length token = omega arith in
      let v : all_digits (drop j token) ≡ true = rw (y, drop-length token) refl in
      sym i ∙ v

  pub number-plain : (x j b : ℕ) → x ≡ class_code (class_of (get_or token 0 0)) → x ≡ 2
      → all_digits (drop j token) ≡ all_digits (drop 1 token) → length token ≤ j → j ≤ length token → b ≡ get_or token 0 0 → (b ≡ 48 → ⊥) → true ≡ is_number token
  number-plain x j b e h i l m f n =
      rw (front, is_digit_lem (class_of (get_or token 0 0)) (sym e ∙ h), all_digits_lem j i l m, ne_eqb (get_or token 0 0) 48 (λ q. n (f ∙ q))) refl

  last_none : (t : List ℕ) (e : Bool) → 0 < length t → eqb (length t) 1 ≡ e → e ≡ is_none (drop 1 t)
  last_none [] e l h = absurd (omega arith)
  last_none (x ∷ []) e l h = sym h
  last_none (x ∷ y ∷ t) e l h = sym h ∙ ne_eqb (length (x ∷ y ∷ t)) 1 (λ q. omega arith)

  pub number-zero : (x j b : ℕ) (z : Bool) → x ≡ class_code (class_of (get_or token 0 0)) → x ≡ 2
      → all_digits (drop j token) ≡ all_digits (drop 1 token) → length token ≤ j → j ≤ length token → b ≡ get_or token 0 0 → b ≡ 48 → eqb (length token) 1 ≡ z → z ≡ is_number token
  number-zero x j b z e h i l m f n q =
      last_none token z some q ∙ sym (rw (front, is_digit_lem (class_of (get_or token 0 0)) (sym e ∙ h), all_digits_lem j i l m, eq-eqb (get_or token 0 0) 48 (sym f ∙ n)) refl)

pub joins-dot : (c d : Class) (x y : ℕ) → x ≡ class_code c → y ≡ class_code d → x ≡ 3 → eqb y 3 ≡ joins c d
joins-dot c d x y p q h = rw q (by c d (sym p ∙ h))
  where
    by : (c d : Class) → class_code c ≡ 3 → eqb (class_code d) 3 ≡ joins c d
    by blank d h = absurd (omega arith)
    by letter d h = absurd (omega arith)
    by digit d h = absurd (omega arith)
    by dot blank h = refl
    by dot letter h = refl
    by dot digit h = refl
    by dot dot h = refl
    by dot alone h = refl
    by alone d h = absurd (omega arith)

pub joins-wordy : (c d : Class) → (is_letter c || is_digit c) ≡ true → (is_letter d || is_digit d) ≡ joins c d
joins-wordy blank d h = absurd (true≢false (sym h))
joins-wordy letter d h = refl
joins-wordy digit d h = refl
joins-wordy dot d h = absurd (true≢false (sym h))
joins-wordy alone d h = absurd (true≢false (sym h))

pub joins-none : (c d : Class) → (is_letter c || is_digit c) ≡ false → (class_code c ≡ 3 → ⊥) → false ≡ joins c d
joins-none blank d h k = refl
joins-none letter d h k = absurd (true≢false h)
joins-none digit d h k = absurd (true≢false h)
joins-none dot d h k = absurd (k refl)
joins-none alone d h k = refl

pub wordy_letter : (d : Class) (x : ℕ) → x ≡ class_code d → x ≡ 1 → true ≡ (is_letter d || is_digit d)
wordy_letter d x p h = rw (is-letter d (sym p ∙ h)) refl

pub wordy_digit : (d : Class) (x : ℕ) → x ≡ class_code d → (x ≡ 1 → ⊥) → eqb x 2 ≡ (is_letter d || is_digit d)
wordy_digit blank x p h = rw p refl
wordy_digit letter x p h = absurd (h p)
wordy_digit digit x p h = rw p refl
wordy_digit dot x p h = rw p refl
wordy_digit alone x p h = rw p refl

-- the kind of a token, one fixed token after the other
pub kind-number : (ss : List (List ℕ)) (w : List ℕ) → is_number w ≡ true → 0 ≡ kind_of ss w
unfolding kind_of
kind-number ss w h = rw h refl

spellings-length : length spellings ≡ 45
unfolding spellings
spellings-length = refl

module _ (w : List ℕ) (i : ℕ) (left : i < 45) where
  next-spelling : drop i spellings ≡ get_or spellings i [] ∷ drop (suc i) spellings
  next-spelling = drop-cons spellings i [] (omega (arith, spellings-length))

  pub kind-here : (b x : Bool) → word_kind (drop i spellings) (i + 3) w ≡ word_kind spellings 3 w → is_number w ≡ false
      → x ≡ same (get_or spellings i []) w → x ≡ true → i + 3 ≡ kind_of spellings w
  unfolding kind_of
  kind-here b x h n q t =
      let s : same (get_or spellings i []) w ≡ true = sym q ∙ t in
      let e : word_kind (drop i spellings) (i + 3) w ≡ i + 3 = rw (next-spelling, s) refl in
      rw n (sym e ∙ h)

  pub kind-next : (x : Bool) → word_kind (drop i spellings) (i + 3) w ≡ word_kind spellings 3 w
      → x ≡ same (get_or spellings i []) w → x ≡ false → word_kind (drop (i + 1) spellings) (i + 1 + 3) w ≡ word_kind spellings 3 w
  kind-next x h q t =
      let s : same (get_or spellings i []) w ≡ false = sym q ∙ t in
      let z : i + 1 ≡ suc i = omega arith in
      let y : i + 1 + 3 ≡ suc (i + 3) = omega arith in
      let e : word_kind (drop i spellings) (i + 3) w ≡ word_kind (drop (suc i) spellings) (suc (i + 3)) w = rw (next-spelling, s) refl in
      rw (y, z) (sym e ∙ h)

  pub fixed_here : (g : Grammar) (ns : List ℕ) → some_fixed g ns (drop i spellings) (i + 3) w ≡ some_fixed g ns spellings 3 w
      → (begins w (get_or spellings i []) && live (feed g ns (i + 3))) ≡ true → true ≡ some_fixed g ns spellings 3 w
  fixed_here g ns h s =
      let e : some_fixed g ns (drop i spellings) (i + 3) w ≡ true = rw (next-spelling, s) refl in
      sym e ∙ h

  pub fixed_next : (g : Grammar) (ns : List ℕ) → some_fixed g ns (drop i spellings) (i + 3) w ≡ some_fixed g ns spellings 3 w
      → (begins w (get_or spellings i []) && live (feed g ns (i + 3))) ≡ false → some_fixed g ns (drop (i + 1) spellings) (i + 1 + 3) w ≡ some_fixed g ns spellings 3 w
  fixed_next g ns h s =
      let z : i + 1 ≡ suc i = omega arith in
      let y : i + 1 + 3 ≡ suc (i + 3) = omega arith in
      let e : some_fixed g ns (drop i spellings) (i + 3) w ≡ some_fixed g ns (drop (suc i) spellings) (suc (i + 3)) w = rw (next-spelling, s) refl in
      rw (y, z) (sym e ∙ h)

past-spellings : (i : ℕ) → 45 ≤ i → drop i spellings ≡ []
past-spellings i h = drop_of_length-le spellings {i = i} (omega (arith, spellings-length))

pub fixed_none : (g : Grammar) (ns w : List ℕ) (i : ℕ) → some_fixed g ns (drop i spellings) (i + 3) w ≡ some_fixed g ns spellings 3 w → 45 ≤ i → false ≡ some_fixed g ns spellings 3 w
fixed_none g ns w i h l = rw (past-spellings i l) at h

pub kind-name : (token : List ℕ) (i x : ℕ) → 0 < length token
    → word_kind (drop i spellings) (i + 3) token ≡ word_kind spellings 3 token → 45 ≤ i
    → is_number token ≡ false → x ≡ class_code (class_of (get_or token 0 0)) → x ≡ 1 → 1 ≡ kind_of spellings token
unfolding kind_of
kind-name token i x l h o n q t =
    let s : is_name token ≡ true = rw (drop-cons token 0 0 l) (is-letter (class_of (get_or token 0 0)) (sym q ∙ t)) in
    let e : word_kind (drop i spellings) (i + 3) token ≡ 1 = rw (past-spellings i o, s) refl in
    rw n (sym e ∙ h)

pub kind-none : (token : List ℕ) (i x : ℕ) → 0 < length token
    → word_kind (drop i spellings) (i + 3) token ≡ word_kind spellings 3 token → 45 ≤ i
    → is_number token ≡ false → x ≡ class_code (class_of (get_or token 0 0)) → (x ≡ 1 → ⊥) → 2 ≡ kind_of spellings token
unfolding kind_of
kind-none token i x l h o n q t =
    let s : is_name token ≡ false = rw (drop-cons token 0 0 l) (no_letter (class_of (get_or token 0 0)) (λ u. t (q ∙ u))) in
    let e : word_kind (drop i spellings) (i + 3) token ≡ 2 = rw (past-spellings i o, s) refl in
    rw n (sym e ∙ h)

-- a token that may come next begins so: as a number, as a name, as a fixed token
name_is : (token : List ℕ) → 0 < length token → is_name token ≡ is_letter (class_of (get_or token 0 0))
name_is token l = rw (drop-cons token 0 0 l) refl

pub could_by : (g : Grammar) (ns w : List ℕ) (a b c : Bool) → (is_number w && live (feed g ns 0)) ≡ a → (is_name w && live (feed g ns 1)) ≡ b
    → some_fixed g ns g.spellings 3 w ≡ c → (a || (b || c)) ≡ possible g ns w
unfolding possible
could_by g ns w a b c p q r = sym (rw (p, q, r) refl)

pub letter_name : (token : List ℕ) (x : ℕ) → 0 < length token → x ≡ class_code (class_of (get_or token 0 0)) → x ≡ 1 → is_name token ≡ true
letter_name token x l q t = name_is token l ∙ is-letter (class_of (get_or token 0 0)) (sym q ∙ t)

pub letter_no_name : (token : List ℕ) (x : ℕ) → 0 < length token → x ≡ class_code (class_of (get_or token 0 0)) → (x ≡ 1 → ⊥) → is_name token ≡ false
letter_no_name token x l q t = name_is token l ∙ no_letter (class_of (get_or token 0 0)) (λ u. t (q ∙ u))

pub not_both : (a b : Bool) → a ≡ false → (a && b) ≡ false
not_both a b h = rw h refl

pub not_second : (a b : Bool) → b ≡ false → (a && b) ≡ false
not_second true b h = h
not_second false b h = refl

pub both : (a b : Bool) → a ≡ true → b ≡ true → (a && b) ≡ true
both a b h k = rw (h, k) refl

pub first-true : (a b : Bool) → a ≡ true → (a && b) ≡ b
first-true a b h = rw h refl

-- the byte behind a token that is being read
pub joins-some : (text : List ℕ) (start i : ℕ) (z : Bool) → start < i → i ≤ length text → z ≡ joins (class_of (get_or text start 0)) (class_of (get_or text i 0)) → z ≡ joins_run (slice start i text) (get_or text i 0)
joins-some text start i z l m h = h ∙ sym (rw (slice-cons start i text 0 l m) refl)

pub joins-empty : (text : List ℕ) (start i b : ℕ) → start ≡ i → false ≡ joins_run (slice start i text) b
joins-empty text start i b h = rw (h, slice_empty i text) refl
