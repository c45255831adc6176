-- How tokens are cut. Assumes nothing.
use mathlib.Core.Path.{◌≡◌, refl, sym, ap, ◌∙◌}
use mathlib.Core.Bool.{Bool, true, false, true≢false}
use mathlib.Core.List.{List, [], ◌∷◌, ◌++◌, append_assoc, append-nil}
use Prim.Native.Nat.{ℕ}
use Rattle.grammar.specs.Tokens.{Class, blank, letter, digit, dot, alone, class_of, is_blank, joins, joins_first, cut}

-- a part of a token, or a whole one: each byte joins the next
pub data Run : List ℕ → Type 0 where
  one : {x : ℕ} → is_blank (class_of x) ≡ false → Run (x ∷ [])
  more : {x y : ℕ} {w : List ℕ} → joins (class_of x) (class_of y) ≡ true → Run (y ∷ w) → Run (x ∷ y ∷ w)

-- bytes that join join the same bytes, and are no blanks
same-joins : (c d e : Class) → joins c d ≡ true → joins c e ≡ joins d e
same-joins blank d e h = absurd (true≢false (sym h))
same-joins letter blank e h = absurd (true≢false (sym h))
same-joins letter letter e h = refl
same-joins letter digit e h = refl
same-joins letter dot e h = absurd (true≢false (sym h))
same-joins letter alone e h = absurd (true≢false (sym h))
same-joins digit blank e h = absurd (true≢false (sym h))
same-joins digit letter e h = refl
same-joins digit digit e h = refl
same-joins digit dot e h = absurd (true≢false (sym h))
same-joins digit alone e h = absurd (true≢false (sym h))
same-joins dot blank e h = absurd (true≢false (sym h))
same-joins dot letter e h = absurd (true≢false (sym h))
same-joins dot digit e h = absurd (true≢false (sym h))
same-joins dot dot e h = refl
same-joins dot alone e h = absurd (true≢false (sym h))
same-joins alone d e h = absurd (true≢false (sym h))

joins-left : (c d : Class) → joins c d ≡ true → is_blank c ≡ false
joins-left blank d h = absurd (true≢false (sym h))
joins-left letter d h = refl
joins-left digit d h = refl
joins-left dot d h = refl
joins-left alone d h = refl

joins-right : (c d : Class) → joins c d ≡ true → is_blank d ≡ false
joins-right c blank h = absurd (true≢false (sym (sym (blank-last c) ∙ h)))
  where
    blank-last : (c : Class) → joins c blank ≡ false
    blank-last blank = refl
    blank-last letter = refl
    blank-last digit = refl
    blank-last dot = refl
    blank-last alone = refl
joins-right c letter h = refl
joins-right c digit h = refl
joins-right c dot h = refl
joins-right c alone h = refl

-- one byte more
pub run-snoc : {x : ℕ} {w : List ℕ} (b : ℕ) → Run (x ∷ w) → joins (class_of x) (class_of b) ≡ true → Run (x ∷ (w ++ (b ∷ [])))
run-snoc {x} b (one h) j = more j (one (joins-right (class_of x) (class_of b) j))
run-snoc b (more {x = x} {y = y} k r) j = more k (run-snoc b r (sym (same-joins (class_of x) (class_of y) (class_of b) k) ∙ j))

run-left : {x : ℕ} {w : List ℕ} → Run (x ∷ w) → is_blank (class_of x) ≡ false
run-left (one h) = h
run-left (more {x = x} {y = y} k r) = joins-left (class_of x) (class_of y) k

-- a whole token in front
pub cut-run : {x : ℕ} {w : List ℕ} (t : List ℕ) → Run (x ∷ w) → joins_first (class_of x) t ≡ false → cut ((x ∷ w) ++ t) ≡ (x ∷ w) ∷ cut t
cut-run t (one h) j = rw (h, j) refl
cut-run t (more {x = x} {y = y} {w = w} k r) j =
    rw (joins-left (class_of x) (class_of y) k, k, cut-run t r (first-joins t j)) refl
  where
    first-joins : (t : List ℕ) → joins_first (class_of x) t ≡ false → joins_first (class_of y) t ≡ false
    first-joins [] h = refl
    first-joins (z ∷ t) h = sym (same-joins (class_of x) (class_of y) (class_of z) k) ∙ h

-- what is being read is the beginning of the first token, whatever follows
pub first-token : (t : List ℕ) {x : ℕ} {w : List ℕ} → Run (x ∷ w)
    → (u : List ℕ) × (ts : List (List ℕ)) × (cut ((x ∷ w) ++ t) ≡ (x ∷ (w ++ u)) ∷ ts)
first-token [] {x} {w} r = ([], [], cut-run [] r refl ∙ ap (λ (v : List ℕ). (x ∷ v) ∷ []) (sym (append-nil w)))
first-token (b ∷ t) {x} {w} r = by (joins (class_of x) (class_of b)) refl (λ j. first-token t (run-snoc b r j))
  where
    by : (j : Bool) → joins (class_of x) (class_of b) ≡ j
        → (joins (class_of x) (class_of b) ≡ true → (u : List ℕ) × (ts : List (List ℕ)) × (cut ((x ∷ (w ++ (b ∷ []))) ++ t) ≡ (x ∷ ((w ++ (b ∷ [])) ++ u)) ∷ ts))
        → (u : List ℕ) × (ts : List (List ℕ)) × (cut ((x ∷ w) ++ (b ∷ t)) ≡ (x ∷ (w ++ u)) ∷ ts)
    by true e rest =
        let (u, ts, h) = rest e in
        (b ∷ u, ts, ap (λ (v : List ℕ). cut (x ∷ v)) (sym (append_assoc w (b ∷ []) t)) ∙ h ∙ ap (λ (v : List ℕ). (x ∷ v) ∷ ts) (append_assoc w (b ∷ []) u))
    by false e rest = ([], cut (b ∷ t), cut-run (b ∷ t) r e ∙ ap (λ (v : List ℕ). (x ∷ v) ∷ cut (b ∷ t)) (sym (append-nil w)))
