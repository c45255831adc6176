-- Every state that is not lost can be completed: so a text can become a sentence exactly as long as the reader is not lost. Assumes nothing.
use mathlib.Core.Path.{◌≡◌, refl, sym, ap, ◌∙◌}
use mathlib.Core.Bool.{Bool, true, false, cond, true≢false, not, ◌&&◌, ◌||◌}
use mathlib.Core.List.{List, [], ◌∷◌, ◌++◌, append_assoc, append-nil}
use Prim.Native.Nat.{ℕ, zero, suc, ◌≤◌, ◌<◌}
use native.Mathlib.Omega.{arith}
use lib.Dec.{eqb, ltb}
use lib.ListN.{length, replicate, length-append}
use borrow.Author.Tests.{eqb-true, ltb-true}
use Rattle.grammar.specs.Tokens.{Class, blank, letter, digit, dot, alone, class_of, is_blank, is_letter, is_digit, joins, joins_first, cut, spaced}
use Rattle.grammar.specs.Grammar.{Event, Grammar, same, is_number, is_name, word_kind, kind_of, said, Derives, done, Viable}
use Rattle.grammar.specs.Machine.{Fed, dead, fed, feed, live, begins, some_fixed, possible, State, lost, at, is_lost, run, first}
use Rattle.grammar.proofs.Tokens.{Run, one, more, run-snoc, cut-run}
use Rattle.grammar.proofs.Derive.{join, sound}
use Rattle.grammar.proofs.Follow.{Fine, Chain}
use Rattle.grammar.proofs.Possible.{and_both}
use Rattle.grammar.proofs.Reader.{Completes, Good, run-good, run_in, run_out, first_good}

-- whether the bytes of a token hold together
abbrev pub holds : List ℕ → Bool
holds [] = false
holds (x ∷ []) = not (is_blank (class_of x))
holds (x ∷ y ∷ w) = joins (class_of x) (class_of y) && holds (y ∷ w)

pub holds-run : (x : ℕ) (w : List ℕ) → holds (x ∷ w) ≡ true → Run (x ∷ w)
holds-run x [] h = one (by (is_blank (class_of x)) h)
  where
    by : (b : Bool) → not b ≡ true → b ≡ false
    by true q = absurd (true≢false (sym q))
    by false q = refl
holds-run x (y ∷ w) h = let (p, q) = and_both (joins (class_of x) (class_of y)) (holds (y ∷ w)) h in more p (holds-run y w q)

abbrev pub all_hold : List (List ℕ) → Bool
all_hold [] = true
all_hold (w ∷ ts) = holds w && all_hold ts

-- each fixed token is of the kind that its place says, holds together and is shorter than 20 bytes
abbrev pub spelled : Grammar → List (List ℕ) → ℕ → Bool
spelled g [] n = true
spelled g (s ∷ ss) n = eqb (kind_of g.spellings s) n && (holds s && (ltb (length s) 20 && spelled g ss (suc n)))

-- every symbol stands for some tokens
pub record Fruitful (g : Grammar) : Type 0 where
  pub example : ℕ → List (List ℕ)
  pub hold : (n : ℕ) → all_hold (example n) ≡ true
  pub derived : (n : ℕ) → (es : List Event) × Derives g (n ∷ []) (example n) es
  pub fixed : spelled g g.spellings 3 ≡ true

joins-blank : (c : Class) → joins c blank ≡ false
joins-blank blank = refl
joins-blank letter = refl
joins-blank digit = refl
joins-blank dot = refl
joins-blank alone = refl

before-space : (x : ℕ) (t : List ℕ) → joins_first (class_of x) (32 ∷ t) ≡ false
unfolding class_of
before-space x t = joins-blank (class_of x)

cut-space : (t : List ℕ) → cut (32 ∷ t) ≡ cut t
unfolding class_of
cut-space t = refl

pub cut-spaced : (ts : List (List ℕ)) → all_hold ts ≡ true → cut (spaced ts) ≡ ts
cut-spaced [] h = refl
cut-spaced ([] ∷ ts) h = absurd (true≢false (sym h))
cut-spaced ((x ∷ w) ∷ ts) h =
    let (p, q) = and_both (holds (x ∷ w)) (all_hold ts) h in
    cut-run (32 ∷ spaced ts) (holds-run x w p) (before-space x (spaced ts))
    ∙ ap (λ (l : List (List ℕ)). (x ∷ w) ∷ l) (cut-space (spaced ts) ∙ cut-spaced ts q)

pub hold-append : (us vs : List (List ℕ)) → all_hold us ≡ true → all_hold vs ≡ true → all_hold (us ++ vs) ≡ true
hold-append [] vs h k = k
hold-append (w ∷ us) vs h k = let (p, q) = and_both (holds w) (all_hold us) h in rw p (hold-append us vs q k)

same-equal : (s w : List ℕ) → same s w ≡ true → s ≡ w
same-equal [] [] h = refl
same-equal [] (y ∷ w) h = absurd (true≢false (sym h))
same-equal (x ∷ s) [] h = absurd (true≢false (sym h))
same-equal (x ∷ s) (y ∷ w) h =
    let (p, q) = and_both (eqb x y) (same s w) h in
    let a = eqb-true x y p in
    let b = same-equal s w q in
    cc

-- what a fixed token has behind a part of it
rest_of : (w s : List ℕ) → begins w s ≡ true → (u : List ℕ) × (w ++ u ≡ s)
rest_of [] s h = (s, refl)
rest_of (x ∷ w) [] h = absurd (true≢false (sym h))
rest_of (x ∷ w) (y ∷ s) h =
    let (p, q) = and_both (eqb y x) (begins w s) h in
    let (u, e) = rest_of w s q in
    let a = eqb-true y x p in
    (u, cc)

letters_run : (k x : ℕ) (w : List ℕ) → Run (x ∷ w) → is_letter (class_of x) ≡ true → Run (x ∷ (w ++ replicate k 95))
unfolding class_of
letters_run zero x w r l = rw (append-nil w) r
letters_run (suc k) x w r l = rw append_assoc at (letters_run k x (w ++ (95 ∷ [])) (run-snoc 95 r (by (class_of x) l)) l)
  where
    by : (c : Class) → is_letter c ≡ true → joins c letter ≡ true
    by blank h = absurd (true≢false (sym h))
    by letter h = refl
    by digit h = refl
    by dot h = absurd (true≢false (sym h))
    by alone h = absurd (true≢false (sym h))

letter_no_digit : (c : Class) → is_letter c ≡ true → is_digit c ≡ false
letter_no_digit blank h = refl
letter_no_digit letter h = refl
letter_no_digit digit h = absurd (true≢false (sym h))
letter_no_digit dot h = refl
letter_no_digit alone h = refl

module _ {g : Grammar} {follow : ℕ → ℕ → Bool} (fine : Fine g follow) (fruit : Fruitful g) where
  -- symbols to come have a text
  Text : List ℕ → Type 0
  Text ns = (ts : List (List ℕ)) × (es : List Event) × Derives g ns ts es × (all_hold ts ≡ true)

  some-text : (ns : List ℕ) → Text ns
  unfolding Text
  some-text [] = ([], [], done, refl)
  some-text (n ∷ ns) =
      let (ts, es, d, h) = some-text ns in
      let (fs, e) = fruit.derived n in
      (fruit.example n ++ ts, fs ++ es, join e d, hold-append (fruit.example n) ts (fruit.hold n) h)

  -- a token that may come next and begins so
  Token : List ℕ → ℕ → List ℕ → Type 0
  Token ns x w = (u : List ℕ) × Run (x ∷ (w ++ u)) × (live (feed g ns (kind_of g.spellings (x ∷ (w ++ u)))) ≡ true)

  fixed_token : (ns : List ℕ) (ss : List (List ℕ)) (n x : ℕ) (w : List ℕ) → spelled g ss n ≡ true → some_fixed g ns ss n (x ∷ w) ≡ true → Token ns x w
  unfolding Token
  fixed_token ns [] n x w s h = absurd (true≢false (sym h))
  fixed_token ns (s ∷ ss) n x w k h = by (begins (x ∷ w) s && live (feed g ns n)) refl h
      (λ l. fixed_token ns ss (suc n) x w (and_both (ltb (length s) 20) (spelled g ss (suc n)) (and_both (holds s) _ (and_both (eqb (kind_of g.spellings s) n) _ k).1).1).1 l)
    where
      here : (v : List ℕ) → s ≡ v → x ∷ w ≡ v ++ [] → Token ns x w → Token ns x w
      here v p q l = l

      by : (b : Bool) → (begins (x ∷ w) s && live (feed g ns n)) ≡ b → (b || some_fixed g ns ss (suc n) (x ∷ w)) ≡ true
          → (some_fixed g ns ss (suc n) (x ∷ w) ≡ true → Token ns x w) → Token ns x w
      by true e l rec =
          let (p, q) = and_both (begins (x ∷ w) s) (live (feed g ns n)) e in
          let (u, a) = rest_of (x ∷ w) s p in
          let (c, d) = and_both (eqb (kind_of g.spellings s) n) (holds s && (ltb (length s) 20 && spelled g ss (suc n))) k in
          let (f, r) = and_both (holds s) (ltb (length s) 20 && spelled g ss (suc n)) d in
          (u, holds-run x (w ++ u) (rw (← a) at f), rw (a, eqb-true (kind_of g.spellings s) n c) q)
      by false e l rec = rec l

  -- no fixed token is as long as that
  long-name : (ss : List (List ℕ)) (n : ℕ) (v : List ℕ) → spelled g ss n ≡ true → is_name v ≡ true → 20 ≤ length v → word_kind ss n v ≡ 1
  long-name [] n v k h l = rw h refl
  long-name (s ∷ ss) n v k h l =
      let (c, d) = and_both (eqb (kind_of g.spellings s) n) (holds s && (ltb (length s) 20 && spelled g ss (suc n))) k in
      let (f, r) = and_both (holds s) (ltb (length s) 20 && spelled g ss (suc n)) d in
      let (m, i) = and_both (ltb (length s) 20) (spelled g ss (suc n)) r in
      by (same s v) refl (ltb-true (length s) 20 m) (long-name ss (suc n) v i h l)
    where
      by : (b : Bool) → same s v ≡ b → length s < 20 → word_kind ss (suc n) v ≡ 1 → cond b n (word_kind ss (suc n) v) ≡ 1
      by true e a rec = absurd (omega (arith, ap length (same-equal s v e)))
      by false e a rec = rec

  name_token : (ns : List ℕ) (x : ℕ) (w : List ℕ) → Run (x ∷ w) → is_name (x ∷ w) ≡ true → live (feed g ns 1) ≡ true → Token ns x w
  unfolding Token kind_of
  name_token ns x w r h l = (
    replicate 20 95,
    letters_run 20 x w r h,
    rw (letter_no_digit (class_of x) h, long-name g.spellings 3 (x ∷ (w ++ replicate 20 95)) fruit.fixed h (omega (arith, length-append w (replicate 20 95)))) l,
  )

  number-token : (ns : List ℕ) (x : ℕ) (w : List ℕ) → Run (x ∷ w) → is_number (x ∷ w) ≡ true → live (feed g ns 0) ≡ true → Token ns x w
  unfolding Token kind_of
  number-token ns x w r h l = ([], rw (append-nil w) r, rw (append-nil w, h) l)

  token : (ns : List ℕ) (x : ℕ) (w : List ℕ) → Run (x ∷ w) → possible g ns (x ∷ w) ≡ true → Token ns x w
  unfolding possible
  token ns x w r h = by (is_number (x ∷ w) && live (feed g ns 0)) refl (is_name (x ∷ w) && live (feed g ns 1)) refl h
    where
      by : (a : Bool) → (is_number (x ∷ w) && live (feed g ns 0)) ≡ a → (b : Bool) → (is_name (x ∷ w) && live (feed g ns 1)) ≡ b
          → (a || (b || some_fixed g ns g.spellings 3 (x ∷ w))) ≡ true → Token ns x w
      by true e b f q = let (i, j) = and_both (is_number (x ∷ w)) (live (feed g ns 0)) e in number-token ns x w r i j
      by false e true f q = let (i, j) = and_both (is_name (x ∷ w)) (live (feed g ns 1)) f in name_token ns x w r i j
      by false e false f q = fixed_token ns g.spellings 3 x w fruit.fixed q

  live-fed : (f : Fed) → live f ≡ true → (m : List ℕ) × (e : List Event) × (f ≡ fed m e)
  live-fed dead h = absurd (true≢false (sym h))
  live-fed (fed m e) h = (m, e, refl)

  abbrev pub Ends : State → Type 0
  Ends s = (q : List ℕ) × (fs : List Event) × Completes g s q fs

  pub completed : (w ns : List ℕ) (es : List Event) → Good g follow (at w ns es) → Ends (at w ns es)
  unfolding Text Token
  completed [] ns es o =
      let (ts, fs, d, h) = some-text ns in
      (spaced ts, es ++ fs, (fs, rw (cut-spaced ts h) d, refl))
  completed (x ∷ w) ns es o =
      let (u, r, l) = token ns x w o.0.0 o.0.1 in
      let (m, a, f) = live-fed (feed g ns (kind_of g.spellings (x ∷ (w ++ u)))) l in
      let (ts, fs, d, h) = some-text m in
      let p : cut ((x ∷ w) ++ (u ++ (32 ∷ spaced ts))) ≡ (x ∷ (w ++ u)) ∷ ts =
      ap (λ (v : List ℕ). cut (x ∷ v)) (sym (append_assoc w u (32 ∷ spaced ts)))
      ∙ cut-run (32 ∷ spaced ts) r (before-space x (spaced ts))
      ∙ ap (λ (v : List (List ℕ)). (x ∷ (w ++ u)) ∷ v) (cut-space (spaced ts) ∙ cut-spaced ts h) in
      (u ++ (32 ∷ spaced ts), es ++ (a ++ (said (x ∷ (w ++ u)) ++ fs)), (a ++ (said (x ∷ (w ++ u)) ++ fs), rw p (sound g ns (x ∷ (w ++ u)) f d), refl))

-- a text can become a sentence exactly as long as the reader is not lost
module _ {g : Grammar} {follow : ℕ → ℕ → Bool} (fine : Fine g follow) (fruit : Fruitful g) (start : List ℕ) (begun : Chain g follow start) where
  pub viable_live : (t : List ℕ) → Viable g start t → is_lost (run g (first start) t) ≡ false
  viable_live t v =
      by (run g (first start) t) (run_in fine (first start) t v.0 v.1 (first_good fine start begun) (v.1, v.2, refl))
    where
      by : (s : State) → Completes g s v.0 v.1 → is_lost s ≡ false
      by lost l = absurd l
      by (at w ns es) l = refl

  pub live-viable : (t : List ℕ) → is_lost (run g (first start) t) ≡ false → Viable g start t
  live-viable t h = by (run g (first start) t) refl h (run-good fine (first start) t (first_good fine start begun))
    where
      by : (s : State) → run g (first start) t ≡ s → is_lost s ≡ false → Good g follow s → Viable g start t
      by lost e i o = absurd (true≢false i)
      by (at w ns es) e i o =
          let (q, fs, l) = completed fine fruit w ns es o in
          let (a, d, p) = run_out fine (first start) t q fs (first_good fine start begun) (rw e l) in
          (q, a, d)
