-- Which tokens a part of a token can become. Assumes nothing.
use mathlib.Core.Path.{◌≡◌, refl, sym, ◌∙◌}
use mathlib.Core.Bool.{Bool, true, false, cond, true≢false, not, ◌&&◌, ◌||◌}
use mathlib.Core.List.{List, [], ◌∷◌, ◌++◌}
use Prim.Native.Nat.{ℕ, suc}
use lib.Dec.{eqb}
use Rattle.grammar.specs.Tokens.{class_of, is_digit}
use Rattle.grammar.specs.Grammar.{Rest, stop, goes, Absence, required, optional, Grammar, same, all_digits, is_none, is_number, is_name, word_kind, kind_of}
use Rattle.grammar.specs.Machine.{Fed, dead, fed, feed_by, feed, live, begins, some_fixed, possible}
use Rattle.grammar.proofs.Derive.{is_goes}
use Rattle.grammar.proofs.Follow.{Fine}

pub and_both : (a b : Bool) → (a && b) ≡ true → (a ≡ true) × (b ≡ true)
and_both true b h = (refl, h)
and_both false b h = absurd (true≢false (sym h))

pub both-and : {a b : Bool} → a ≡ true → b ≡ true → (a && b) ≡ true
both-and p q = rw (p, q) refl

pub or_left : {a : Bool} (b : Bool) → a ≡ true → (a || b) ≡ true
or_left b p = rw p refl

pub or_right : (a : Bool) {b : Bool} → b ≡ true → (a || b) ≡ true
or_right true p = refl
or_right false p = p

digits-prefix : (w u : List ℕ) → all_digits (w ++ u) ≡ true → all_digits w ≡ true
digits-prefix [] u h = refl
digits-prefix (b ∷ w) u h =
    let (p, q) = and_both (is_digit (class_of b)) (all_digits (w ++ u)) h in
    both-and p (digits-prefix w u q)

none-prefix : (a : Bool) (w u : List ℕ) → (a || is_none (w ++ u)) ≡ true → (a || is_none w) ≡ true
none-prefix true w u h = refl
none-prefix false [] u h = refl
none-prefix false (x ∷ w) u h = h

number-prefix : (x : ℕ) (w u : List ℕ) → is_number (x ∷ (w ++ u)) ≡ true → is_number (x ∷ w) ≡ true
number-prefix x w u h =
    let (p, q) = and_both (is_digit (class_of x)) (all_digits (w ++ u) && (not (eqb x 48) || is_none (w ++ u))) h in
    let (r, s) = and_both (all_digits (w ++ u)) (not (eqb x 48) || is_none (w ++ u)) q in
    both-and p (both-and (digits-prefix w u r) (none-prefix (not (eqb x 48)) w u s))

same-begins : (s w u : List ℕ) → same s (w ++ u) ≡ true → begins w s ≡ true
same-begins s [] u h = refl
same-begins [] (x ∷ w) u h = h
same-begins (y ∷ s) (x ∷ w) u h =
    let (p, q) = and_both (eqb y x) (same s (w ++ u)) h in
    both-and p (same-begins s w u q)

module _ {g : Grammar} {follow : ℕ → ℕ → Bool} (fine : Fine g follow) where
  dead-unknown : (ns : List ℕ) → live (feed g ns 2) ≡ false
  dead-unknown [] = refl
  dead-unknown (n ∷ ns) = by (g.rule n 2) (fine.unknown n) (g.absent n) (feed g ns 2) (dead-unknown ns)
    where
      by : (r : Rest) → is_goes r ≡ false → (a : Absence) (f : Fed) → live f ≡ false → live (feed_by r a ns f) ≡ false
      by (goes r) h a f l = absurd (true≢false h)
      by stop h required f l = refl
      by stop h (optional e) dead l = refl
      by stop h (optional e) (fed m es) l = absurd (true≢false l)

  word_possible : (ns : List ℕ) (ss : List (List ℕ)) (n x : ℕ) (w u : List ℕ) → live (feed g ns (word_kind ss n (x ∷ (w ++ u)))) ≡ true
      → ((is_name (x ∷ w) && live (feed g ns 1)) || some_fixed g ns ss n (x ∷ w)) ≡ true
  word_possible ns [] n x w u h = by (is_name (x ∷ w)) refl h
    where
      by : (b : Bool) → is_name (x ∷ w) ≡ b → live (feed g ns (cond b 1 2)) ≡ true → ((is_name (x ∷ w) && live (feed g ns 1)) || false) ≡ true
      by true e l = or_left false (both-and e l)
      by false e l = absurd (true≢false (sym l ∙ dead-unknown ns))
  word_possible ns (s ∷ ss) n x w u h =
      by (same s (x ∷ (w ++ u))) refl h (λ l. word_possible ns ss (suc n) x w u l)
    where
      later : (a b c : Bool) → (a || c) ≡ true → (a || (b || c)) ≡ true
      later true b c l = refl
      later false b c l = or_right b l

      by : (b : Bool) → same s (x ∷ (w ++ u)) ≡ b → live (feed g ns (cond b n (word_kind ss (suc n) (x ∷ (w ++ u))))) ≡ true
          → (live (feed g ns (word_kind ss (suc n) (x ∷ (w ++ u)))) ≡ true → ((is_name (x ∷ w) && live (feed g ns 1)) || some_fixed g ns ss (suc n) (x ∷ w)) ≡ true)
          → ((is_name (x ∷ w) && live (feed g ns 1)) || ((begins (x ∷ w) s && live (feed g ns n)) || some_fixed g ns ss (suc n) (x ∷ w))) ≡ true
      by true e l rec =
          or_right (is_name (x ∷ w) && live (feed g ns 1))
          (or_left (some_fixed g ns ss (suc n) (x ∷ w)) (both-and (same-begins s (x ∷ w) u e) l))
      by false e l rec =
          later (is_name (x ∷ w) && live (feed g ns 1)) (begins (x ∷ w) s && live (feed g ns n)) (some_fixed g ns ss (suc n) (x ∷ w)) (rec l)

  -- a part of a token that may come is possible
  pub kind-possible : (ns : List ℕ) (x : ℕ) (w u : List ℕ) → live (feed g ns (kind_of g.spellings (x ∷ (w ++ u)))) ≡ true → possible g ns (x ∷ w) ≡ true
  unfolding kind_of possible
  kind-possible ns x w u h = by (is_number (x ∷ (w ++ u))) refl h
    where
      by : (b : Bool) → is_number (x ∷ (w ++ u)) ≡ b → live (feed g ns (cond b 0 (word_kind g.spellings 3 (x ∷ (w ++ u))))) ≡ true
          → ((is_number (x ∷ w) && live (feed g ns 0)) || ((is_name (x ∷ w) && live (feed g ns 1)) || some_fixed g ns g.spellings 3 (x ∷ w))) ≡ true
      by true e l =
          or_left ((is_name (x ∷ w) && live (feed g ns 1)) || some_fixed g ns g.spellings 3 (x ∷ w)) (both-and (number-prefix x w u e) l)
      by false e l = or_right (is_number (x ∷ w) && live (feed g ns 0)) (word_possible ns g.spellings 3 x w u l)
