-- A table's tests: where they hold, one token of look-ahead decides, and every symbol stands for some tokens. Assumes nothing.
use mathlib.Core.Path.{◌≡◌, refl, sym, ap, ◌∙◌}
use mathlib.Core.Bool.{Bool, true, false, cond, true≢false, not, ◌&&◌, ◌||◌}
use mathlib.Core.List.{List, [], ◌∷◌, ◌++◌}
use Prim.Native.Nat.{ℕ, zero, suc, ◌+◌, ◌≤◌, ◌<◌}
use native.Mathlib.Omega.{arith}
use lib.Dec.{eqb, ltb}
use lib.ListN.{length, get_or, get_or-eq_default}
use borrow.Author.Tests.{eqb-true, not-true, ltb-true, ltb-false}
use Rattle.grammar.specs.Grammar.{Event, goes, Grammar, kind_of, said, Derives, done, skip}
use Rattle.grammar.specs.Table.{Alternative, ◌⟶◌, Entry, entry, pick, alternatives_of, absence_of, nowhere, grammar_of}
use Rattle.grammar.specs.Machine.{Fed, dead, fed, feed, End, short, ended, is_ended, finish}
use Rattle.grammar.proofs.Derive.{is_goes, is_optional, starts, sound, end_sound}
use Rattle.grammar.proofs.Follow.{all_optional, Chain, Inside, Fine}
use Rattle.grammar.proofs.Possible.{and_both, or_right}
use Rattle.grammar.proofs.Live.{all_hold, spelled, Fruitful}

abbrev mem : ℕ → List ℕ → Bool
mem k [] = false
mem k (j ∷ js) = eqb k j || mem k js

abbrev pub follow_in : List (List ℕ) → ℕ → ℕ → Bool
follow_in follows n k = mem k (get_or follows n [])

abbrev subset : List ℕ → List ℕ → Bool
subset [] ks = true
subset (j ∷ js) ks = mem j ks && subset js ks

abbrev kinds : List Alternative → List ℕ
kinds [] = []
kinds ((k ⟶ r) ∷ alternatives) = k ∷ kinds alternatives

-- the kinds that may come first
abbrev firsts : List Entry → List ℕ → List ℕ
firsts table [] = []
firsts table (n ∷ ns) =
    kinds (alternatives_of (get_or table n nowhere)) ++ cond (is_optional (absence_of (get_or table n nowhere))) (firsts table ns) []

abbrev optionals : List Entry → List ℕ → Bool
optionals table [] = true
optionals table (n ∷ ns) = is_optional (absence_of (get_or table n nowhere)) && optionals table ns

-- the symbols of a rule whose own symbol is followed by ks
abbrev rule_test : List Entry → List (List ℕ) → List ℕ → List ℕ → Bool
rule_test table follows ks [] = true
rule_test table follows ks (m ∷ r) =
    subset (firsts table r) (get_or follows m []) && (cond (optionals table r) (subset ks (get_or follows m [])) true && rule_test table follows ks r)

-- no alternative begins with what is no token, nor, of a symbol that may be left out, with what may follow it
abbrev alternatives_test : List Entry → List (List ℕ) → Bool → List ℕ → List Alternative → Bool
alternatives_test table follows o ks [] = true
alternatives_test table follows o ks ((k ⟶ r) ∷ alternatives) =
    not (eqb 2 k) && (not (o && mem k ks) && (rule_test table follows ks r && alternatives_test table follows o ks alternatives))

abbrev entry_test : List Entry → List (List ℕ) → List ℕ → Entry → Bool
entry_test table follows ks (entry n a alternatives) = alternatives_test table follows (is_optional a) ks alternatives

abbrev entries_test : List Entry → List (List ℕ) → List Entry → List (List ℕ) → Bool
entries_test table follows [] fs = true
entries_test table follows (e ∷ es) [] = entry_test table follows [] e && entries_test table follows es []
entries_test table follows (e ∷ es) (f ∷ fs) = entry_test table follows f e && entries_test table follows es fs

abbrev pub table_test : List Entry → List (List ℕ) → Bool
table_test table follows = entries_test table follows table follows

abbrev pub start_test : List Entry → List (List ℕ) → List ℕ → Bool
start_test table follows start = rule_test table follows [] start

mem_append_left : (k : ℕ) (js ks : List ℕ) → mem k js ≡ true → mem k (js ++ ks) ≡ true
mem_append_left k [] ks h = absurd (true≢false (sym h))
mem_append_left k (j ∷ js) ks h = by (eqb k j) h (λ l. mem_append_left k js ks l)
  where
    by : (b : Bool) → (b || mem k js) ≡ true → (mem k js ≡ true → mem k (js ++ ks) ≡ true) → (b || mem k (js ++ ks)) ≡ true
    by true l rec = refl
    by false l rec = rec l

mem_append_right : (k : ℕ) (js ks : List ℕ) → mem k ks ≡ true → mem k (js ++ ks) ≡ true
mem_append_right k [] ks h = h
mem_append_right k (j ∷ js) ks h = or_right (eqb k j) (mem_append_right k js ks h)

subset-mem : (k : ℕ) (js ks : List ℕ) → subset js ks ≡ true → mem k js ≡ true → mem k ks ≡ true
subset-mem k [] ks s h = absurd (true≢false (sym h))
subset-mem k (j ∷ js) ks s h =
    let (p, q) = and_both (mem j ks) (subset js ks) s in
    by (eqb k j) refl p h (λ l. subset-mem k js ks q l)
  where
    by : (b : Bool) → eqb k j ≡ b → mem j ks ≡ true → (b || mem k js) ≡ true → (mem k js ≡ true → mem k ks ≡ true) → mem k ks ≡ true
    by true e p l rec = rw (eqb-true k j e) p
    by false e p l rec = rec l

pick-mem : (alternatives : List Alternative) (k : ℕ) → is_goes (pick alternatives k) ≡ true → mem k (kinds alternatives) ≡ true
pick-mem [] k h = absurd (true≢false (sym h))
pick-mem ((j ⟶ r) ∷ alternatives) k h = by (eqb k j) h (λ l. pick-mem alternatives k l)
  where
    by : (b : Bool) → is_goes (cond b (goes r) (pick alternatives k)) ≡ true → (is_goes (pick alternatives k) ≡ true → mem k (kinds alternatives) ≡ true)
        → (b || mem k (kinds alternatives)) ≡ true
    by true l rec = refl
    by false l rec = rec l

module _ (spellings : List (List ℕ)) (table : List Entry) (follows : List (List ℕ)) where
  starts-firsts : (ns : List ℕ) (k : ℕ) → starts (grammar_of spellings table) ns k ≡ true → mem k (firsts table ns) ≡ true
  starts-firsts [] k h = absurd (true≢false (sym h))
  starts-firsts (n ∷ ns) k h =
      by (is_goes (pick (alternatives_of (get_or table n nowhere)) k)) refl (is_optional (absence_of (get_or table n nowhere))) h (λ l. starts-firsts ns k l)
    where
      by : (a : Bool) → is_goes (pick (alternatives_of (get_or table n nowhere)) k) ≡ a → (b : Bool) → (a || (b && starts (grammar_of spellings table) ns k)) ≡ true
          → (starts (grammar_of spellings table) ns k ≡ true → mem k (firsts table ns) ≡ true)
          → mem k (kinds (alternatives_of (get_or table n nowhere)) ++ cond b (firsts table ns) []) ≡ true
      by true e b l rec = mem_append_left k (kinds (alternatives_of (get_or table n nowhere))) (cond b (firsts table ns) []) (pick-mem (alternatives_of (get_or table n nowhere)) k e)
      by false e true l rec = mem_append_right k (kinds (alternatives_of (get_or table n nowhere))) (firsts table ns) (rec l)
      by false e false l rec = absurd (true≢false (sym l))

  optionals-all : (ns : List ℕ) → all_optional (grammar_of spellings table) ns ≡ optionals table ns
  optionals-all [] = refl
  optionals-all (n ∷ ns) = ap (λ (b : Bool). is_optional (absence_of (get_or table n nowhere)) && b) (optionals-all ns)

  cond_true : (a b : Bool) → cond a b true ≡ true → a ≡ true → b ≡ true
  cond_true true b h p = h
  cond_true false b h p = absurd (true≢false (sym p))

  rule-inside : (n : ℕ) (ks : List ℕ) → get_or follows n [] ≡ ks → (r : List ℕ) → rule_test table follows ks r ≡ true → Inside (grammar_of spellings table) (follow_in follows) n r
  rule-inside n ks q [] h = tt
  rule-inside n ks q (m ∷ r) h =
      let (a, b) = and_both (subset (firsts table r) (get_or follows m [])) (cond (optionals table r) (subset ks (get_or follows m [])) true && rule_test table follows ks r) h in
      let (c, d) = and_both (cond (optionals table r) (subset ks (get_or follows m [])) true) (rule_test table follows ks r) b in (
        λ k s. subset-mem k (firsts table r) (get_or follows m []) a (starts-firsts r k s),
        λ k o s. subset-mem k ks (get_or follows m []) (cond_true (optionals table r) (subset ks (get_or follows m [])) c (sym (optionals-all r) ∙ o)) (rw q at s),
        rule-inside n ks q r d,
      )

  pub rule-chain : (r : List ℕ) → rule_test table follows [] r ≡ true → Chain (grammar_of spellings table) (follow_in follows) r
  rule-chain [] h = tt
  rule-chain (m ∷ r) h =
      let (a, b) = and_both (subset (firsts table r) (get_or follows m [])) (cond (optionals table r) true true && rule_test table follows [] r) h in
      let (c, d) = and_both (cond (optionals table r) true true) (rule_test table follows [] r) b in
      (λ k s. subset-mem k (firsts table r) (get_or follows m []) a (starts-firsts r k s), rule-chain r d)

  -- what the test of an entry says
  pick-inside : (n : ℕ) (o : Bool) (ks : List ℕ) → get_or follows n [] ≡ ks → (alternatives : List Alternative) → alternatives_test table follows o ks alternatives ≡ true
      → (k : ℕ) (r : List ℕ) → pick alternatives k ≡ goes r → Inside (grammar_of spellings table) (follow_in follows) n r
  pick-inside n o ks q [] h k r p = let z : ◌≡◌ {A = ℕ} 0 1 = cc in absurd (omega arith)
  pick-inside n o ks q ((j ⟶ s) ∷ alternatives) h k r p =
      let (a, b) = and_both (not (eqb 2 j)) (not (o && mem j ks) && (rule_test table follows ks s && alternatives_test table follows o ks alternatives)) h in
      let (c, d) = and_both (not (o && mem j ks)) (rule_test table follows ks s && alternatives_test table follows o ks alternatives) b in
      let (e, f) = and_both (rule_test table follows ks s) (alternatives_test table follows o ks alternatives) d in
      by (eqb k j) e p (λ l. pick-inside n o ks q alternatives f k r l)
    where
      by : (b : Bool) → rule_test table follows ks s ≡ true → cond b (goes s) (pick alternatives k) ≡ goes r
          → (pick alternatives k ≡ goes r → Inside (grammar_of spellings table) (follow_in follows) n r) → Inside (grammar_of spellings table) (follow_in follows) n r
      by true e l rec = let x : s ≡ r = cc in rw x at (rule-inside n ks q s e)
      by false e l rec = rec l

  pick-apart : (o : Bool) (ks : List ℕ) (alternatives : List Alternative) → alternatives_test table follows o ks alternatives ≡ true
      → (k : ℕ) → o ≡ true → is_goes (pick alternatives k) ≡ true → mem k ks ≡ true → ⊥
  pick-apart o ks [] h k p g m = true≢false (sym g)
  pick-apart o ks ((j ⟶ s) ∷ alternatives) h k p g m =
      let (a, b) = and_both (not (eqb 2 j)) (not (o && mem j ks) && (rule_test table follows ks s && alternatives_test table follows o ks alternatives)) h in
      let (c, d) = and_both (not (o && mem j ks)) (rule_test table follows ks s && alternatives_test table follows o ks alternatives) b in
      let (e, f) = and_both (rule_test table follows ks s) (alternatives_test table follows o ks alternatives) d in
      by (eqb k j) refl c g (λ l. pick-apart o ks alternatives f k p l m)
    where
      by : (b : Bool) → eqb k j ≡ b → not (o && mem j ks) ≡ true → is_goes (cond b (goes s) (pick alternatives k)) ≡ true
          → (is_goes (pick alternatives k) ≡ true → ⊥) → ⊥
      by true e c l rec = true≢false (sym (rw (p, ← eqb-true k j e, m) refl) ∙ not-true (o && mem j ks) c)
      by false e c l rec = rec l

  pick-unknown : (o : Bool) (ks : List ℕ) (alternatives : List Alternative) → alternatives_test table follows o ks alternatives ≡ true → is_goes (pick alternatives 2) ≡ false
  pick-unknown o ks [] h = refl
  pick-unknown o ks ((j ⟶ s) ∷ alternatives) h =
      let (a, b) = and_both (not (eqb 2 j)) (not (o && mem j ks) && (rule_test table follows ks s && alternatives_test table follows o ks alternatives)) h in
      let (c, d) = and_both (not (o && mem j ks)) (rule_test table follows ks s && alternatives_test table follows o ks alternatives) b in
      let (e, f) = and_both (rule_test table follows ks s) (alternatives_test table follows o ks alternatives) d in
      rw (not-true (eqb 2 j) a) (pick-unknown o ks alternatives f)

  -- each entry is tested
  entry_at : (es : List Entry) (fs : List (List ℕ)) → entries_test table follows es fs ≡ true → (n : ℕ) → entry_test table follows (get_or fs n []) (get_or es n nowhere) ≡ true
  entry_at [] fs h n = refl
  entry_at (e ∷ es) [] h zero = (and_both (entry_test table follows [] e) (entries_test table follows es []) h).0
  entry_at (e ∷ es) [] h (suc n) = entry_at es [] (and_both (entry_test table follows [] e) (entries_test table follows es []) h).1 n
  entry_at (e ∷ es) (f ∷ fs) h zero = (and_both (entry_test table follows f e) (entries_test table follows es fs) h).0
  entry_at (e ∷ es) (f ∷ fs) h (suc n) = entry_at es fs (and_both (entry_test table follows f e) (entries_test table follows es fs) h).1 n

  opened : (ks : List ℕ) (e : Entry) → entry_test table follows ks e ≡ true → alternatives_test table follows (is_optional (absence_of e)) ks (alternatives_of e) ≡ true
  opened ks (entry n a alternatives) h = h

  pub fine_table : table_test table follows ≡ true → Fine (grammar_of spellings table) (follow_in follows)
  fine_table h =
      let each : (n : ℕ) → alternatives_test table follows (is_optional (absence_of (get_or table n nowhere))) (get_or follows n []) (alternatives_of (get_or table n nowhere)) ≡ true =
      λ n. opened (get_or follows n []) (get_or table n nowhere) (entry_at table follows h n) in
      record {
        apart = λ n k. pick-apart (is_optional (absence_of (get_or table n nowhere))) (get_or follows n []) (alternatives_of (get_or table n nowhere)) (each n) k;
        inside = λ n k r. pick-inside n (is_optional (absence_of (get_or table n nowhere))) (get_or follows n []) refl (alternatives_of (get_or table n nowhere)) (each n) k r;
        unknown = λ n. pick-unknown (is_optional (absence_of (get_or table n nowhere))) (get_or follows n []) (alternatives_of (get_or table n nowhere)) (each n);
      }

-- the tokens of symbols, by the reader itself
abbrev tokens_read : Grammar → List (List ℕ) → Fed → Bool
tokens_read g [] dead = false
tokens_read g [] (fed ns es) = is_ended (finish g ns)
tokens_read g (w ∷ ts) dead = false
tokens_read g (w ∷ ts) (fed ns es) = tokens_read g ts (feed g ns (kind_of g.spellings w))

tokens_derived : (g : Grammar) (ts : List (List ℕ)) (ns : List ℕ) (es : List Event) → tokens_read g ts (fed ns es) ≡ true → (fs : List Event) × Derives g ns ts fs
tokens_derived g [] ns es h = by (finish g ns) refl h
  where
    by : (e : End) → finish g ns ≡ e → is_ended e ≡ true → (fs : List Event) × Derives g ns [] fs
    by short q l = absurd (true≢false (sym l))
    by (ended fs) q l = (fs, end_sound g ns q)
tokens_derived g (w ∷ ts) ns es h = by (feed g ns (kind_of g.spellings w)) refl h (λ m a l. tokens_derived g ts m a l)
  where
    none : (ts : List (List ℕ)) → tokens_read g ts dead ≡ true → ⊥
    none [] l = true≢false (sym l)
    none (v ∷ vs) l = true≢false (sym l)

    by : (f : Fed) → feed g ns (kind_of g.spellings w) ≡ f → tokens_read g ts f ≡ true
        → ((m : List ℕ) (a : List Event) → tokens_read g ts (fed m a) ≡ true → (fs : List Event) × Derives g m ts fs) → (fs : List Event) × Derives g ns (w ∷ ts) fs
    by dead q l rec = absurd (none ts l)
    by (fed m a) q l rec = let (fs, d) = rec m a l in (a ++ (said w ++ fs), sound g ns w q d)

-- examples, from symbol n on
abbrev pub examples_test : Grammar → ℕ → List Entry → List (List (List ℕ)) → Bool
examples_test g n [] [] = true
examples_test g n [] (x ∷ xs) = false
examples_test g n (e ∷ es) [] = false
examples_test g n (e ∷ es) (x ∷ xs) = all_hold x && (tokens_read g x (fed (n ∷ []) []) && examples_test g (suc n) es xs)

module _ (spellings : List (List ℕ)) (table : List Entry) where
  Example : ℕ → List (List ℕ) → Type 0
  Example n x = (all_hold x ≡ true) × ((fs : List Event) × Derives (grammar_of spellings table) (n ∷ []) x fs)

  example_at : (es : List Entry) (xs : List (List (List ℕ))) (m : ℕ) → examples_test (grammar_of spellings table) m es xs ≡ true
      → (i : ℕ) → i < length es → Example (m + i) (get_or xs i [])
  unfolding Example
  example_at [] xs m h i l = absurd (omega arith)
  example_at (e ∷ es) [] m h i l = absurd (true≢false (sym h))
  example_at (e ∷ es) (x ∷ xs) m h zero l =
      let (a, b) = and_both (all_hold x) (tokens_read (grammar_of spellings table) x (fed (m ∷ []) []) && examples_test (grammar_of spellings table) (suc m) es xs) h in
      let (c, d) = and_both (tokens_read (grammar_of spellings table) x (fed (m ∷ []) [])) (examples_test (grammar_of spellings table) (suc m) es xs) b in
      let z : m + 0 ≡ m = omega arith in
      rw z (a, tokens_derived (grammar_of spellings table) x (m ∷ []) [] c)
  example_at (e ∷ es) (x ∷ xs) m h (suc i) l =
      let (a, b) = and_both (all_hold x) (tokens_read (grammar_of spellings table) x (fed (m ∷ []) []) && examples_test (grammar_of spellings table) (suc m) es xs) h in
      let (c, d) = and_both (tokens_read (grammar_of spellings table) x (fed (m ∷ []) [])) (examples_test (grammar_of spellings table) (suc m) es xs) b in
      let z : m + suc i ≡ suc m + i = omega arith in
      rw z (example_at es xs (suc m) d i (omega arith))

  past : (es : List Entry) (xs : List (List (List ℕ))) (m : ℕ) → examples_test (grammar_of spellings table) m es xs ≡ true → length xs ≤ length es
  past [] [] m h = omega arith
  past [] (x ∷ xs) m h = absurd (true≢false (sym h))
  past (e ∷ es) [] m h = omega arith
  past (e ∷ es) (x ∷ xs) m h =
      let (a, b) = and_both (all_hold x) (tokens_read (grammar_of spellings table) x (fed (m ∷ []) []) && examples_test (grammar_of spellings table) (suc m) es xs) h in
      let (c, d) = and_both (tokens_read (grammar_of spellings table) x (fed (m ∷ []) [])) (examples_test (grammar_of spellings table) (suc m) es xs) b in
      omega (arith, past es xs (suc m) d)

  every : (xs : List (List (List ℕ))) → examples_test (grammar_of spellings table) 0 table xs ≡ true → (n : ℕ) → Example n (get_or xs n [])
  unfolding Example
  every xs h n = by (ltb n (length table)) refl
    where
      by : (b : Bool) → ltb n (length table) ≡ b → Example n (get_or xs n [])
      by true q = let z : 0 + n ≡ n = omega arith in rw z at (example_at table xs 0 h n (ltb-true n (length table) q))
      by false q =
          let l = ltb-false n (length table) q in
          let e : get_or table n nowhere ≡ nowhere = get_or-eq_default table nowhere l in
          let f : get_or xs n [] ≡ [] = get_or-eq_default xs [] (omega (arith, past table xs 0 h)) in
          rw f (refl, ([], skip {n = n} {e = []} (ap absence_of e) done refl))

  pub fruitful_table : (xs : List (List (List ℕ))) → examples_test (grammar_of spellings table) 0 table xs ≡ true
      → spelled (grammar_of spellings table) spellings 3 ≡ true → Fruitful (grammar_of spellings table)
  unfolding Example
  fruitful_table xs h s = record {
    example = λ n. get_or xs n [];
    hold = λ n. (every xs h n).0;
    derived = λ n. (every xs h n).1;
    fixed = s;
  }
