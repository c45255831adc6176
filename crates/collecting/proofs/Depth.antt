-- How many groups are open along a sentence: a test of the grammar's table, and what it says of every derivation. Assumes nothing.
use mathlib.Core.Path.{◌≡◌, refl, sym, ap, ◌∙◌, subst}
use mathlib.Core.Bool.{Bool, true, false, cond, ◌&&◌, true≢false}
use mathlib.Core.List.{List, [], ◌∷◌, ◌++◌, append_assoc}
use Prim.Native.Nat.{ℕ, zero, suc, ◌+◌, ◌-◌, ◌≤◌}
use native.Mathlib.Omega.{arith}
use borrow.Author.Tests.{eqb-true, leb-true, le-leb}
use lib.Dec.{eqb, leb}
use lib.ListN.{length, get_or}
use Rattle.grammar.specs.Grammar.{Event, basic, long, pointer, nothing, opened, close, size, item, result, variadic, Rest, stop, goes, Absence, required, optional, Grammar, kind_of, is_number, decimal, said, Derives, done, take, skip}
use Rattle.grammar.specs.Table.{Alternative, ◌⟶◌, Entry, pick, alternatives_of, absence_of, nowhere, grammar_of}

-- groups that are open, or nowhere
pub data End : Type 0 where
  stuck : End
  at : ℕ → End

pub data Way : Type 0 where
  none : Way
  way : ℕ → ℕ → Way

abbrev pub next : Bool → Event → ℕ → End
next q (basic c) k = at k
next q long k = at k
next q pointer k = at k
next q nothing k = at k
next q (opened u) k = at (suc k)
next q close zero = stuck
next q close (suc k) = at k
next q (size n) k = at k
next true item zero = stuck
next true item (suc k) = at (suc k)
next false item k = at k
next q result k = stuck
next q variadic k = at k

abbrev pub next_of : Bool → Event → End → End
next_of q e stuck = stuck
next_of q e (at k) = next q e k

abbrev pub run : Bool → End → List Event → End
run q x [] = x
run q x (e ∷ es) = run q (next_of q e x) es

pub run-stuck : (q : Bool) (es : List Event) → run q stuck es ≡ stuck
run-stuck q [] = refl
run-stuck q (e ∷ es) = run-stuck q es

-- symbols one behind the other
abbrev pub hop : Way → ℕ → End
hop none c = stuck
hop (way x y) c = cond (leb x c) (at (c - x + y)) stuck

abbrev pub hop_of : Way → End → End
hop_of w stuck = stuck
hop_of w (at c) = hop w c

abbrev pub chain : List Way → End → List ℕ → End
chain ways x [] = x
chain ways x (n ∷ ns) = chain ways (hop_of (get_or ways n none) x) ns

chain-stuck : (ways : List Way) (ns : List ℕ) → chain ways stuck ns ≡ stuck
chain-stuck ways [] = refl
chain-stuck ways (n ∷ ns) = chain-stuck ways ns

abbrev is_at : End → ℕ → Bool
is_at stuck k = false
is_at (at j) k = eqb j k

is-at : (x : End) (k : ℕ) → is_at x k ≡ true → x ≡ at k
is-at stuck k h = absurd (true≢false (sym h))
is-at (at j) k h = ap at (eqb-true j k h)

-- ---- the test

abbrev absent_way : Bool → ℕ → ℕ → Absence → Bool
absent_way q x y required = true
absent_way q x y (optional e) = is_at (run q (at x) e) y

abbrev alternatives_way : List Way → ℕ → ℕ → List Alternative → Bool
alternatives_way ways x y [] = true
alternatives_way ways x y ((k ⟶ r) ∷ alternatives) = is_at (chain ways (at x) r) y && alternatives_way ways x y alternatives

abbrev entry_way : Bool → List Way → Way → Entry → Bool
entry_way q ways none e = true
entry_way q ways (way x y) e = absent_way q x y (absence_of e) && alternatives_way ways x y (alternatives_of e)

abbrev pub ways_test : Bool → List Way → List Entry → List Way → Bool
ways_test q ways es [] = true
ways_test q ways [] (w ∷ ws) = false
ways_test q ways (e ∷ es) (w ∷ ws) = entry_way q ways w e && ways_test q ways es ws

-- ---- what it says

clash : {A : Type 0} → true ≡ false → A
clash h = absurd (true≢false h)

both : (a b : Bool) → (a && b) ≡ true → (a ≡ true) × (b ≡ true)
both true b h = (refl, h)
both false b h = clash (sym h)

stuck_at : {A : Type 0} {k : ℕ} → stuck ≡ at k → A
stuck_at h = clash (sym (ap ended h))
  where
    ended : End → Bool
    ended stuck = false
    ended (at k) = true

at_same : {j k : ℕ} → at j ≡ at k → j ≡ k
at_same h = ap place h
  where
    place : End → ℕ
    place stuck = 0
    place (at k) = k

none-way : {A : Type 0} {x y : ℕ} → none ≡ way x y → A
none-way h = clash (sym (ap some h))
  where
    some : Way → Bool
    some none = false
    some (way x y) = true

entry_at : (q : Bool) (ways : List Way) (es : List Entry) (ws : List Way) → ways_test q ways es ws ≡ true → (n : ℕ) (x y : ℕ) → get_or ws n none ≡ way x y → entry_way q ways (way x y) (get_or es n nowhere) ≡ true
entry_at q ways es [] h n x y e = none-way (nil n ∙ e)
  where
    nil : (n : ℕ) → none ≡ get_or {A = Way} [] n none
    nil zero = refl
    nil (suc n) = refl
entry_at q ways [] (w ∷ ws) h n x y e = clash (sym h)
entry_at q ways (a ∷ es) (w ∷ ws) h zero x y e = let p = both (entry_way q ways w a) (ways_test q ways es ws) h in subst (λ (v : Way). entry_way q ways v a ≡ true) e p.0
entry_at q ways (a ∷ es) (w ∷ ws) h (suc n) x y e = let p = both (entry_way q ways w a) (ways_test q ways es ws) h in entry_at q ways es ws p.1 n x y e

alternative_at : (ways : List Way) (x y : ℕ) (alternatives : List Alternative) → alternatives_way ways x y alternatives ≡ true → (k : ℕ) (r : List ℕ) → pick alternatives k ≡ goes r → chain ways (at x) r ≡ at y
alternative_at ways x y [] h k r e = stopped e
  where
    stopped : {A : Type 0} → stop ≡ goes r → A
    stopped h = clash (sym (ap some h))
      where
        some : Rest → Bool
        some stop = false
        some (goes r) = true
alternative_at ways x y ((j ⟶ s) ∷ alternatives) h k r e =
    let p = both (is_at (chain ways (at x) s) y) (alternatives_way ways x y alternatives) h in
    by (eqb k j) e p.0 (alternative_at ways x y alternatives p.1 k r)
  where
    rests : Rest → List ℕ
    rests stop = []
    rests (goes r) = r

    by : (b : Bool) → cond b (goes s) (pick alternatives k) ≡ goes r → is_at (chain ways (at x) s) y ≡ true → (pick alternatives k ≡ goes r → chain ways (at x) r ≡ at y) → chain ways (at x) r ≡ at y
    by true e p rec = ap (chain ways (at x)) (sym (ap rests e)) ∙ is-at (chain ways (at x) s) y p
    by false e p rec = rec e

-- the same with more groups open
next_more : (q : Bool) (e : Event) (k m j : ℕ) → next q e k ≡ at m → next q e (k + j) ≡ at (m + j)
next_more q (basic c) k m j h = ap (λ (i : ℕ). at (i + j)) (at_same h)
next_more q long k m j h = ap (λ (i : ℕ). at (i + j)) (at_same h)
next_more q pointer k m j h = ap (λ (i : ℕ). at (i + j)) (at_same h)
next_more q nothing k m j h = ap (λ (i : ℕ). at (i + j)) (at_same h)
next_more q (opened u) k m j h = ap at (let z = at_same h in omega (arith, z))
next_more q close zero m j h = stuck_at h
next_more q close (suc k) m j h = let z : suc k + j ≡ suc (k + j) = omega arith in rw z (ap (λ (i : ℕ). at (i + j)) (at_same h))
next_more q (size n) k m j h = ap (λ (i : ℕ). at (i + j)) (at_same h)
next_more true item zero m j h = stuck_at h
next_more true item (suc k) m j h = let z : suc k + j ≡ suc (k + j) = omega arith in rw z (ap at (let y = at_same h in omega (arith, y)))
next_more false item k m j h = ap (λ (i : ℕ). at (i + j)) (at_same h)
next_more q result k m j h = stuck_at h
next_more q variadic k m j h = ap (λ (i : ℕ). at (i + j)) (at_same h)

run_more : (q : Bool) (es : List Event) (k m j : ℕ) → run q (at k) es ≡ at m → run q (at (k + j)) es ≡ at (m + j)
run_more q [] k m j h = ap (λ (i : ℕ). at (i + j)) (at_same h)
run_more q (e ∷ es) k m j h = by (next q e k) refl h (λ i z. run_more q es i m j z)
  where
    by : (x : End) → next q e k ≡ x → run q x es ≡ at m → ((i : ℕ) → run q (at i) es ≡ at m → run q (at (i + j)) es ≡ at (m + j)) → run q (next q e (k + j)) es ≡ at (m + j)
    by stuck p h rec = stuck_at (sym (run-stuck q es) ∙ h)
    by (at i) p h rec = rw (next_more q e k i j p) (rec i h)

pub run-append : (q : Bool) (xs ys : List Event) (x : End) → run q x (xs ++ ys) ≡ run q (run q x xs) ys
run-append q [] ys x = refl
run-append q (e ∷ xs) ys x = run-append q xs ys (next_of q e x)

hop-more : (w : Way) (c d j : ℕ) → hop w c ≡ at d → hop w (c + j) ≡ at (d + j)
hop-more none c d j h = stuck_at h
hop-more (way x y) c d j h = by (leb x c) refl h
  where
    by : (b : Bool) → leb x c ≡ b → cond b (at (c - x + y)) stuck ≡ at d → cond (leb x (c + j)) (at (c + j - x + y)) stuck ≡ at (d + j)
    by true p h = let l = leb-true x c p in let z = at_same h in rw (le-leb x (c + j) (omega (arith, l))) (ap at (omega (arith, l, z)))
    by false p h = stuck_at h

chain_more : (ways : List Way) (ns : List ℕ) (c d j : ℕ) → chain ways (at c) ns ≡ at d → chain ways (at (c + j)) ns ≡ at (d + j)
chain_more ways [] c d j h = ap (λ (i : ℕ). at (i + j)) (at_same h)
chain_more ways (n ∷ ns) c d j h = by (hop (get_or ways n none) c) refl h (λ i z. chain_more ways ns i d j z)
  where
    by : (x : End) → hop (get_or ways n none) c ≡ x → chain ways x ns ≡ at d → ((i : ℕ) → chain ways (at i) ns ≡ at d → chain ways (at (i + j)) ns ≡ at (d + j)) → chain ways (hop (get_or ways n none) (c + j)) ns ≡ at (d + j)
    by stuck p h rec = stuck_at (sym (chain-stuck ways ns) ∙ h)
    by (at i) p h rec = rw (hop-more (get_or ways n none) c i j p) (rec i h)

chain-append : (ways : List Way) (ms ns : List ℕ) (x : End) → chain ways x (ms ++ ns) ≡ chain ways (chain ways x ms) ns
chain-append ways [] ns x = refl
chain-append ways (m ∷ ms) ns x = chain-append ways ms ns (hop_of (get_or ways m none) x)

-- the way of a symbol that is taken
pub data Taken (w : Way) (c d : ℕ) : Type 0 where
  taken : (x y : ℕ) → w ≡ way x y → x ≤ c → d ≡ c - x + y → Taken w c d

hop-taken : (w : Way) (c d : ℕ) → hop w c ≡ at d → Taken w c d
hop-taken none c d h = stuck_at h
hop-taken (way x y) c d h = by (leb x c) refl h
  where
    by : (b : Bool) → leb x c ≡ b → cond b (at (c - x + y)) stuck ≡ at d → Taken (way x y) c d
    by true p h = taken x y refl (leb-true x c p) (sym (at_same h))
    by false p h = stuck_at h

-- a token itself opens nothing
run-said : (q : Bool) (w : List ℕ) (k : ℕ) (es : List Event) → run q (at k) (said w ++ es) ≡ run q (at k) es
unfolding said
run-said q w k es = by (is_number w)
  where
    by : (b : Bool) → run q (at k) (cond b (size (decimal 0 w) ∷ []) [] ++ es) ≡ run q (at k) es
    by true = refl
    by false = refl

module _ (q : Bool) (spellings : List (List ℕ)) (table : List Entry) (ways : List Way) (test : ways_test q ways table ways ≡ true) where
  -- what is derived leads as the ways of its symbols
  pub derived-run : {ns : List ℕ} {ts : List (List ℕ)} {es : List Event} → Derives (grammar_of spellings table) ns ts es → (c d : ℕ) → chain ways (at c) ns ≡ at d → run q (at c) es ≡ at d
  derived-run done c d h = h
  derived-run (take {n = n} {ns = ns} {r = r} {w = w} {ts = ts} {es = es} e b p) c d h =
      rw p (run-said q w c es ∙ by (hop (get_or ways n none) c) refl h (λ z. derived-run b c d z))
    where
      by : (x : End) → hop (get_or ways n none) c ≡ x → chain ways x ns ≡ at d → (chain ways (at c) (r ++ ns) ≡ at d → run q (at c) es ≡ at d) → run q (at c) es ≡ at d
      by stuck o h rec = stuck_at (sym (chain-stuck ways ns) ∙ h)
      by (at i) o h rec = go (hop-taken (get_or ways n none) c i o)
        where
          go : Taken (get_or ways n none) c i → run q (at c) es ≡ at d
          go (taken x y t l z) =
              let v = both (absent_way q x y (absence_of (get_or table n nowhere))) (alternatives_way ways x y (alternatives_of (get_or table n nowhere))) (entry_at q ways table ways test n x y t) in
              let m = chain_more ways r x y (c - x) (alternative_at ways x y (alternatives_of (get_or table n nowhere)) v.1 (kind_of spellings w) r e) in
              let a : x + (c - x) ≡ c = omega (arith, l) in
              let f : y + (c - x) ≡ i = omega (arith, l, z) in
              rec (chain-append ways r ns (at c) ∙ ap (λ (s : End). chain ways s ns) (ap (λ (s : ℕ). chain ways (at s) r) (sym a) ∙ m ∙ ap at f) ∙ h)
  derived-run (skip {n = n} {ns = ns} {ts = ts} {e = e} {es = es} a b p) c d h = rw p (by (hop (get_or ways n none) c) refl h (λ i z. derived-run b i d z))
    where
      by : (x : End) → hop (get_or ways n none) c ≡ x → chain ways x ns ≡ at d → ((i : ℕ) → chain ways (at i) ns ≡ at d → run q (at i) es ≡ at d) → run q (at c) (e ++ es) ≡ at d
      by stuck o h rec = stuck_at (sym (chain-stuck ways ns) ∙ h)
      by (at i) o h rec = go (hop-taken (get_or ways n none) c i o)
        where
          go : Taken (get_or ways n none) c i → run q (at c) (e ++ es) ≡ at d
          go (taken x y t l z) =
              let v = both (absent_way q x y (absence_of (get_or table n nowhere))) (alternatives_way ways x y (alternatives_of (get_or table n nowhere))) (entry_at q ways table ways test n x y t) in
              let u : absent_way q x y (optional e) ≡ true = ap (absent_way q x y) (sym a) ∙ v.0 in
              let m = run_more q e x y (c - x) (is-at (run q (at x) e) y u) in
              let k : x + (c - x) ≡ c = omega (arith, l) in
              let f : y + (c - x) ≡ i = omega (arith, l, z) in
              run-append q e es (at c) ∙ ap (λ (s : End). run q s es) (ap (λ (s : ℕ). run q (at s) e) (sym k) ∙ m ∙ ap at f) ∙ rec i h

-- symbols one behind the other, taken apart
pub record Parted (g : Grammar) (ms ns : List ℕ) (es : List Event) : Type 0 where
  pub us : List (List ℕ)
  pub vs : List (List ℕ)
  pub xs : List Event
  pub ys : List Event
  pub one : Derives g ms us xs
  pub other : Derives g ns vs ys
  pub says : es ≡ xs ++ ys

heads : ℕ → List ℕ → ℕ
heads d [] = d
heads d (n ∷ ns) = n

tails : List ℕ → List ℕ
tails [] = []
tails (n ∷ ns) = ns

part_none : {g : Grammar} {l : List ℕ} {ts : List (List ℕ)} {es : List Event} → Derives g l ts es → (ns : List ℕ) → l ≡ ns → Parted g [] ns es
part_none {ts = ts} {es = es} d ns e = record { us = []; vs = ts; xs = []; ys = es; one = done; other = rw e at d; says = refl }

part-done : {g : Grammar} (ms ns : List ℕ) → [] ≡ ms ++ ns → Parted g ms ns []
part-done [] ns e = part_none done ns e
part-done (m ∷ ms) ns e = let z : ◌≡◌ {A = ℕ} 0 (suc (length (ms ++ ns))) = ap length e in absurd (omega (arith, z))

part-take : {g : Grammar} {n : ℕ} {ls : List ℕ} (r w : List ℕ) {ts : List (List ℕ)} {es fs : List Event} → g.rule n (kind_of g.spellings w) ≡ goes r → Derives g (r ++ ls) ts es → fs ≡ said w ++ es
    → (ms ns : List ℕ) → n ∷ ls ≡ ms ++ ns → ((ms ns : List ℕ) → r ++ ls ≡ ms ++ ns → Parted g ms ns es) → Parted g ms ns fs
unfolding heads tails
part-take r w h b q [] ns e rec = part_none (take {r = r} {w = w} h b q) ns e
part-take {g} {n = n} {ls = ls} r w h b q (m ∷ ms) ns e rec =
    let f : ls ≡ ms ++ ns = ap tails e in
    let s : n ≡ m = ap (heads 0) e in
    let p = rec (r ++ ms) ns (ap (λ (x : List ℕ). r ++ x) f ∙ sym (append_assoc r ms ns)) in
    record {
      us = w ∷ p.us;
      vs = p.vs;
      xs = said w ++ p.xs;
      ys = p.ys;
      one = take {r = r} {w = w} (subst (λ (x : ℕ). g.rule x (kind_of g.spellings w) ≡ goes r) s h) p.one refl;
      other = p.other;
      says = q ∙ ap (λ (x : List Event). said w ++ x) p.says ∙ sym (append_assoc (said w) p.xs p.ys);
    }

part-skip : {g : Grammar} {n : ℕ} {ls : List ℕ} {ts : List (List ℕ)} {v es fs : List Event} → g.absent n ≡ optional v → Derives g ls ts es → fs ≡ v ++ es
    → (ms ns : List ℕ) → n ∷ ls ≡ ms ++ ns → ((ms ns : List ℕ) → ls ≡ ms ++ ns → Parted g ms ns es) → Parted g ms ns fs
unfolding heads tails
part-skip h b q [] ns e rec = part_none (skip h b q) ns e
part-skip {g} {n = n} {ls = ls} {v = v} h b q (m ∷ ms) ns e rec =
    let f : ls ≡ ms ++ ns = ap tails e in
    let s : n ≡ m = ap (heads 0) e in
    let p = rec ms ns f in
    record {
      us = p.us;
      vs = p.vs;
      xs = v ++ p.xs;
      ys = p.ys;
      one = skip {e = v} (subst (λ (x : ℕ). g.absent x ≡ optional v) s h) p.one refl;
      other = p.other;
      says = q ∙ ap (λ (x : List Event). v ++ x) p.says ∙ sym (append_assoc v p.xs p.ys);
    }

pub part : {g : Grammar} {l : List ℕ} {ts : List (List ℕ)} {es : List Event} → Derives g l ts es → (ms ns : List ℕ) → l ≡ ms ++ ns → Parted g ms ns es
part done ms ns e = part-done ms ns e
part (take {r = r} {w = w} h b q) ms ns e = part-take r w h b q ms ns e (λ ms ns e. part b ms ns e)
part (skip h b q) ms ns e = part-skip h b q ms ns e (λ ms ns e. part b ms ns e)
