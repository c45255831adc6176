-- Numbers in a room follow the numbers without bounds. Assumes nothing.
use mathlib.Core.Path.{◌≡◌, refl, sym, ap, ap₂, ◌∙◌}
use mathlib.Core.Bool.{Bool, true, false, cond, ◌||◌, true≢false}
use mathlib.Core.List.{List, [], ◌∷◌, ◌++◌, append_assoc, append-nil}
use Prim.Native.Nat.{ℕ, suc, ◌+◌, ◌≤◌, ◌<◌}
use native.Mathlib.Omega.{arith}
use borrow.Author.Tests.{lt-ltb, ltb-true}
use lib.Dec.{ltb}
use lib.ListN.{length, take, drop, length-append, take-append-drop}
use lib.Seq.{take-append-le, take-take, take-length, length-take-le}
use Rattle.grammar.specs.Grammar.{Event}
use Rattle.grammar.specs.Grammar as event
use Rattle.grammar.specs.Meaning.{clamped}
use Rattle.collecting.specs.Rows.{Row, basic_row, array_row, group_row, find, Made, intern, tower, members_in, beyond}
use Rattle.collecting.specs.Count.{Hand, Open, State, let_go, used, resulting, alone, step, steps, start, put}
use Rattle.collecting.specs.Count as count
use Rattle.collecting.specs.Bounded.{Grip, code, held, Pending, Store, Kept, add_if, find_if, keep, raise, raise_if, raised, back, mark, take_up, single, giving, move}
use Rattle.collecting.specs.Near.{Fits, Framed, Levels, room, Alike, Used, Near}

-- ---- more rows are not fewer

pub record Longer (a b : List Row) : Type 0 where
  pub later : List Row
  pub is : b ≡ a ++ later

longer-self : (a : List Row) → Longer a a
longer-self a = record { later = []; is = sym (append-nil a) }

longer-on : (a b c : List Row) → Longer a b → Longer b c → Longer a c
longer-on a b c p q = record { later = p.later ++ q.later; is = q.is ∙ ap (λ (l : List Row). l ++ q.later) p.is ∙ append_assoc a p.later q.later }

longer-length : (a b : List Row) → Longer a b → length a ≤ length b
longer-length a b p = omega (arith, ap length p.is, length-append a p.later)

longer-take : (a b : List Row) → Longer a b → (j : ℕ) → j ≤ length a → take j b ≡ take j a
longer-take a b p j h = ap (take j) p.is ∙ take-append-le j a p.later h

pub members-append : (a b : List Row) → members_in (a ++ b) ≡ members_in a + members_in b
unfolding members_in
members-append [] b = omega arith
members-append (r ∷ a) b = omega (arith, members-append a b)

or-true : (a b c d : ℕ) → a ≤ c → b ≤ d → (ltb 64 a || ltb 255 b) ≡ true → (ltb 64 c || ltb 255 d) ≡ true
or-true a b c d p q h = by (ltb 64 a) refl h
  where
    second : ltb 255 b ≡ true → (x : Bool) → (x || ltb 255 d) ≡ true
    second e true = refl
    second e false = lt-ltb 255 d (let z = ltb-true 255 b e in omega (arith, z, q))

    by : (x : Bool) → ltb 64 a ≡ x → (x || ltb 255 b) ≡ true → (ltb 64 c || ltb 255 d) ≡ true
    by true e h = rw (lt-ltb 64 c (let z = ltb-true 64 a e in omega (arith, z, p))) refl
    by false e h = second h (ltb 64 c)

pub beyond-longer : (a b : List Row) → Longer a b → beyond a ≡ true → beyond b ≡ true
unfolding beyond
beyond-longer a b p h =
    or-true (length a) (members_in a) (length b) (members_in b) (longer-length a b p) (omega (arith, ap members_in p.is, members-append a p.later)) h

not_both : (x : Bool) → x ≡ true → x ≡ false → ⊥
not_both x p q = true≢false (sym p ∙ q)

pub within-longer : (a b : List Row) → Longer a b → beyond b ≡ false → beyond a ≡ false
within-longer a b p h = by (beyond a) refl
  where
    by : (x : Bool) → beyond a ≡ x → beyond a ≡ false
    by true e = absurd (not_both (beyond b) (beyond-longer a b p e) h)
    by false e = e

take-longer : (m : ℕ) (a : List Row) → Longer (take m a) a
take-longer m a = record { later = drop m a; is = sym (take-append-drop m a) }

-- ---- completing

pub record Like (m : Made) (b : Kept) : Type 0 where
  pub says : b.over ≡ beyond m.rows
  pub rows : b.over ≡ false → b.rows ≡ m.rows
  pub number : b.over ≡ false → b.number ≡ m.number

added-longer : (b : Bool) (N : List Row) (r : Row) → Longer N (cond b N (N ++ r ∷ []))
added-longer true N r = longer-self N
added-longer false N r = record { later = r ∷ []; is = refl }

pub intern-longer : (N : List Row) (r : Row) → Longer N (intern N r).rows
unfolding intern
intern-longer N r = added-longer (ltb (find N r) (length N)) N r

keep-longer : (over : Bool) (Q : List Row) (r : Row) → Longer Q (keep over Q r).rows
keep-longer true Q r = longer-self Q
keep-longer false Q r = by (ltb (find Q r) (length Q)) (beyond (Q ++ r ∷ []))
  where
    add : (b : Bool) → Longer Q (add_if b Q r (find Q r)).rows
    add true = longer-self Q
    add false = record { later = r ∷ []; is = refl }

    by : (b c : Bool) → Longer Q (find_if b Q r (find Q r)).rows
    by true c = longer-self Q
    by false c = add (beyond (Q ++ r ∷ []))

keep-right : (N Q : List Row) (over : Bool) (r q : Row) → over ≡ beyond N → (over ≡ false → Q ≡ N) → (over ≡ false → q ≡ r) → Like (intern N r) (keep over Q q)
unfolding intern
keep-right N Q true r q says same row = record {
  says = sym (beyond-longer N (intern N r).rows (intern-longer N r) (sym says));
  rows = λ h. absurd (true≢false h);
  number = λ h. absurd (true≢false h);
}
keep-right N Q false r q says same row = rw (same refl, row refl) (by (ltb (find N r) (length N)))
  where
    add : (x : Bool) → beyond (N ++ r ∷ []) ≡ x → Like (record { rows = N ++ r ∷ []; number = find N r }) (add_if x N r (find N r))
    add true e = record { says = sym e; rows = λ h. absurd (true≢false h); number = λ h. absurd (true≢false h) }
    add false e = record { says = sym e; rows = λ h. refl; number = λ h. refl }

    by : (b : Bool) → Like (record { rows = cond b N (N ++ r ∷ []); number = find N r }) (find_if b N r (find N r))
    by true = record { says = says; rows = λ h. refl; number = λ h. refl }
    by false = add (beyond (N ++ r ∷ [])) refl

tower-like : (ns : List ℕ) (m : Made) (b : Kept) → Like m b → Like (tower ns m) (raise ns b)
unfolding tower raise
tower-like [] m b l = l
tower-like (n ∷ ns) m b l =
    let p = tower-like ns m b l in
    keep-right (tower ns m).rows (raise ns b).rows (raise ns b).over (array_row (tower ns m).number n) (array_row (raise ns b).number n) p.says p.rows (λ h. ap (λ (k : ℕ). array_row k n) (p.number h))

tower-longer : (ns : List ℕ) (m : Made) → Longer m.rows (tower ns m).rows
unfolding tower
tower-longer [] m = longer-self m.rows
tower-longer (n ∷ ns) m = longer-on m.rows (tower ns m).rows _ (tower-longer ns m) (intern-longer (tower ns m).rows (array_row (tower ns m).number n))

raise-longer : (ns : List ℕ) (b : Kept) → Longer b.rows (raise ns b).rows
unfolding raise
raise-longer [] b = longer-self b.rows
raise-longer (n ∷ ns) b = longer-on b.rows (raise ns b).rows _ (raise-longer ns b) (keep-longer (raise ns b).over (raise ns b).rows (array_row (raise ns b).number n))

raised-like : (ns : List ℕ) (m : Made) (b : Kept) → (64 < length ns → beyond (tower ns m).rows ≡ true) → Like m b → Like (tower ns m) (raised ns b)
raised-like ns m b high l = by (ltb 64 (length ns)) refl
  where
    by : (x : Bool) → ltb 64 (length ns) ≡ x → Like (tower ns m) (raise_if x ns b)
    by true e = record { says = sym (high (ltb-true 64 (length ns) e)); rows = λ h. absurd (true≢false h); number = λ h. absurd (true≢false h) }
    by false e = tower-like ns m b l

raised-longer : (ns : List ℕ) (b : Kept) → Longer b.rows (raised ns b).rows
raised-longer ns b = by (ltb 64 (length ns))
  where
    by : (x : Bool) → Longer b.rows (raise_if x ns b).rows
    by true = longer-self b.rows
    by false = raise-longer ns b

-- over 64 sizes are too many types
abbrev pub High : State → Type 0
High n = 64 < length n.sizes → beyond (tower n.sizes (used n.rows n.hand)).rows ≡ true

-- ---- levels

fits-top : (N Q : List Row) (over : Bool) → over ≡ beyond N → (over ≡ false → Q ≡ N) → Fits N Q (length N) over
fits-top N Q over says same = record { says = says ∙ ap beyond (sym (take-length N)); same = λ h. ap (take (length N)) (same h) }

take-room : (m : ℕ) (N Q : List Row) → m ≤ length N → take m Q ≡ take m N → m ≤ length Q
take-room m N Q h e = omega (arith, length-take-le m N h, ap length e, ap length (take-append-drop m Q), length-append (take m Q) (drop m Q))

levels-fit : (N Q : List Row) (m : ℕ) (over : Bool) (fs : List Open) (gs : List Pending) (P : Bool → Type 0) → Levels N Q m over fs gs P → Fits N Q m over
unfolding Levels
levels-fit N Q m over [] [] P l = l.0
levels-fit N Q m over [] (g ∷ gs) P l = absurd l
levels-fit N Q m over (f ∷ fs) [] P l = absurd l
levels-fit N Q m over (f ∷ fs) (g ∷ gs) P l = l.0

module _ (N Q M R : List Row) where
  fits-as : (m : ℕ) (over : Bool) → m ≤ length N → (take m M ≡ take m N) → (m ≤ length Q → take m R ≡ take m Q) → Fits N Q m over → Fits M R m over
  fits-as m over h p q f = record { says = f.says ∙ ap beyond (sym p); same = λ e. q (take-room m N Q h (f.same e)) ∙ f.same e ∙ sym p }

  levels-as : (m : ℕ) (over : Bool) (fs : List Open) (gs : List Pending) (P : Bool → Type 0) → m ≤ length N → ((j : ℕ) → j ≤ m → take j M ≡ take j N) → ((j : ℕ) → j ≤ m → j ≤ length Q → take j R ≡ take j Q)
      → Levels N Q m over fs gs P → Levels M R m over fs gs P
  unfolding Levels
  levels-as m over [] [] P h p q l = (fits-as m over h (p m (omega arith)) (q m (omega arith)) l.0, l.1)
  levels-as m over [] (g ∷ gs) P h p q l = absurd l
  levels-as m over (f ∷ fs) [] P h p q l = absurd l
  levels-as m over (f ∷ fs) (g ∷ gs) P h p q l =
      let low = l.1.0.low in
      (fits-as m over h (p m (omega arith)) (q m (omega arith)) l.0, (l.1.0, levels-as f.before g.over fs gs P (omega (arith, low, h)) (λ j i. p j (omega (arith, low, i))) (λ j i. q j (omega (arith, low, i))) l.1.1))

levels-grow : (N Q M R : List Row) (m : ℕ) (over : Bool) (fs : List Open) (gs : List Pending) (P : Bool → Type 0) → m ≤ length N → Longer N M → Longer Q R → Levels N Q m over fs gs P → Levels M R m over fs gs P
levels-grow N Q M R m over fs gs P h x y l = levels-as N Q M R m over fs gs P h (λ j i. longer-take N M x j (omega arith)) (λ j i k. longer-take Q R y j k) l

-- ---- the type in hand goes

pub record Clear (N Q : List Row) (over : Bool) (h : Hand) (g : Grip) (fs : List Open) (gs : List Pending) (P : Bool → Type 0) : Type 0 where
  pub says : mark over g ≡ beyond (let_go N h)
  pub rows : mark over g ≡ false → back Q g ≡ let_go N h
  pub levels : Levels (let_go N h) (back Q g) (length (let_go N h)) (mark over g) fs gs P

clear : (N Q : List Row) (over : Bool) (h : Hand) (g : Grip) (fs : List Open) (gs : List Pending) (P : Bool → Type 0)
    → over ≡ beyond N → (over ≡ false → Q ≡ N) → room N h ≤ length N → Alike over h g → Levels N Q (room N h) (mark over g) fs gs P → Clear N Q over h g fs gs P
unfolding Alike
clear N Q over (count.code c) (code d) fs gs P says rows low alike l = record { says = says; rows = rows; levels = l }
clear N Q over (count.code c) (held k m o) fs gs P says rows low alike l = absurd alike
clear N Q over (count.held j n) (code d) fs gs P says rows low alike l = absurd alike
clear N Q over (count.held j n) (held k m true) fs gs P says rows low alike l =
    let f = levels-fit N Q n true fs gs P l in
    record {
      says = f.says;
      rows = λ h. absurd (true≢false h);
      levels = rw (length-take-le n N low) (levels-as N Q (take n N) Q n true fs gs P low (λ i p. take-take i n N p) (λ i p q. refl) l);
    }
clear N Q over (count.held j n) (held k m false) fs gs P says rows low alike l =
    let f = levels-fit N Q n false fs gs P l in
    let e : m ≡ n = alike.1 refl in
    record {
      says = f.says;
      rows = λ h. ap (λ (x : ℕ). take x Q) e ∙ f.same refl;
      levels = rw (length-take-le n N low, e) (levels-as N Q (take n N) (take n Q) n false fs gs P low (λ i p. take-take i n N p) (λ i p q. take-take i n Q p) l);
    }

-- ---- one piece

-- the numbers of the result and the arguments
abbrev Outer : State → Store → Bool → Type 0
Outer n b = Used n.result b.result n.arguments b.arguments

pub near_clear : (n : State) (b : Store) → Near n b → Clear n.rows b.rows b.over n.hand b.hand n.frames b.frames (Outer n b)
near_clear n b e = clear n.rows b.rows b.over n.hand b.hand n.frames b.frames (Outer n b) e.says e.rows e.low e.hand e.levels

alike-code : (over : Bool) (c d : ℕ) → d ≡ c → Alike over (count.code c) (code d)
unfolding Alike
alike-code over c d e = e

alike-held : (over : Bool) (j n k m : ℕ) (o : Bool) → (over ≡ false → k ≡ j) → (o ≡ false → m ≡ n) → Alike over (count.held j n) (held k m o)
unfolding Alike
alike-held over j n k m o p q = (p, q)

levels-done : (N Q : List Row) (m : ℕ) (over : Bool) (P : Bool → Type 0) → Fits N Q m over → P over → Levels N Q m over [] [] P
unfolding Levels
levels-done N Q m over P f p = (f, p)

pub levels-end : (N Q : List Row) (m : ℕ) (over : Bool) (P : Bool → Type 0) → Levels N Q m over [] [] P → P over
unfolding Levels
levels-end N Q m over P l = l.1

levels-more : (N Q : List Row) (m : ℕ) (over : Bool) (f : Open) (g : Pending) (fs : List Open) (gs : List Pending) (P : Bool → Type 0)
    → Fits N Q m over → Framed f g m over → Levels N Q f.before g.over fs gs P → Levels N Q m over (f ∷ fs) (g ∷ gs) P
unfolding Levels
levels-more N Q m over f g fs gs P a b c = (a, (b, c))

levels-first : (N Q : List Row) (m : ℕ) (over : Bool) (f : Open) (g : Pending) (fs : List Open) (gs : List Pending) (P : Bool → Type 0)
    → Levels N Q m over (f ∷ fs) (g ∷ gs) P → Framed f g m over × Levels N Q f.before g.over fs gs P
unfolding Levels
levels-first N Q m over f g fs gs P l = l.1

levels-few : (N Q : List Row) (m : ℕ) (over : Bool) (g : Pending) (gs : List Pending) (P : Bool → Type 0) → Levels N Q m over [] (g ∷ gs) P → ⊥
unfolding Levels
levels-few N Q m over g gs P l = l

levels-many : (N Q : List Row) (m : ℕ) (over : Bool) (f : Open) (fs : List Open) (P : Bool → Type 0) → Levels N Q m over (f ∷ fs) [] P → ⊥
unfolding Levels
levels-many N Q m over f fs P l = l

grip-near : (n : State) (b : Store) → Near n b → (x y c d : ℕ) (v w : Bool) → y ≡ x → d ≡ c → w ≡ v
    → Near (record { rows = let_go n.rows n.hand; result = n.result; arguments = n.arguments; variadic = n.variadic; frames = n.frames; base = x; hand = count.code c; empty = v; sizes = [] })
    (record { rows = back b.rows b.hand; over = mark b.over b.hand; result = b.result; arguments = b.arguments; variadic = b.variadic; frames = b.frames; base = y; hand = code d; empty = w; sizes = [] })
grip-near n b e x y c d v w p q r =
    let z = near_clear n b e in
    record {
      says = z.says;
      rows = z.rows;
      many = e.many;
      low = omega arith;
      hand = alike-code (mark b.over b.hand) c d q;
      levels = z.levels;
      variadic = e.variadic;
      base = p;
      empty = r;
      sizes = refl;
    }

opened-near : (l : ℕ) (u : Bool) (n : State) (b : Store) → Near n b → Near (step l n (event.opened u)) (move l b (event.opened u))
opened-near l u n b e =
    let z = near_clear n b e in
    let N = let_go n.rows n.hand in
    let Q = back b.rows b.hand in
    let over = mark b.over b.hand in
    record {
      says = z.says;
      rows = z.rows;
      many = e.many;
      low = omega arith;
      hand = alike-code over n.base b.base e.base;
      levels = levels-more N Q (length N) over _ _ n.frames b.frames (Outer n b) (fits-top N Q over z.says z.rows)
          (record { union = refl; kept = e.base; members = λ h. refl; low = omega arith; before = λ h. ap length (z.rows h) }) z.levels;
      variadic = e.variadic;
      base = e.base;
      empty = refl;
      sizes = refl;
    }

abbrev framed : State → List Open → State
framed n fs = record { rows = n.rows; result = n.result; arguments = n.arguments; variadic = n.variadic; frames = fs; base = n.base; hand = n.hand; empty = n.empty; sizes = n.sizes }

abbrev stored : Store → List Pending → Store
stored b gs = record { rows = b.rows; over = b.over; result = b.result; arguments = b.arguments; variadic = b.variadic; frames = gs; base = b.base; hand = b.hand; empty = b.empty; sizes = b.sizes }

close-near : (l : ℕ) (n : State) (b : Store) (fs : List Open) (gs : List Pending) → Near (framed n fs) (stored b gs) → Near (step l (framed n fs) event.close) (move l (stored b gs) event.close)
close-near l n b [] [] e = e
close-near l n b [] (g ∷ gs) e = absurd (levels-few _ _ _ _ g gs _ e.levels)
close-near l n b (f ∷ fs) [] e = absurd (levels-many _ _ _ _ f fs _ e.levels)
close-near l n b (f ∷ fs) (g ∷ gs) e =
    let z = near_clear (framed n (f ∷ fs)) (stored b (g ∷ gs)) e in
    let N = let_go n.rows n.hand in
    let Q = back b.rows b.hand in
    let over = mark b.over b.hand in
    let p = levels-first N Q (length N) over f g fs gs (Outer n b) z.levels in
    let k = keep-right N Q over (group_row f.union f.members) (group_row g.union g.members) z.says z.rows (λ h. ap₂ group_row p.0.union (p.0.members h)) in
    let more = intern-longer N (group_row f.union f.members) in
    record {
      says = k.says;
      rows = k.rows;
      many = e.many;
      low = omega (arith, p.0.low, longer-length N _ more);
      hand = alike-held _ _ f.before _ g.before g.over k.number p.0.before;
      levels = levels-grow N Q _ _ f.before g.over fs gs (Outer n b) p.0.low more (keep-longer over Q (group_row g.union g.members)) p.1;
      variadic = e.variadic;
      base = p.0.kept;
      empty = refl;
      sizes = refl;
    }

-- the type in hand is used
take-right : (N Q : List Row) (over : Bool) (h : Hand) (g : Grip) → over ≡ beyond N → (over ≡ false → Q ≡ N) → Alike over h g → Like (used N h) (take_up over Q g)
unfolding Alike
take-right N Q over (count.code c) (code d) says rows alike = keep-right N Q over (basic_row c) (basic_row d) says rows (λ h. ap basic_row alike)
take-right N Q over (count.code c) (held k m o) says rows alike = absurd alike
take-right N Q over (count.held j n) (code d) says rows alike = absurd alike
take-right N Q over (count.held j n) (held k m o) says rows alike = record { says = says; rows = rows; number = alike.0 }

used-longer : (N : List Row) (h : Hand) → Longer N (used N h).rows
used-longer N (count.code c) = intern-longer N (basic_row c)
used-longer N (count.held j n) = longer-self N

take-up_longer : (over : Bool) (Q : List Row) (g : Grip) → Longer Q (take_up over Q g).rows
take-up_longer over Q (code d) = keep-longer over Q (basic_row d)
take-up_longer over Q (held k m o) = longer-self Q

-- where all fits, what was before fits
fits-before : (N Q M : List Row) (m : ℕ) (over now : Bool) → Fits N Q m over → Longer N M → now ≡ beyond M → now ≡ false → over ≡ false
fits-before N Q M m over now f l says h = f.says ∙ within-longer (take m N) M (longer-on (take m N) N M (take-longer m N) l) (sym says ∙ h)

snoc_length : (xs ys : List ℕ) (x y : ℕ) → length ys ≡ length xs → length (ys ++ (y ∷ [])) ≡ length (xs ++ (x ∷ []))
snoc_length xs ys x y e = omega (arith, e, length-append xs (x ∷ []), length-append ys (y ∷ []))

item-near : (l : ℕ) (n : State) (b : Store) (fs : List Open) (gs : List Pending) → High n → Near (framed n fs) (stored b gs) → Near (step l (framed n fs) event.item) (move l (stored b gs) event.item)
item-near l n b [] (g ∷ gs) high e = absurd (levels-few _ _ _ _ g gs _ e.levels)
item-near l n b (f ∷ fs) [] high e = absurd (levels-many _ _ _ _ f fs _ e.levels)
item-near l n b [] [] high e =
    let m = tower n.sizes (used n.rows n.hand) in
    let r = raised b.sizes (take_up b.over b.rows b.hand) in
    let k : Like m r = rw e.sizes (raised-like n.sizes _ _ high (take-right n.rows b.rows b.over n.hand b.hand e.says e.rows e.hand)) in
    let more : Longer n.rows m.rows = longer-on n.rows (used n.rows n.hand).rows m.rows (used-longer n.rows n.hand) (tower-longer n.sizes (used n.rows n.hand)) in
    let f = levels-fit _ _ _ _ [] [] (Outer n b) e.levels in
    let was : r.over ≡ false → mark b.over b.hand ≡ false = λ h. fits-before n.rows b.rows m.rows (room n.rows n.hand) (mark b.over b.hand) r.over f more k.says h in
    let u = levels-end _ _ _ _ (Outer n b) e.levels in
    record {
      says = k.says;
      rows = k.rows;
      many = snoc_length n.arguments b.arguments m.number r.number e.many;
      low = omega arith;
      hand = alike-code r.over n.base b.base e.base;
      levels = levels-done m.rows r.rows (length m.rows) r.over _ (fits-top m.rows r.rows r.over k.says k.rows)
          (record { result = λ h. u.result (was h); arguments = λ h. ap₂ (λ (x : List ℕ) (y : ℕ). x ++ (y ∷ [])) (u.arguments (was h)) (k.number h) });
      variadic = e.variadic;
      base = e.base;
      empty = refl;
      sizes = refl;
    }
item-near l n b (f ∷ fs) (g ∷ gs) high e =
    let m = tower n.sizes (used n.rows n.hand) in
    let t = take_up b.over b.rows b.hand in
    let r = raised b.sizes t in
    let k : Like m r = rw e.sizes (raised-like n.sizes _ _ high (take-right n.rows b.rows b.over n.hand b.hand e.says e.rows e.hand)) in
    let more : Longer n.rows m.rows = longer-on n.rows (used n.rows n.hand).rows m.rows (used-longer n.rows n.hand) (tower-longer n.sizes (used n.rows n.hand)) in
    let later : Longer b.rows r.rows = longer-on b.rows t.rows r.rows (take-up_longer b.over b.rows b.hand) (raised-longer b.sizes t) in
    let fit = levels-fit _ _ _ _ (f ∷ fs) (g ∷ gs) (Outer n b) e.levels in
    let was : r.over ≡ false → mark b.over b.hand ≡ false = λ h. fits-before n.rows b.rows m.rows (room n.rows n.hand) (mark b.over b.hand) r.over fit more k.says h in
    let p = levels-first n.rows b.rows (room n.rows n.hand) (mark b.over b.hand) f g fs gs (Outer n b) e.levels in
    let low : f.before ≤ length n.rows = omega (arith, p.0.low, e.low) in
    record {
      says = k.says;
      rows = k.rows;
      many = e.many;
      low = omega arith;
      hand = alike-code r.over n.base b.base e.base;
      levels = levels-more m.rows r.rows (length m.rows) r.over _ _ fs gs (Outer n b) (fits-top m.rows r.rows r.over k.says k.rows)
          (record {
            union = p.0.union;
            kept = p.0.kept;
            members = λ h. ap₂ (λ (x : List ℕ) (y : ℕ). x ++ (y ∷ [])) (p.0.members (was h)) (k.number h);
            low = omega (arith, low, longer-length n.rows m.rows more);
            before = p.0.before;
          })
          (levels-grow n.rows b.rows m.rows r.rows f.before g.over fs gs (Outer n b) low more later p.1);
      variadic = e.variadic;
      base = e.base;
      empty = refl;
      sizes = refl;
    }

-- the result
giving-right : (v : Bool) (N Q : List Row) (over : Bool) (h : Hand) (g : Grip) (fs : List Open) (gs : List Pending) (P : Bool → Type 0) → over ≡ beyond N → (over ≡ false → Q ≡ N) → Alike over h g → Clear N Q over h g fs gs P
    → Like (resulting v N h) (giving v over Q g)
giving-right true N Q over h g fs gs P says rows alike z = record { says = z.says; rows = z.rows; number = λ e. refl }
giving-right false N Q over h g fs gs P says rows alike z = take-right N Q over h g says rows alike

result-near : (l : ℕ) (n : State) (b : Store) (fs : List Open) (gs : List Pending) → fs ≡ [] → Near (framed n fs) (stored b gs) → Near (step l (framed n fs) event.result) (move l (stored b gs) event.result)
result-near l n b [] (g ∷ gs) q e = absurd (levels-few _ _ _ _ g gs _ e.levels)
result-near l n b (f ∷ fs) gs q e = let y : ◌≡◌ {A = ℕ} (suc (length fs)) 0 = ap length q in absurd (omega (arith, y))
result-near l n b [] [] q e =
    let m = resulting n.empty n.rows n.hand in
    let r = giving b.empty b.over b.rows b.hand in
    let z = near_clear (framed n []) (stored b []) e in
    let k : Like m r = rw e.empty (giving-right n.empty n.rows b.rows b.over n.hand b.hand [] [] (Outer n b) e.says e.rows e.hand z) in
    let f = levels-fit _ _ _ _ [] [] (Outer n b) e.levels in
    let was : r.over ≡ false → mark b.over b.hand ≡ false = λ h. before n.empty b.empty e.empty f h in
    let u = levels-end _ _ _ _ (Outer n b) e.levels in
    record {
      says = k.says;
      rows = k.rows;
      many = e.many;
      low = omega arith;
      hand = alike-code r.over n.base b.base e.base;
      levels = levels-done m.rows r.rows (length m.rows) r.over _ (fits-top m.rows r.rows r.over k.says k.rows)
          (record { result = λ h. k.number h; arguments = λ h. u.arguments (was h) });
      variadic = e.variadic;
      base = e.base;
      empty = refl;
      sizes = refl;
    }
  where
    before : (v w : Bool) → w ≡ v → Fits n.rows b.rows (room n.rows n.hand) (mark b.over b.hand) → (giving w b.over b.rows b.hand).over ≡ false → mark b.over b.hand ≡ false
    before v true p f h = h
    before v false p f h =
        fits-before n.rows b.rows (used n.rows n.hand).rows (room n.rows n.hand) (mark b.over b.hand) (take_up b.over b.rows b.hand).over f (used-longer n.rows n.hand)
        (take-right n.rows b.rows b.over n.hand b.hand e.says e.rows e.hand).says h

single-alone : (N Q : List Row) (m : ℕ) (over : Bool) (fs : List Open) (gs : List Pending) (P : Bool → Type 0) (v w : Bool) → Levels N Q m over fs gs P → w ≡ v → single gs w ≡ alone fs v
unfolding Levels
single-alone N Q m over [] [] P v w l e = refl
single-alone N Q m over [] (g ∷ gs) P v w l e = absurd l
single-alone N Q m over (f ∷ fs) [] P v w l e = absurd l
single-alone N Q m over (f ∷ fs) (g ∷ gs) P v w l e = e

-- a result comes where nothing is open
abbrev pub Ready : State → Event → Type 0
Ready n event.result = n.frames ≡ []
Ready n (event.basic c) = Unit {0}
Ready n event.long = Unit {0}
Ready n event.pointer = Unit {0}
Ready n event.nothing = Unit {0}
Ready n (event.opened u) = Unit {0}
Ready n event.close = Unit {0}
Ready n (event.size k) = Unit {0}
Ready n event.item = High n
Ready n event.variadic = Unit {0}

pub move-near : (l : ℕ) (n : State) (b : Store) (e : Event) → Ready n e → Near n b → Near (step l n e) (move l b e)
move-near l n b (event.basic c) r e = grip-near n b e c c c c false false refl refl refl
move-near l n b event.long r e = grip-near n b e l l l l false false refl refl refl
move-near l n b event.pointer r e = grip-near n b e n.base b.base 15 15 false false e.base refl refl
move-near l n b event.nothing r e = grip-near n b e n.base b.base n.base b.base true true e.base e.base refl
move-near l n b (event.opened u) r e = opened-near l u n b e
move-near l n b event.close r e = close-near l n b n.frames b.frames e
move-near l n b (event.size k) r e = record {
  says = e.says;
  rows = e.rows;
  many = e.many;
  low = e.low;
  hand = e.hand;
  levels = e.levels;
  variadic = e.variadic;
  base = e.base;
  empty = e.empty;
  sizes = ap (λ (x : List ℕ). x ++ (clamped k ∷ [])) e.sizes;
}
move-near l n b event.item r e = item-near l n b n.frames b.frames r e
move-near l n b event.result r e = result-near l n b n.frames b.frames r e
move-near l n b event.variadic r e = record {
  says = e.says;
  rows = e.rows;
  many = e.many;
  low = e.low;
  hand = e.hand;
  levels = e.levels;
  variadic = single-alone _ _ _ _ n.frames b.frames _ n.variadic b.variadic e.levels e.variadic;
  base = e.base;
  empty = e.empty;
  sizes = e.sizes;
}
