-- The symbols to come, as the code holds them. Assumes nothing.
use mathlib.Core.Path.{◌≡◌, refl, sym, ap, ◌∙◌}
use mathlib.Core.Bool.{Bool, true, false, not, true≢false}
use mathlib.Core.List.{List, [], ◌∷◌, ◌++◌}
use Prim.Native.Nat.{ℕ, zero, suc, ◌+◌, ◌-◌, ◌≤◌, ◌<◌}
use native.Mathlib.Omega.{arith}
use lib.Dec.{eqb}
use lib.ListN.{length, get_or, set, drop}
use lib.Seq.{get_or-set_same, get_or-set_other, drop-cons, drop-length}
use borrow.Author.Tests.{ne_eqb}
use Rattle.grammar.specs.Grammar.{Event, Rest, stop, goes, Absence, required, optional, Grammar}
use Rattle.grammar.specs.Machine.{dead, fed, feed_by, feed, live, End, short, ended, is_ended, finish_by, finish}
use Rattle.grammar.specs.Prototype.{prototype, types}
use Rattle.reading.specs.Productions.{productions}
use Rattle.reading.specs.Coded.{rest_at, absent_code, may_lack, counted}
use Rattle.std.specs.Prelude.{Option, None, Some, SomeIff, is_some}
use Rattle.reading.specs.Code.{tops, takes_by, takes, LeadsTo}

nonzero_rest : (p : ℕ) → (p ≡ 0 → ⊥) → rest_at p ≡ goes (get_or productions (p - 1) [])
unfolding rest_at
nonzero_rest zero h = absurd (h refl)
nonzero_rest (suc p) h = let z : p ≡ suc p - 1 = omega arith in ap (λ (x : ℕ). goes (get_or productions x [])) z

zero_rest : (p : ℕ) → p ≡ 0 → rest_at p ≡ stop
unfolding rest_at
zero_rest p h = ap rest_at h

is-optional : (a : Absence) → may_lack a ≡ true → (e : List Event) × (a ≡ optional e)
is-optional required h = absurd (true≢false (sym h))
is-optional (optional e) h = (e, refl)

is-required : (a : Absence) → may_lack a ≡ false → a ≡ required
is-required required h = refl
is-required (optional e) h = absurd (true≢false h)

-- what the tables' entries say
pub counted-sub : (x : ℕ) (o : Option ℕ) → SomeIff o (1 ≤ x) (x - 1) → counted o ≡ x
counted-sub x None h = omega (arith, h)
counted-sub x (Some n) h = omega (arith, h.0, h.1)

pub counted-some : (o : Option ℕ) (b : Bool) → b ≡ is_some o → b ≡ true → counted o ≡ 0 → ⊥
counted-some None b e h z = true≢false (sym h ∙ e)
counted-some (Some n) b e h z = omega arith

pub counted-none : (o : Option ℕ) (b : Bool) → b ≡ is_some o → b ≡ false → counted o ≡ 0
counted-none None b e h = refl
counted-none (Some n) b e h = absurd (true≢false (sym e ∙ h))

pub counted-test : (o : Option ℕ) → is_some o ≡ not (eqb (counted o) 0)
counted-test None = refl
counted-test (Some n) = sym (ap not (ne_eqb (suc n) 0 (λ q. omega arith)))

pub may-code : (a : Absence) (x : ℕ) → x ≡ absent_code a → not (eqb x 0) ≡ may_lack a
may-code required x h = rw h refl
may-code (optional e) x h = rw h refl

pub may-past : (a : Absence) → 1 ≡ absent_code a → true ≡ may_lack a
may-past required h = absurd (omega arith)
may-past (optional e) h = refl

module _ (g : Grammar) (a : List ℕ) (k : ℕ) where
  -- the symbol on top takes the token
  pub takes-here : (d p : ℕ) → 0 < d → g.rule (get_or a (d - 1) 0) k ≡ rest_at p → (p ≡ 0 → ⊥) → takes g a d k ≡ d
  unfolding takes
  takes-here zero p l r h = absurd (omega arith)
  takes-here (suc d) p l r h =
      let z : suc d - 1 ≡ d = omega arith in
      let q : g.rule (get_or a d 0) k ≡ goes (get_or productions (p - 1) []) = rw z at (r ∙ nonzero_rest p h) in
      rw q refl

  pub takes_none : (d p : ℕ) (x : Bool) → 0 < d → g.rule (get_or a (d - 1) 0) k ≡ rest_at p → p ≡ 0 → x ≡ may_lack (g.absent (get_or a (d - 1) 0)) → x ≡ false → takes g a d k ≡ 0
  unfolding takes
  takes_none zero p x l r h m n = absurd (omega arith)
  takes_none (suc d) p x l r h m n =
      let z : suc d - 1 ≡ d = omega arith in
      let q : g.rule (get_or a d 0) k ≡ stop = rw z at (r ∙ zero_rest p h) in
      let o : g.absent (get_or a d 0) ≡ required = rw z at (is-required (g.absent (get_or a (suc d - 1) 0)) (sym m ∙ n)) in
      rw (q, o) refl

  pub takes-below : (d p : ℕ) (x : Bool) → 0 < d → g.rule (get_or a (d - 1) 0) k ≡ rest_at p → p ≡ 0 → x ≡ may_lack (g.absent (get_or a (d - 1) 0)) → x ≡ true → takes g a d k ≡ takes g a (d - 1) k
  unfolding takes
  takes-below zero p x l r h m n = absurd (omega arith)
  takes-below (suc d) p x l r h m n =
      let z : suc d - 1 ≡ d = omega arith in
      let q : g.rule (get_or a d 0) k ≡ stop = rw z at (r ∙ zero_rest p h) in
      let y : x ≡ may_lack (g.absent (get_or a d 0)) = rw z at m in
      by q (is-optional (g.absent (get_or a d 0)) (sym y ∙ n))
    where
      by : g.rule (get_or a d 0) k ≡ stop → (e : List Event) × (g.absent (get_or a d 0) ≡ optional e) → takes g a (suc d) k ≡ takes g a (suc d - 1) k
      by q o = let z : suc d - 1 ≡ d = omega arith in rw (q, o.1, z) refl

  pub takes-end : takes g a 0 k ≡ 0
  unfolding takes
  takes-end = refl

  -- and what the symbols then are
  Took : ℕ → ℕ → Type 0
  Took t d = (i : ℕ) × (r : List ℕ) × (e : List Event) × (t ≡ suc i) × (g.rule (get_or a i 0) k ≡ goes r) × (feed g (tops a d) k ≡ fed (r ++ tops a i) e)

  none-taken : (d : ℕ) → takes g a d k ≡ 0 → feed g (tops a d) k ≡ dead
  unfolding takes
  none-taken zero h = refl
  none-taken (suc d) h = by (g.rule (get_or a d 0) k) (g.absent (get_or a d 0)) h (λ l. none-taken d l)
    where
      by : (r : Rest) (x : Absence) → takes_by r x (suc d) (takes g a d k) ≡ 0 → (takes g a d k ≡ 0 → feed g (tops a d) k ≡ dead) → feed_by r x (tops a d) (feed g (tops a d) k) ≡ dead
      by (goes r) x l rec = absurd (omega arith)
      by stop required l rec = refl
      by stop (optional e) l rec = rw (rec l) refl

  some-taken : (d t : ℕ) → takes g a d k ≡ t → 0 < t → Took t d
  unfolding takes Took
  some-taken zero t h l = absurd (omega arith)
  some-taken (suc d) t h l = by (g.rule (get_or a d 0) k) refl (g.absent (get_or a d 0)) refl h (λ q. some-taken d t q l)
    where
      by : (r : Rest) → g.rule (get_or a d 0) k ≡ r → (x : Absence) → g.absent (get_or a d 0) ≡ x → takes_by r x (suc d) (takes g a d k) ≡ t → (takes g a d k ≡ t → Took t d) → Took t (suc d)
      by (goes r) er x ex q rec = (d, r, [], sym q, er, rw er refl)
      by stop er required ex q rec = absurd (omega arith)
      by stop er (optional e) ex q rec =
          let (i, r, f, u, v, w) = rec q in
          (i, r, e ++ f, u, v, rw (er, ex, w) refl)

  pub fits-live : (d t : ℕ) → takes g a d k ≡ t → not (eqb t 0) ≡ live (feed g (tops a d) k)
  unfolding Took
  fits-live d zero h = rw (none-taken d h) refl
  fits-live d (suc t) h = let (i, r, e, u, v, w) = some-taken d (suc t) h (omega arith) in rw (ne_eqb (suc t) 0 (λ q. omega arith), w) refl

  pub leads_nowhere : (d t : ℕ) (b : List ℕ) (e : ℕ) → t ≡ takes g a d k → t ≡ 0 → LeadsTo (feed g (tops a d) k) false b e
  leads_nowhere d t b e h z = rw (none-taken d (sym h ∙ z)) refl

  stop≢goes : (r : List ℕ) → stop ≡ goes r → ⊥
  stop≢goes r h = let z : ◌≡◌ {A = ℕ} 0 1 = cc in omega arith

  -- the symbol that takes the token has an alternative for it
  pub taken-rule : (d t p : ℕ) → t ≡ takes g a d k → (t ≡ 0 → ⊥) → g.rule (get_or a (t - 1) 0) k ≡ rest_at p → p ≡ 0 → ⊥
  unfolding Took
  taken-rule d t p h n q z =
      let (i, r, e, u, v, w) = some-taken d t (sym h) (omega arith) in
      let y : t - 1 ≡ i = omega arith in
      stop≢goes r (sym (zero_rest p z) ∙ sym q ∙ ap (λ (x : ℕ). g.rule (get_or a x 0) k) y ∙ v)

  goes_same : (r s : List ℕ) → goes r ≡ goes s → r ≡ s
  goes_same r s h = cc

  pub leads_on : (d t p r : ℕ) (b : List ℕ) → t ≡ takes g a d k → (t ≡ 0 → ⊥) → g.rule (get_or a (t - 1) 0) k ≡ rest_at p → (p ≡ 0 → ⊥)
      → tops b r ≡ get_or productions (p - 1) [] ++ tops a (t - 1) → LeadsTo (feed g (tops a d) k) true b r
  unfolding Took
  leads_on d t p r b h n q m s =
      let (i, v, e, u, x, w) = some-taken d t (sym h) (omega arith) in
      let y : t - 1 ≡ i = omega arith in
      let j : get_or productions (p - 1) [] ≡ v = goes_same _ _ (sym (nonzero_rest p m) ∙ sym q ∙ ap (λ (o : ℕ). g.rule (get_or a o 0) k) y ∙ x) in
      rw w (refl, rw (j, y) at s)

  -- symbols that may all be left out
  pub ends-none : (d : ℕ) (x : Bool) → 0 < d → x ≡ may_lack (g.absent (get_or a (d - 1) 0)) → x ≡ false → is_ended (finish g (tops a d)) ≡ false
  ends-none zero x l m n = absurd (omega arith)
  ends-none (suc d) x l m n =
      let z : suc d - 1 ≡ d = omega arith in
      let o : g.absent (get_or a d 0) ≡ required = rw z at (is-required (g.absent (get_or a (suc d - 1) 0)) (sym m ∙ n)) in
      rw o refl

  pub ends-below : (d : ℕ) (x : Bool) → 0 < d → x ≡ may_lack (g.absent (get_or a (d - 1) 0)) → x ≡ true → is_ended (finish g (tops a d)) ≡ is_ended (finish g (tops a (d - 1)))
  ends-below zero x l m n = absurd (omega arith)
  ends-below (suc d) x l m n =
      let z : suc d - 1 ≡ d = omega arith in
      let y : x ≡ may_lack (g.absent (get_or a d 0)) = rw z at m in
      go (is-optional (g.absent (get_or a d 0)) (sym y ∙ n))
    where
      by : (e : List Event) (f : End) → is_ended (finish_by (optional e) f) ≡ is_ended f
      by e short = refl
      by e (ended es) = refl

      go : (e : List Event) × (g.absent (get_or a d 0) ≡ optional e) → is_ended (finish g (tops a (suc d))) ≡ is_ended (finish g (tops a (suc d - 1)))
      go o = let z : suc d - 1 ≡ d = omega arith in rw (o.1, z) (by o.0 (finish g (tops a d)))

  pub takes-done : (d depth : ℕ) → takes g a d k ≡ takes g a depth k → d ≡ 0 → 0 ≡ takes g a depth k
  takes-done d depth h z = sym (takes-end) ∙ ap (λ (x : ℕ). takes g a x k) (sym z) ∙ h

  pub ends-done : (d depth : ℕ) → is_ended (finish g (tops a d)) ≡ is_ended (finish g (tops a depth)) → d ≡ 0 → true ≡ is_ended (finish g (tops a depth))
  ends-done d depth h z = ap (λ (x : ℕ). is_ended (finish g (tops a x))) (sym z) ∙ h

-- symbols stored above others
pub tops-set : (a : List ℕ) (i x d : ℕ) → d ≤ i → tops (set a i x) d ≡ tops a d
tops-set a i x zero l = refl
tops-set a i x (suc d) l =
    let p = get_or-set_other a i d x 0 (λ e. omega arith) in
    let q = tops-set a i x d (omega arith) in
    cc

pub pushed : (a a₀ : List ℕ) (d j x at : ℕ) (r : List ℕ) → d < length a → 0 < j → j ≤ length r → x ≡ get_or r (j - 1) 0
    → tops a d ≡ drop j r ++ tops a₀ at → tops (set a d x) (d + 1) ≡ drop (j - 1) r ++ tops a₀ at
pushed a a₀ d j x at r l z m e h =
    let y : d + 1 ≡ suc d = omega arith in
    let w : suc (j - 1) ≡ j = omega arith in
    let p : get_or (set a d x) d 0 ≡ x = get_or-set_same a d x 0 l in
    let q : tops (set a d x) d ≡ tops a d = tops-set a d x d (omega arith) in
    let c : drop (j - 1) r ≡ get_or r (j - 1) 0 ∷ drop j r = drop-cons r (j - 1) 0 (omega arith) ∙ ap (λ (n : ℕ). get_or r (j - 1) 0 ∷ drop n r) w in
    let f : get_or (set a d x) d 0 ∷ tops (set a d x) d ≡ get_or r (j - 1) 0 ∷ (drop j r ++ tops a₀ at) = cc in
    ap (λ (n : ℕ). tops (set a d x) n) y ∙ f ∙ sym (ap (λ (v : List ℕ). v ++ tops a₀ at) c)

pub push_none : (a : List ℕ) (at c : ℕ) (r : List ℕ) → c ≡ length r → tops a at ≡ drop c r ++ tops a at
push_none a at c r h = rw (h, drop-length r) refl

pub push_done : (a a₀ : List ℕ) (d j at : ℕ) (r : List ℕ) → tops a d ≡ drop j r ++ tops a₀ at → j ≡ 0 → tops a d ≡ r ++ tops a₀ at
push_done a a₀ d j at r h z = rw z at h

pub start-stored : (a : List ℕ) → 6 ≤ length a
    → tops (set (set (set (set (set (set a 0 81) 1 79) 2 78) 3 77) 4 75) 5 74) 6 ≡ prototype
start-stored [] l = absurd (omega arith)
start-stored (b ∷ []) l = absurd (omega arith)
start-stored (b ∷ c ∷ []) l = absurd (omega arith)
start-stored (b ∷ c ∷ d ∷ []) l = absurd (omega arith)
start-stored (b ∷ c ∷ d ∷ e ∷ []) l = absurd (omega arith)
start-stored (b ∷ c ∷ d ∷ e ∷ f ∷ []) l = absurd (omega arith)
start-stored (b ∷ c ∷ d ∷ e ∷ f ∷ g ∷ a) l = refl

pub types-stored : (a : List ℕ) → 1 ≤ length a → tops (set a 0 82) 1 ≡ types
types-stored [] l = absurd (omega arith)
types-stored (b ∷ a) l = refl
