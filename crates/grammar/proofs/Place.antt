-- The reader keeps its promises. Assumes nothing.
use mathlib.Core.Path.{◌≡◌, refl, sym, ap, ◌∙◌}
use mathlib.Core.Bool.{Bool, true, false, cond, true≢false}
use mathlib.Core.List.{List, [], ◌∷◌, ◌++◌, append_assoc}
use mathlib.Core.Logic.{◌↔◌}
use Prim.Native.Nat.{ℕ, suc, ◌+◌, ◌≤◌, ◌<◌}
use native.Mathlib.Omega.{arith}
use lib.ListN.{length, take, drop, take-append-drop}
use lib.Dec.{ltb}
use borrow.Author.Tests.{ltb-true, ltb-false}
use lib.Seq.{take-take}
use Rattle.grammar.specs.Grammar.{Event, Grammar, Sentence, Viable}
use Rattle.grammar.specs.Machine.{State, lost, at, is_lost, step, run, first, End, short, ended, close, Outcome, accepted, refused_at, ending, read_from, read_text}
use Rattle.grammar.specs.Statements.{FirstWrong, Promises}
use Rattle.grammar.proofs.Follow.{Fine, Chain}
use Rattle.grammar.proofs.Reader.{accepts}
use Rattle.grammar.proofs.Live.{Fruitful, viable_live, live-viable}

lost-run : (g : Grammar) (t : List ℕ) → run g lost t ≡ lost
lost-run g [] = refl
lost-run g (b ∷ t) = lost-run g t

lost-is : (s : State) → is_lost s ≡ true → s ≡ lost
lost-is lost h = refl
lost-is (at w ns es) h = absurd (true≢false (sym h))

-- an accepted text is one whose last state ends
read-accepted : (g : Grammar) (t : List ℕ) (s : State) (p : ℕ) (es : List Event) → is_lost s ≡ false → (read_from g s p t ≡ accepted es) ↔ (close g (run g s t) ≡ ended es)
read-accepted g [] s p es h = (λ q. by (close g s) q, λ q. rw q refl)
  where
    by : (f : End) → ending p f ≡ accepted es → f ≡ ended es
    by short q = let z : ◌≡◌ {A = ℕ} 0 1 = cc in absurd (omega arith)
    by (ended a) q = cc
read-accepted g (b ∷ t) s p es h = by (is_lost (step g s b)) refl (λ l. read-accepted g t (step g s b) (suc p) es l)
  where
    by : (z : Bool) → is_lost (step g s b) ≡ z
        → (is_lost (step g s b) ≡ false → (read_from g (step g s b) (suc p) t ≡ accepted es) ↔ (close g (run g (step g s b) t) ≡ ended es))
        → (cond z (refused_at p) (read_from g (step g s b) (suc p) t) ≡ accepted es) ↔ (close g (run g (step g s b) t) ≡ ended es)
    by true e rec = (
      λ q. let z : ◌≡◌ {A = ℕ} 0 1 = cc in absurd (omega arith),
      λ q. let l : close g (run g (step g s b) t) ≡ short = rw (lost-is (step g s b) e, lost-run g t) refl in
          let z : ◌≡◌ {A = ℕ} 0 1 = cc in absurd (omega arith),
    )
    by false e rec = rec e

-- at a refusal after k bytes more: the state before that byte is not lost, and the one behind it is; or the text ends there
record Stuck (g : Grammar) (s : State) (t : List ℕ) (k : ℕ) : Type 0 where
  inside : k ≤ length t
  alive : is_lost (run g s (take k t)) ≡ false
  gone : k < length t → is_lost (run g s (take (suc k) t)) ≡ true

read-refused : (g : Grammar) (t : List ℕ) (s : State) (p q : ℕ) → is_lost s ≡ false → read_from g s p t ≡ refused_at q → (k : ℕ) × (q ≡ p + k) × Stuck g s t k
read-refused g [] s p q h r = (0, by (close g s) r, record { inside = omega arith; alive = h; gone = λ l. absurd (omega arith) })
  where
    by : (f : End) → ending p f ≡ refused_at q → q ≡ p + 0
    by short e = let z : p ≡ q = cc in omega arith
    by (ended a) e = let z : ◌≡◌ {A = ℕ} 0 1 = cc in absurd (omega arith)
read-refused g (b ∷ t) s p q h r = by (is_lost (step g s b)) refl r (λ l m. read-refused g t (step g s b) (suc p) q l m)
  where
    by : (z : Bool) → is_lost (step g s b) ≡ z → cond z (refused_at p) (read_from g (step g s b) (suc p) t) ≡ refused_at q
        → (is_lost (step g s b) ≡ false → read_from g (step g s b) (suc p) t ≡ refused_at q → (k : ℕ) × (q ≡ suc p + k) × Stuck g (step g s b) t k)
        → (k : ℕ) × (q ≡ p + k) × Stuck g s (b ∷ t) k
    by true e m rec =
        (0, let z : p ≡ q = cc in omega arith, record { inside = omega arith; alive = h; gone = λ l. e })
    by false e m rec =
        let (k, a, u) = rec e m in
        (suc k, omega arith, record { inside = omega (arith, u.inside); alive = u.alive; gone = λ l. u.gone (omega arith) })

module _ {g : Grammar} {follow : ℕ → ℕ → Bool} (fine : Fine g follow) (fruit : Fruitful g) (start : List ℕ) (begun : Chain g follow start) where
  pub accepted-exactly : (t : List ℕ) (es : List Event) → (read_text g start t ≡ accepted es) ↔ Sentence g start t es
  unfolding read_text
  accepted-exactly t es = (
    λ q. (accepts fine start begun t es).0 ((read-accepted g t (first start) 0 es refl).0 q),
    λ d. (read-accepted g t (first start) 0 es refl).1 ((accepts fine start begun t es).1 d),
  )

  no_outcome : (es : List Event) (p : ℕ) → accepted es ≡ refused_at p → ⊥
  no_outcome es p q = let z : ◌≡◌ {A = ℕ} 0 1 = cc in omega arith

  refused-wrong : (t : List ℕ) (p : ℕ) → read_text g start t ≡ refused_at p → FirstWrong g start t p
  unfolding read_text
  refused-wrong t p q =
      let (k, e, u) = read-refused g t (first start) 0 p refl q in
      let d : k ≡ p = omega arith in
      let v = rw d at u in
      record {
        none = λ es s. no_outcome es p (sym ((accepted-exactly t es).1 s) ∙ q);
        within = v.inside;
        before = live-viable fine fruit start begun (take p t) v.alive;
        behind = λ l s. true≢false (sym (v.gone l) ∙ viable_live fine fruit start begun (take (suc p) t) s);
      }

  -- where part of a text can become a sentence, so can a part of that part
  viable_prefix : (t : List ℕ) (i j : ℕ) → i ≤ j → Viable g start (take j t) → Viable g start (take i t)
  viable_prefix t i j l v = (
    drop i (take j t) ++ v.0,
    v.1,
    rw (← append_assoc (take i t) (drop i (take j t)) v.0, ← take-take i j t l, take-append-drop i (take j t)) v.2,
  )

  same_place : (t : List ℕ) (p q : ℕ) → FirstWrong g start t p → FirstWrong g start t q → p ≤ q
  same_place t p q a b = by (ltb q p) refl
    where
      by : (z : Bool) → ltb q p ≡ z → p ≤ q
      by true h = let l : q < p = ltb-true q p h in absurd (b.behind (omega (arith, a.within)) (viable_prefix t (suc q) p l a.before))
      by false h = ltb-false q p h

  wrong_refused : (t : List ℕ) (p : ℕ) → FirstWrong g start t p → read_text g start t ≡ refused_at p
  wrong_refused t p w = by (read_text g start t) refl
    where
      by : (o : Outcome) → read_text g start t ≡ o → o ≡ refused_at p
      by (accepted es) q = absurd (w.none es ((accepted-exactly t es).0 q))
      by (refused_at q) r =
          let a = same_place t p q w (refused-wrong t q r) in
          let b = same_place t q p (refused-wrong t q r) w in
          let e : q ≡ p = omega arith in
          ap refused_at e

  pub promises : Promises g start
  promises = record { accepts = accepted-exactly; refuses = λ t p. (refused-wrong t p, wrong_refused t p) }
