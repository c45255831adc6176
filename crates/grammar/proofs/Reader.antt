-- Reading byte by byte follows the grammar: what completes a state to a sentence, and what a byte takes from it. Assumes nothing.
use mathlib.Core.Path.{◌≡◌, refl, sym, ap, ◌∙◌}
use mathlib.Core.Bool.{Bool, true, false, cond, true≢false}
use mathlib.Core.List.{List, [], ◌∷◌, ◌++◌, append_assoc, append-nil}
use mathlib.Core.Logic.{◌↔◌}
use Prim.Native.Nat.{ℕ}
use native.Mathlib.Omega.{arith}
use Rattle.grammar.specs.Tokens.{class_of, is_blank, joins_first, cut}
use Rattle.grammar.specs.Grammar.{Event, Grammar, kind_of, said, Derives, Sentence}
use Rattle.grammar.specs.Machine.{Fed, dead, fed, feed, End, short, ended, finish, live, possible, State, lost, at, keep, flushed, flush, begin, joins_run, step, run, closing, closed, close, first}
use Rattle.grammar.proofs.Tokens.{Run, one, run-snoc, cut-run, first-token}
use Rattle.grammar.proofs.Derive.{sound, complete, Led, end_sound, end_complete}
use Rattle.grammar.proofs.Follow.{Fine, Chain, chain-clear, chain-feed}
use Rattle.grammar.proofs.Possible.{kind-possible}

-- these texts complete the state to a sentence that says fs
abbrev pub Completes : Grammar → State → List ℕ → List Event → Type 0
Completes g lost t fs = ⊥
Completes g (at w ns es) t fs = (e : List Event) × Derives g ns (cut (w ++ t)) e × (fs ≡ es ++ e)

-- the same of what a token led to
abbrev pub CompletesFed : Grammar → Fed → List ℕ → List Event → Type 0
CompletesFed g dead t fs = ⊥
CompletesFed g (fed ns es) t fs = (e : List Event) × Derives g ns (cut t) e × (fs ≡ es ++ e)

abbrev pub Part : Grammar → List ℕ → List ℕ → Type 0
Part g [] ns = Unit {0}
Part g (x ∷ w) ns = Run (x ∷ w) × (possible g ns (x ∷ w) ≡ true)

abbrev pub Good : Grammar → (ℕ → ℕ → Bool) → State → Type 0
Good g follow lost = Unit {0}
Good g follow (at w ns es) = Part g w ns × Chain g follow ns

abbrev pub GoodFed : Grammar → (ℕ → ℕ → Bool) → Fed → Type 0
GoodFed g follow dead = Unit {0}
GoodFed g follow (fed ns es) = Chain g follow ns

-- what follows joins the token that is being read
abbrev pub joins_on : List ℕ → List ℕ → Bool
joins_on [] t = false
joins_on (x ∷ w) t = joins_first (class_of x) t

fed-live : {f : Fed} {m : List ℕ} {e : List Event} → f ≡ fed m e → live f ≡ true
fed-live p = rw p refl

module _ {g : Grammar} {follow : ℕ → ℕ → Bool} (fine : Fine g follow) where
  -- a part of a token that nothing can complete
  never : (ns : List ℕ) (x : ℕ) (w t : List ℕ) (e : List Event) → Run (x ∷ w) → Chain g follow ns → possible g ns (x ∷ w) ≡ false → Derives g ns (cut ((x ∷ w) ++ t)) e → ⊥
  unfolding Led
  never ns x w t e r c p d =
      let (u, ts, q) = first-token t r in
      let (m, a, b, f, rest, h) = complete (chain-clear fine ns c) (rw q at d) in
      true≢false (sym (kind-possible fine ns x w u (fed-live f)) ∙ p)

  keep-in : (x : ℕ) (w ns : List ℕ) (es : List Event) (t : List ℕ) (fs : List Event) → Run (x ∷ w) → Chain g follow ns
      → Completes g (at (x ∷ w) ns es) t fs → Completes g (keep g (x ∷ w) ns es) t fs
  keep-in x w ns es t fs r c l = by (possible g ns (x ∷ w)) refl
    where
      by : (b : Bool) → possible g ns (x ∷ w) ≡ b → Completes g (cond b (at (x ∷ w) ns es) lost) t fs
      by true p = l
      by false p = never ns x w t l.0 r c p l.1

  keep_out : (w ns : List ℕ) (es : List Event) (t : List ℕ) (fs : List Event) → Completes g (keep g w ns es) t fs → Completes g (at w ns es) t fs
  keep_out w ns es t fs = by (possible g ns w)
    where
      by : (b : Bool) → Completes g (cond b (at w ns es) lost) t fs → Completes g (at w ns es) t fs
      by true l = l
      by false l = absurd l

  keep-good : (x : ℕ) (w ns : List ℕ) (es : List Event) → Run (x ∷ w) → Chain g follow ns → Good g follow (keep g (x ∷ w) ns es)
  keep-good x w ns es r c = by (possible g ns (x ∷ w)) refl
    where
      by : (b : Bool) → possible g ns (x ∷ w) ≡ b → Good g follow (cond b (at (x ∷ w) ns es) lost)
      by true p = ((r, p), c)
      by false p = tt

  -- the token is whole
  flush-in : (w ns : List ℕ) (es : List Event) (t : List ℕ) (fs : List Event) → Part g w ns → Chain g follow ns → joins_on w t ≡ false
      → Completes g (at w ns es) t fs → CompletesFed g (flush g w ns es) t fs
  unfolding Led
  flush-in [] ns es t fs p c j l = l
  flush-in (x ∷ w) ns es t fs p c j l =
      let (m, a, b, f, d, h) = complete (chain-clear fine ns c) (rw (cut-run t p.0 j) at l.1) in
      rw f
      (b, d, l.2 ∙ ap (λ (z : List Event). es ++ z) h ∙ ap (λ (z : List Event). es ++ z) (sym (append_assoc a (said (x ∷ w)) b)) ∙ sym (append_assoc es (a ++ said (x ∷ w)) b))

  flush-out : (w ns : List ℕ) (es : List Event) (t : List ℕ) (fs : List Event) → Part g w ns → joins_on w t ≡ false
      → CompletesFed g (flush g w ns es) t fs → Completes g (at w ns es) t fs
  flush-out [] ns es t fs p j l = l
  flush-out (x ∷ w) ns es t fs p j l = by (feed g ns (kind_of g.spellings (x ∷ w))) refl l
    where
      by : (f : Fed) → feed g ns (kind_of g.spellings (x ∷ w)) ≡ f → CompletesFed g (flushed (x ∷ w) es f) t fs → Completes g (at (x ∷ w) ns es) t fs
      by dead q k = absurd k
      by (fed m a) q k = (
        a ++ (said (x ∷ w) ++ k.0),
        rw (cut-run t p.0 j) (sound g ns (x ∷ w) q k.1),
        k.2 ∙ append_assoc es (a ++ said (x ∷ w)) k.0 ∙ ap (λ (z : List Event). es ++ z) (append_assoc a (said (x ∷ w)) k.0),
      )

  flush-good : (w ns : List ℕ) (es : List Event) → Chain g follow ns → GoodFed g follow (flush g w ns es)
  flush-good [] ns es c = c
  flush-good (x ∷ w) ns es c = by (feed g ns (kind_of g.spellings (x ∷ w))) refl
    where
      by : (f : Fed) → feed g ns (kind_of g.spellings (x ∷ w)) ≡ f → GoodFed g follow (flushed (x ∷ w) es f)
      by dead q = tt
      by (fed m a) q = chain-feed fine ns (kind_of g.spellings (x ∷ w)) c q

  -- the first byte behind it
  begin-in : (b : ℕ) (f : Fed) (t : List ℕ) (fs : List Event) → GoodFed g follow f → CompletesFed g f (b ∷ t) fs → Completes g (begin g b f) t fs
  begin-in b dead t fs c l = l
  begin-in b (fed ns es) t fs c l = by (is_blank (class_of b)) refl l
    where
      by : (z : Bool) → is_blank (class_of b) ≡ z → CompletesFed g (fed ns es) (b ∷ t) fs → Completes g (cond z (at [] ns es) (keep g (b ∷ []) ns es)) t fs
      by true q k = rw q at k
      by false q k = keep-in b [] ns es t fs (one q) c k

  begin-out : (b : ℕ) (f : Fed) (t : List ℕ) (fs : List Event) → Completes g (begin g b f) t fs → CompletesFed g f (b ∷ t) fs
  begin-out b dead t fs l = l
  begin-out b (fed ns es) t fs l = by (is_blank (class_of b)) refl l
    where
      by : (z : Bool) → is_blank (class_of b) ≡ z → Completes g (cond z (at [] ns es) (keep g (b ∷ []) ns es)) t fs → CompletesFed g (fed ns es) (b ∷ t) fs
      by true q k = rw q k
      by false q k = keep_out (b ∷ []) ns es t fs k

  begin-good : (b : ℕ) (f : Fed) → GoodFed g follow f → Good g follow (begin g b f)
  begin-good b dead c = tt
  begin-good b (fed ns es) c = by (is_blank (class_of b)) refl
    where
      by : (z : Bool) → is_blank (class_of b) ≡ z → Good g follow (cond z (at [] ns es) (keep g (b ∷ []) ns es))
      by true q = (tt, c)
      by false q = keep-good b [] ns es (one q) c

  longer : (w : List ℕ) (b : ℕ) (ns : List ℕ) → Part g w ns → joins_run w b ≡ true → (x : ℕ) × (v : List ℕ) × (w ++ (b ∷ []) ≡ x ∷ v) × Run (x ∷ v)
  longer [] b ns p j = absurd (true≢false (sym j))
  longer (x ∷ w) b ns p j = (x, w ++ (b ∷ []), refl, run-snoc b p.0 j)

  apart : (w : List ℕ) (b : ℕ) (t : List ℕ) → joins_run w b ≡ false → joins_on w (b ∷ t) ≡ false
  apart [] b t h = refl
  apart (x ∷ w) b t h = h

  -- a byte: what completes the state to a sentence after it
  pub step_in : (s : State) (b : ℕ) (t : List ℕ) (fs : List Event) → Good g follow s → Completes g s (b ∷ t) fs → Completes g (step g s b) t fs
  step_in lost b t fs o l = l
  step_in (at w ns es) b t fs o l = by (joins_run w b) refl
    where
      by : (z : Bool) → joins_run w b ≡ z → Completes g (cond z (keep g (w ++ (b ∷ [])) ns es) (begin g b (flush g w ns es))) t fs
      by true j =
          let (x, v, q, r) = longer w b ns o.0 j in
          rw q (keep-in x v ns es t fs r o.1 (l.0, rw q at (rw (← append_assoc w (b ∷ []) t) at l.1), l.2))
      by false j =
          begin-in b (flush g w ns es) t fs (flush-good w ns es o.1) (flush-in w ns es (b ∷ t) fs o.0 o.1 (apart w b t j) l)

  pub step-out : (s : State) (b : ℕ) (t : List ℕ) (fs : List Event) → Good g follow s → Completes g (step g s b) t fs → Completes g s (b ∷ t) fs
  step-out lost b t fs o l = l
  step-out (at w ns es) b t fs o l = by (joins_run w b) refl l
    where
      by : (z : Bool) → joins_run w b ≡ z → Completes g (cond z (keep g (w ++ (b ∷ [])) ns es) (begin g b (flush g w ns es))) t fs → Completes g (at w ns es) (b ∷ t) fs
      by true j k =
          let (e, d, h) = keep_out (w ++ (b ∷ [])) ns es t fs k in
          (e, rw (append_assoc w (b ∷ []) t) at d, h)
      by false j k = flush-out w ns es (b ∷ t) fs o.0 (apart w b t j) (begin-out b (flush g w ns es) t fs k)

  pub step-good : (s : State) (b : ℕ) → Good g follow s → Good g follow (step g s b)
  step-good lost b o = tt
  step-good (at w ns es) b o = by (joins_run w b) refl
    where
      by : (z : Bool) → joins_run w b ≡ z → Good g follow (cond z (keep g (w ++ (b ∷ [])) ns es) (begin g b (flush g w ns es)))
      by true j = let (x, v, q, r) = longer w b ns o.0 j in rw q (keep-good x v ns es r o.1)
      by false j = begin-good b (flush g w ns es) (flush-good w ns es o.1)

  pub run-good : (s : State) (t : List ℕ) → Good g follow s → Good g follow (run g s t)
  run-good s [] o = o
  run-good s (b ∷ t) o = run-good (step g s b) t (step-good s b o)

  pub run_in : (s : State) (t q : List ℕ) (fs : List Event) → Good g follow s → Completes g s (t ++ q) fs → Completes g (run g s t) q fs
  run_in s [] q fs o l = l
  run_in s (b ∷ t) q fs o l = run_in (step g s b) t q fs (step-good s b o) (step_in s b (t ++ q) fs o l)

  pub run_out : (s : State) (t q : List ℕ) (fs : List Event) → Good g follow s → Completes g (run g s t) q fs → Completes g s (t ++ q) fs
  run_out s [] q fs o l = l
  run_out s (b ∷ t) q fs o l = step-out s b (t ++ q) fs o (run_out (step g s b) t q fs (step-good s b o) l)

  -- the end of the text
  closed_in : (f : Fed) (fs : List Event) → CompletesFed g f [] fs → closed g f ≡ ended fs
  closed_in dead fs l = absurd l
  closed_in (fed ns es) fs l = rw (end_complete l.1, ← l.2) refl

  closed-out : (f : Fed) (fs : List Event) → closed g f ≡ ended fs → CompletesFed g f [] fs
  closed-out dead fs h = let z : ◌≡◌ {A = ℕ} 0 1 = cc in absurd (omega arith)
  closed-out (fed ns es) fs h = by (finish g ns) refl h
    where
      by : (f : End) → finish g ns ≡ f → closing es f ≡ ended fs → CompletesFed g (fed ns es) [] fs
      by short e q = let z : ◌≡◌ {A = ℕ} 0 1 = cc in absurd (omega arith)
      by (ended a) e q = (a, end_sound g ns e, let p : fs ≡ es ++ a = cc in p)

  whole : (w : List ℕ) → joins_on w [] ≡ false
  whole [] = refl
  whole (x ∷ w) = refl

  pub close-in : (s : State) (fs : List Event) → Good g follow s → Completes g s [] fs → close g s ≡ ended fs
  close-in lost fs o l = absurd l
  close-in (at w ns es) fs o l = closed_in (flush g w ns es) fs (flush-in w ns es [] fs o.0 o.1 (whole w) l)

  pub close-out : (s : State) (fs : List Event) → Good g follow s → close g s ≡ ended fs → Completes g s [] fs
  close-out lost fs o h = let z : ◌≡◌ {A = ℕ} 0 1 = cc in absurd (omega arith)
  close-out (at w ns es) fs o h = flush-out w ns es [] fs o.0 (whole w) (closed-out (flush g w ns es) fs h)

-- the reader accepts exactly the sentences, with what they say
module _ {g : Grammar} {follow : ℕ → ℕ → Bool} (fine : Fine g follow) (start : List ℕ) (begun : Chain g follow start) where
  pub first_good : Good g follow (first start)
  first_good = (tt, begun)

  pub accepts : (t : List ℕ) (fs : List Event) → (close g (run g (first start) t) ≡ ended fs) ↔ Sentence g start t fs
  accepts t fs = (
    λ h. let (e, d, q) = run_out fine (first start) t [] fs first_good (close-out fine (run g (first start) t) fs (run-good fine (first start) t first_good) h) in
        rw (append-nil t, ← q) at d,
    λ d. close-in fine (run g (first start) t) fs (run-good fine (first start) t first_good) (run_in fine (first start) t [] fs first_good (fs, rw (append-nil t) d, refl)),
  )
