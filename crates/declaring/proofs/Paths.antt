-- Parts of a derivation, put one behind the other. Assumes nothing.
use mathlib.Core.Path.{◌≡◌, refl, sym, ap, ◌∙◌, subst}
use mathlib.Core.List.{List, [], ◌∷◌, ◌++◌, append_assoc}
use Prim.Native.Nat.{ℕ}
use native.Mathlib.Omega.{arith}
use Rattle.grammar.specs.Grammar.{Event, Rest, stop, goes, Absence, required, optional, Grammar, kind_of, said, Derives, take, skip}
use Rattle.grammar.specs.Machine.{Fed, dead, fed}

-- these tokens lead from symbols to symbols, and say this, whatever symbols stand behind
pub record Reads (g : Grammar) (ns : List ℕ) (us : List (List ℕ)) (es : List Event) (ms : List ℕ) : Type 0 where
  pub on : (xs : List ℕ) (ts : List (List ℕ)) (fs : List Event) → Derives g (ms ++ xs) ts fs → Derives g (ns ++ xs) (us ++ ts) (es ++ fs)

module _ {g : Grammar} where
  pub reads_none : (ns : List ℕ) → Reads g ns [] [] ns
  reads_none ns = record { on = λ xs ts fs d. d }

  pub reads-join : {ns ms ls : List ℕ} {us vs : List (List ℕ)} {es fs : List Event} → Reads g ns us es ms → Reads g ms vs fs ls → Reads g ns (us ++ vs) (es ++ fs) ls
  reads-join {ns} {ms} {ls} {us} {vs} {es} {fs} a b = record {
    on = λ xs ts hs d. rw (append_assoc us vs ts, append_assoc es fs hs) (a.on xs (vs ++ ts) (fs ++ hs) (b.on xs ts hs d));
  }

  -- with more symbols behind
  pub reads-behind : (ls : List ℕ) {ns ms : List ℕ} {us : List (List ℕ)} {es : List Event} → Reads g ns us es ms → Reads g (ns ++ ls) us es (ms ++ ls)
  reads-behind ls {ns} {ms} {us} {es} a = record {
    on = λ xs ts fs d. rw (append_assoc ns ls xs) (a.on (ls ++ xs) ts fs (rw (append_assoc ms ls xs) at d));
  }

  -- a token
  pub reads-token : {n : ℕ} {ns r : List ℕ} {w : List ℕ} {e : List Event} (k : ℕ) → kind_of g.spellings w ≡ k → said w ≡ e → g.rule n k ≡ goes r → Reads g (n ∷ ns) (w ∷ []) e (r ++ ns)
  reads-token {n} {ns} {r} {w} {e} k h q l = record {
    on = λ xs ts fs d. take (ap (g.rule n) h ∙ l) (rw (append_assoc r ns xs) at d) (ap (λ (x : List Event). x ++ fs) (sym q));
  }

  -- a symbol that is left out
  pub reads-skip : {n : ℕ} {ns : List ℕ} {e : List Event} → g.absent n ≡ optional e → Reads g (n ∷ ns) [] e ns
  reads-skip {n} {ns} {e} h = record { on = λ xs ts fs d. skip h d refl }

-- a way: a token of this kind, or a symbol left out
pub data Move : Type 0 where
  eat : ℕ → Move
  leave : Move

abbrev pub said-before : List Event → Fed → Fed
said-before e dead = dead
said-before e (fed m f) = fed m (e ++ f)

abbrev rest_or : Rest → (List ℕ → Fed) → Fed
rest_or stop f = dead
rest_or (goes r) f = f r

abbrev absent_or : Absence → Fed → Fed
absent_or required f = dead
absent_or (optional e) f = said-before e f

-- where a way leads
abbrev pub goes_to : Grammar → List Move → List ℕ → Fed
goes_to g [] ns = fed ns []
goes_to g (m ∷ ms) [] = dead
goes_to g (eat k ∷ ms) (n ∷ ns) = rest_or (g.rule n k) (λ r. goes_to g ms (r ++ ns))
goes_to g (leave ∷ ms) (n ∷ ns) = absent_or (g.absent n) (goes_to g ms ns)

-- tokens of these kinds, none of them a number
pub data Kinds (g : Grammar) : List Move → List (List ℕ) → Type 0 where
  end : Kinds g [] []
  token : {k : ℕ} {ms : List Move} {w : List ℕ} {ws : List (List ℕ)} → kind_of g.spellings w ≡ k → said w ≡ [] → Kinds g ms ws → Kinds g (eat k ∷ ms) (w ∷ ws)
  without : {ms : List Move} {ws : List (List ℕ)} → Kinds g ms ws → Kinds g (leave ∷ ms) ws

no_way : {m : List ℕ} {e : List Event} → dead ≡ fed m e → ⊥
no_way h = let z : ◌≡◌ {A = ℕ} 0 1 = cc in absurd (omega arith)

module _ {g : Grammar} where
  -- a way that is computed
  pub way : {ms : List Move} {ws : List (List ℕ)} → Kinds g ms ws → (ns : List ℕ) {ls : List ℕ} {es : List Event} → goes_to g ms ns ≡ fed ls es → Reads g ns ws es ls
  way end ns {ls} {es} h =
      let p : ns ≡ ls = cc in
      let q : [] ≡ es = cc in
      subst (λ (x : List Event). Reads g ns [] x ls) q (subst (λ (x : List ℕ). Reads g ns [] [] x) p (reads_none ns))
  way (token k s r) [] h = absurd (no_way h)
  way (token {k = k} {ms = ms} {w = w} {ws = ws} e s r) (n ∷ ns) {ls} {es} h = by (g.rule n k) refl h (λ r' q. way r (r' ++ ns) q)
    where
      by : (a : Rest) → g.rule n k ≡ a → rest_or a (λ r. goes_to g ms (r ++ ns)) ≡ fed ls es
          → ((r : List ℕ) → goes_to g ms (r ++ ns) ≡ fed ls es → Reads g (r ++ ns) ws es ls) → Reads g (n ∷ ns) (w ∷ ws) es ls
      by stop a q rec = absurd (no_way q)
      by (goes r') a q rec = reads-join (reads-token k e s a) (rec r' q)
  way (without r) [] h = absurd (no_way h)
  way (without {ms = ms} {ws = ws} r) (n ∷ ns) {ls} {es} h = by (g.absent n) refl (goes_to g ms ns) refl h (λ m f q. way r ns {ls = m} {es = f} q)
    where
      by : (a : Absence) → g.absent n ≡ a → (f : Fed) → goes_to g ms ns ≡ f → absent_or a f ≡ fed ls es
          → ((m : List ℕ) (e : List Event) → goes_to g ms ns ≡ fed m e → Reads g ns ws e m) → Reads g (n ∷ ns) ws es ls
      by required a f b q rec = absurd (no_way q)
      by (optional e) a dead b q rec = absurd (no_way q)
      by (optional e) a (fed m f) b q rec =
          let p : m ≡ ls = cc in
          let l : e ++ f ≡ es = cc in
          subst (λ (x : List Event). Reads g (n ∷ ns) ws x ls) l (subst (λ (x : List ℕ). Reads g (n ∷ ns) ws (e ++ f) x) p (reads-join (reads-skip a) (rec m f b)))
