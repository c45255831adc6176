-- One token at a time: what a token leads to, and what is derived. Assumes nothing.
use mathlib.Core.Path.{◌≡◌, refl, sym, ap, ◌∙◌, subst}
use mathlib.Core.Bool.{Bool, true, false, ◌&&◌, ◌||◌}
use mathlib.Core.List.{List, [], ◌∷◌, ◌++◌, append_assoc}
use Prim.Native.Nat.{ℕ}
use native.Mathlib.Omega.{arith}
use Rattle.grammar.specs.Grammar.{Event, Rest, stop, goes, Absence, required, optional, Grammar, kind_of, said, Derives, done, take, skip}
use Rattle.grammar.specs.Machine.{Fed, dead, fed, feed_by, feed, End, short, ended, finish_by, finish}

-- symbols one behind the other
pub join : {g : Grammar} {ms : List ℕ} {us : List (List ℕ)} {es : List Event} {ns : List ℕ} {vs : List (List ℕ)} {fs : List Event}
    → Derives g ms us es → Derives g ns vs fs → Derives g (ms ++ ns) (us ++ vs) (es ++ fs)
join done d = d
join {g} {ns = ns} {vs = vs} {fs = fs} (take {ns = ms} {r = r} {w = w} {ts = ts} {es = es} h b q) d =
    take h (rw append_assoc at (join b d)) (ap (λ (l : List Event). l ++ fs) q ∙ append_assoc (said w) es fs)
join {fs = fs} (skip {e = e} {es = es} h b q) d = skip h (join b d) (ap (λ (l : List Event). l ++ fs) q ∙ append_assoc e es fs)

-- a token that leads to symbols: their tokens behind it
pub sound : (g : Grammar) (ns : List ℕ) (w : List ℕ) {m : List ℕ} {e : List Event} {ts : List (List ℕ)} {es : List Event}
    → feed g ns (kind_of g.spellings w) ≡ fed m e → Derives g m ts es → Derives g ns (w ∷ ts) (e ++ (said w ++ es))
sound g [] w h d = let z : ◌≡◌ {A = ℕ} 0 1 = cc in absurd (omega arith)
sound g (n ∷ ns) w {m} {e} {ts} {es} h d =
    by (g.rule n (kind_of g.spellings w)) refl (g.absent n) refl (feed g ns (kind_of g.spellings w)) refl h
    (λ a b q. sound g ns w {m = a} {e = b} q)
  where
    by : (r : Rest) → g.rule n (kind_of g.spellings w) ≡ r → (a : Absence) → g.absent n ≡ a → (f : Fed) → feed g ns (kind_of g.spellings w) ≡ f
        → feed_by r a ns f ≡ fed m e
        → ((a : List ℕ) (b : List Event) → feed g ns (kind_of g.spellings w) ≡ fed a b → Derives g a ts es → Derives g ns (w ∷ ts) (b ++ (said w ++ es)))
        → Derives g (n ∷ ns) (w ∷ ts) (e ++ (said w ++ es))
    by (goes r) er a ea f ef q rec =
        let p : r ++ ns ≡ m = cc in
        let l : e ≡ [] = cc in
        take er (rw (← p) at d) (ap (λ (x : List Event). x ++ (said w ++ es)) l)
    by stop er required ea f ef q rec = let z : ◌≡◌ {A = ℕ} 0 1 = cc in absurd (omega arith)
    by stop er (optional b) ea dead ef q rec = let z : ◌≡◌ {A = ℕ} 0 1 = cc in absurd (omega arith)
    by stop er (optional b) ea (fed a c) ef q rec =
        let p : m ≡ a = cc in
        let l : e ≡ b ++ c = cc in
        skip ea (rec a c ef (rw p at d)) (ap (λ (x : List Event). x ++ (said w ++ es)) l ∙ append_assoc b c (said w ++ es))

abbrev pub is_goes : Rest → Bool
is_goes stop = false
is_goes (goes r) = true

abbrev pub is_optional : Absence → Bool
is_optional required = false
is_optional (optional e) = true

-- a token of this kind may be the first of these symbols
abbrev pub starts : Grammar → List ℕ → ℕ → Bool
starts g [] k = false
starts g (n ∷ ns) k = is_goes (g.rule n k) || (is_optional (g.absent n) && starts g ns k)

or_right : (a b : Bool) → b ≡ true → (a || b) ≡ true
or_right true b h = refl
or_right false b h = h

pub derive_starts : {g : Grammar} {ns : List ℕ} {w : List ℕ} {ts : List (List ℕ)} {fs : List Event}
    → Derives g ns (w ∷ ts) fs → starts g ns (kind_of g.spellings w) ≡ true
derive_starts (take h b q) = rw h refl
derive_starts {g} {w = w} (skip {n = n} {ns = ns} h b q) =
    or_right (is_goes (g.rule n (kind_of g.spellings w))) _ (rw h (derive_starts b))

-- where a symbol may be left out, no token can both begin it and begin what follows it
abbrev pub Clear : Grammar → List ℕ → Type 0
Clear g [] = Unit {0}
Clear g (n ∷ ns) = ((k : ℕ) → is_optional (g.absent n) ≡ true → is_goes (g.rule n k) ≡ true → starts g ns k ≡ true → ⊥) × Clear g ns

-- tokens that are derived: the first leads on, and the rest is derived from there
unfoldable pub Led : Grammar → List ℕ → List ℕ → List (List ℕ) → List Event → Type 0
Led g ns w ts fs =
    (m : List ℕ) × (e : List Event) × (es : List Event) × (feed g ns (kind_of g.spellings w) ≡ fed m e) × Derives g m ts es × (fs ≡ e ++ (said w ++ es))

pub complete : {g : Grammar} {ns : List ℕ} {w : List ℕ} {ts : List (List ℕ)} {fs : List Event} → Clear g ns → Derives g ns (w ∷ ts) fs → Led g ns w ts fs
unfolding Led
complete clear (take {ns = ns} {r = r} {es = es} h b q) = (r ++ ns, [], es, rw h refl, b, q)
complete {g} {w = w} {ts = ts} {fs = fs} clear (skip {n = n} {ns = ns} {e = e} {es = es} h b q) =
    by (g.rule n (kind_of g.spellings w)) refl (complete clear.1 b)
  where
    by : (r : Rest) → g.rule n (kind_of g.spellings w) ≡ r → Led g ns w ts es → Led g (n ∷ ns) w ts fs
    by (goes r) er led = absurd (clear.0 (kind_of g.spellings w) (rw h refl) (rw er refl) (derive_starts b))
    by stop er (led) =
        let (m, a, c, f, d, p) = led in
        (m, e ++ a, c, rw (er, h, f) refl, d, q ∙ ap (λ (x : List Event). e ++ x) p ∙ sym (append_assoc e a (said w ++ c)))

-- the end of the tokens
pub end_sound : (g : Grammar) (ns : List ℕ) {fs : List Event} → finish g ns ≡ ended fs → Derives g ns [] fs
end_sound g [] {fs} h = let p : [] ≡ fs = cc in subst (λ (x : List Event). Derives g [] [] x) p done
end_sound g (n ∷ ns) {fs} h = by (g.absent n) refl (finish g ns) refl h (λ x q. end_sound g ns {fs = x} q)
  where
    by : (a : Absence) → g.absent n ≡ a → (f : End) → finish g ns ≡ f → finish_by a f ≡ ended fs
        → ((x : List Event) → finish g ns ≡ ended x → Derives g ns [] x) → Derives g (n ∷ ns) [] fs
    by required ea f ef q rec = let z : ◌≡◌ {A = ℕ} 0 1 = cc in absurd (omega arith)
    by (optional e) ea short ef q rec = let z : ◌≡◌ {A = ℕ} 0 1 = cc in absurd (omega arith)
    by (optional e) ea (ended es) ef q rec = skip ea (rec es ef) (let p : fs ≡ e ++ es = cc in p)

pub end_complete : {g : Grammar} {ns : List ℕ} {fs : List Event} → Derives g ns [] fs → finish g ns ≡ ended fs
end_complete done = refl
end_complete {g} (skip {n = n} {ns = ns} h b q) = rw (h, end_complete b, q) refl
