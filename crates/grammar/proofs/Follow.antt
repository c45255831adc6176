-- Where what may follow a symbol is known, one token of look-ahead decides. Assumes nothing.
use mathlib.Core.Path.{◌≡◌, refl, sym, ap, ◌∙◌}
use mathlib.Core.Bool.{Bool, true, false, true≢false, ◌&&◌, ◌||◌}
use mathlib.Core.List.{List, [], ◌∷◌, ◌++◌}
use Prim.Native.Nat.{ℕ}
use native.Mathlib.Omega.{arith}
use Rattle.grammar.specs.Grammar.{Event, Rest, stop, goes, Absence, required, optional, Grammar}
use Rattle.grammar.specs.Machine.{Fed, dead, fed, feed_by, feed}
use Rattle.grammar.proofs.Derive.{is_goes, is_optional, starts, Clear}

abbrev pub all_optional : Grammar → List ℕ → Bool
all_optional g [] = true
all_optional g (n ∷ ns) = is_optional (g.absent n) && all_optional g ns

-- `follow n k`: a token of kind k may stand behind the symbol n. Of the symbols to come, each is followed by such only
abbrev pub Chain : Grammar → (ℕ → ℕ → Bool) → List ℕ → Type 0
Chain g follow [] = Unit {0}
Chain g follow (n ∷ ns) = ((k : ℕ) → starts g ns k ≡ true → follow n k ≡ true) × Chain g follow ns

-- the same of the symbols in a rule of n
abbrev pub Inside : Grammar → (ℕ → ℕ → Bool) → ℕ → List ℕ → Type 0
Inside g follow n [] = Unit {0}
Inside g follow n (m ∷ r) =
    ((k : ℕ) → starts g r k ≡ true → follow m k ≡ true)
    × ((k : ℕ) → all_optional g r ≡ true → follow n k ≡ true → follow m k ≡ true)
    × Inside g follow n r

pub record Fine (g : Grammar) (follow : ℕ → ℕ → Bool) : Type 0 where
  pub apart : (n k : ℕ) → is_optional (g.absent n) ≡ true → is_goes (g.rule n k) ≡ true → follow n k ≡ true → ⊥
  pub inside : (n k : ℕ) (r : List ℕ) → g.rule n k ≡ goes r → Inside g follow n r
  -- no rule begins with what is no token
  pub unknown : (n : ℕ) → is_goes (g.rule n 2) ≡ false

module _ {g : Grammar} {follow : ℕ → ℕ → Bool} (fine : Fine g follow) where
  pub chain-clear : (ns : List ℕ) → Chain g follow ns → Clear g ns
  chain-clear [] c = tt
  chain-clear (n ∷ ns) c = (λ k o s t. fine.apart n k o s (c.0 k t), chain-clear ns c.1)

  or_cases : (a b : Bool) → (a || b) ≡ true → (C : Type 0) → (a ≡ true → C) → (b ≡ true → C) → C
  or_cases true b h C f x = f refl
  or_cases false b h C f x = x h

  and_cases : (a b : Bool) → (a && b) ≡ true → (a ≡ true) × (b ≡ true)
  and_cases true b h = (refl, h)
  and_cases false b h = absurd (true≢false (sym h))

  starts-append : (r ns : List ℕ) (k : ℕ) → starts g (r ++ ns) k ≡ (starts g r k || (all_optional g r && starts g ns k))
  starts-append [] ns k = refl
  starts-append (n ∷ r) ns k =
      ap (λ (b : Bool). is_goes (g.rule n k) || (is_optional (g.absent n) && b)) (starts-append r ns k)
      ∙ table (is_goes (g.rule n k)) (is_optional (g.absent n)) (starts g r k) (all_optional g r) (starts g ns k)
    where
      table : (a b c d e : Bool) → (a || (b && (c || (d && e)))) ≡ ((a || (b && c)) || ((b && d) && e))
      table true b c d e = refl
      table false true c d e = refl
      table false false c d e = refl

  chain-append : (n : ℕ) (r ns : List ℕ) → Inside g follow n r → ((k : ℕ) → starts g ns k ≡ true → follow n k ≡ true) → Chain g follow ns → Chain g follow (r ++ ns)
  chain-append n [] ns i f c = c
  chain-append n (m ∷ r) ns i f c = (
    λ k s. or_cases (starts g r k) (all_optional g r && starts g ns k) (sym (starts-append r ns k) ∙ s) (follow m k ≡ true) (λ h. i.0 k h)
        (λ h. let (o, t) = and_cases (all_optional g r) (starts g ns k) h in i.1 k o (f k t)),
    chain-append n r ns i.2 f c,
  )

  pub chain-feed : (ns : List ℕ) (k : ℕ) {m : List ℕ} {e : List Event} → Chain g follow ns → feed g ns k ≡ fed m e → Chain g follow m
  chain-feed [] k c h = let z : ◌≡◌ {A = ℕ} 0 1 = cc in absurd (omega arith)
  chain-feed (n ∷ ns) k {m} {e} c h = by (g.rule n k) refl (g.absent n) (feed g ns k) refl h (λ a b q. chain-feed ns k {m = a} {e = b} c.1 q)
    where
      by : (r : Rest) → g.rule n k ≡ r → (a : Absence) → (f : Fed) → feed g ns k ≡ f → feed_by r a ns f ≡ fed m e
          → ((a : List ℕ) (b : List Event) → feed g ns k ≡ fed a b → Chain g follow a) → Chain g follow m
      by (goes r) er a f ef q rec = let p : r ++ ns ≡ m = cc in rw p at (chain-append n r ns (fine.inside n k r er) c.0 c.1)
      by stop er required f ef q rec = let z : ◌≡◌ {A = ℕ} 0 1 = cc in absurd (omega arith)
      by stop er (optional b) dead ef q rec = let z : ◌≡◌ {A = ℕ} 0 1 = cc in absurd (omega arith)
      by stop er (optional b) (fed a d) ef q rec = let p : a ≡ m = cc in rw p at (rec a d ef)
