-- Words put behind words are one word. Assumes nothing.
use mathlib.Core.Path.{◌≡◌, sym, ap, ap₂, ◌∙◌}
use mathlib.Core.List.{List, [], ◌++◌}
use Prim.Native.Nat.{ℕ, ◌+◌, ◌≤◌}
use native.Mathlib.Nat.{add-zero}
use native.Mathlib.Omega.{arith}
use lib.ListN.{length, length-append}
use Rattle.listing.specs.declared.texts.Text.{Text}
use Rattle.listing.specs.Written.{written}
use Rattle.listing.specs.Puts.{followed, Puts}
use Rattle.addresses.specs.Copy.{copied}
use Rattle.listing.proofs.Written.{written-append, written_none, copied-written}

-- a text by its bytes and the index behind them, in the same buffer
abbrev pub filled : Text → List ℕ → ℕ → Text
filled t bytes at = record { out = record t.out { now = bytes }; at = at }

followed-join : (t : Text) (s u : List ℕ) → followed (followed t s) u ≡ followed t (s ++ u)
followed-join t s u =
    ap₂ (filled t) (written-append t.out.now t.at s u) (omega (arith, length-append s u))

followed-none : (t : Text) → followed t [] ≡ t
followed-none t = ap₂ (filled t) (written_none t.out.now t.at) (add-zero t.at)

-- nothing; one word behind another; with a higher bound, and with the sharpest
pub puts_none : (t : Text) → Puts 0 t t []
puts_none t = record { is = sym (followed-none t); short = omega arith }

pub puts_join : {j k : ℕ} {a b c : Text} {s u : List ℕ} → Puts j a b s → Puts k b c u → Puts (j + k) a c (s ++ u)
puts_join {j} {k} {a} {b} {c} {s} {u} v w = record {
  is = w.is ∙ ap (λ (t : Text). followed t u) v.is ∙ followed-join a s u;
  short = omega (arith, v.short, w.short, length-append s u);
}

pub puts_more : {j k : ℕ} {a b : Text} {s : List ℕ} → Puts j a b s → j ≤ k → Puts k a b s
puts_more w h = record { is = w.is; short = omega (arith, w.short) }

pub puts_exact : {k : ℕ} {a b : Text} {s : List ℕ} → Puts k a b s → Puts (length s) a b s
puts_exact w = record { is = w.is; short = omega arith }

-- the same word by another name
pub puts_same : {k : ℕ} {a b : Text} {s u : List ℕ} → Puts k a b s → s ≡ u → Puts k a b u
puts_same w e = rw e at w

-- the index behind it, and the bytes
pub puts_behind : {k : ℕ} {a b : Text} {s : List ℕ} → Puts k a b s → b.at ≡ a.at + length s
puts_behind w = ap (λ (t : Text). t.at) w.is

pub puts_bytes : {k : ℕ} {a b : Text} {s : List ℕ} → Puts k a b s → b.out.now ≡ written a.out.now a.at s
puts_bytes w = ap (λ (t : Text). t.out.now) w.is

-- a copy of a whole word
pub puts_copy : (t : Text) (word after : List ℕ) → after ≡ copied t.out.now t.at word 0 (length word) → Puts (length word) t (filled t after (t.at + length word)) word
puts_copy t word after e = record { is = ap (λ (l : List ℕ). filled t l (t.at + length word)) (e ∙ copied-written t.out.now t.at word); short = omega arith }
