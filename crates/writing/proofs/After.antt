-- Over 4,096 nothing is written, else the text. Assumes nothing.
use mathlib.Core.Path.{◌≡◌, refl, ap₂, ◌∙◌}
use mathlib.Core.List.{List}
use Prim.Native.Nat.{ℕ, ◌≤◌, ◌<◌}
use native.Mathlib.Omega.{arith}
use borrow.Author.Tests.{lt-ltb, le-ltb}
use lib.ListN.{length}
use Rattle.listing.specs.declared.texts.Text.{Text}
use Rattle.listing.specs.Written.{written}
use Rattle.listing.specs.Puts.{Puts}
use Rattle.listing.proofs.Puts.{puts_behind, puts_bytes}
use Rattle.declaring.specs.Length.{capped}
use Rattle.declaring.specs.Named.{written_text}
use Rattle.writing.specs.After.{text_after}

module _ (d : List ℕ) (many : ℕ) (e : many ≡ capped (length (written_text d))) where
  pub too_long : (out : List ℕ) → 4096 < many → out ≡ text_after d out
  unfolding text_after
  too_long out h = rw (lt-ltb 4096 (length (written_text d)) (omega (arith, e))) refl

  pub short-enough : many ≤ 4096 → length (written_text d) ≤ 8192
  short-enough h = omega (arith, e)

  pub all-written : {k : ℕ} {a b : Text} (out : List ℕ) → many ≤ 4096 → (a.out.now ≡ out) × (a.at ≡ 0) → Puts k a b (written_text d) → {new : List ℕ} → new ≡ b.out.now
      → (b.at ≡ capped (length (written_text d))) × (new ≡ text_after d out)
  unfolding text_after
  all-written out h first w n = (
    omega (arith, e, first.1, puts_behind w),
    rw (le-ltb 4096 (length (written_text d)) (omega (arith, e))) (n ∙ puts_bytes w ∙ ap₂ (λ (l : List ℕ) (k : ℕ). written l k (written_text d)) first.0 first.1),
  )
