-- The images before the first argument, and all of them from what is called. Assumes nothing.
use mathlib.Core.Path.{◌≡◌, sym, ap, ap₂, ◌∙◌}
use mathlib.Core.Bool.{Bool, true, false}
use mathlib.Core.List.{List, [], ◌++◌}
use Prim.Native.Nat.{ℕ, ◌+◌, ◌<◌}
use native.Mathlib.Omega.{arith}
use lib.ListN.{length, replicate, length-replicate, replicate-append-replicate}
use Rattle.addresses.specs.Addresses.{scatter, Below}
use Rattle.addresses.specs.Copy.{cleared}
use Rattle.addresses.proofs.Runs.{all-run}
use Rattle.addresses.proofs.Parts.{scatter-left}
use Rattle.layout.specs.Arguments.{hidden, area_of}
use Rattle.images.specs.Words.{little_endian, rdi, with_address}
use Rattle.moving.specs.Images.{addresses_of, framed, frame_of}
use Rattle.moving.specs.Frames.{empty_in, placed_in}

module _ (h : ℕ) (r y s r' y' s' : List ℕ) (long : length r ≡ 176) (above : length y ≡ 128) (e : r' ≡ cleared r) (g : y' ≡ cleared y) (f : s' ≡ cleared s) where
  all-cleared : r' ++ (y' ++ s') ≡ replicate (176 + (128 + length s)) 0
  unfolding cleared
  all-cleared =
      rw (e, g, f, long, above)
      (ap (λ (x : List ℕ). replicate 176 0 ++ x) (replicate-append-replicate 128 (length s) 0) ∙ replicate-append-replicate 176 (128 + length s) 0)

  pub blank-unused : r' ++ (y' ++ s') ≡ empty_in (framed false [] (length s)) h
  unfolding empty_in
  blank-unused = all-cleared

  within : Below (length r') rdi
  unfolding cleared
  within = rw (e, length-replicate {A = ℕ} (length r) 0, long) (all-run {P = λ k. k < 176} 0 8 (λ k l m. omega arith))

  pub blank-used : (r'' : List ℕ) → r'' ≡ with_address r' h → r'' ++ (y' ++ s') ≡ empty_in (framed true [] (length s)) h
  unfolding empty_in with_address
  blank-used r'' k =
      ap (λ (x : List ℕ). x ++ (y' ++ s')) k
      ∙ sym (scatter-left rdi (little_endian 8 h) r' (y' ++ s') within)
      ∙ ap (λ (img : List ℕ). scatter img rdi (little_endian 8 h)) all-cleared

-- all of the images
pub filled-images : (d : List ℕ) (b : Bool) (h : ℕ) (vals s img jmg : List ℕ) → b ≡ hidden d → length s ≡ area_of d
    → img ≡ empty_in (framed b [] (length s)) h → jmg ≡ scatter img (addresses_of d) vals → jmg ≡ placed_in (frame_of d) h vals
unfolding placed_in empty_in
filled-images d b h vals s img jmg e l f g =
    g ∙ ap (λ (x : List ℕ). scatter x (addresses_of d) vals) (f ∙ ap₂ (λ (y : Bool) (n : ℕ). empty_in (framed y [] n) h) e l)
