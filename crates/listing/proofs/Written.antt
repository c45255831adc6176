-- Text stored after text is their text. Assumes nothing.
use mathlib.Core.Path.{◌≡◌, refl, sym, ap, ◌∙◌}
use mathlib.Core.List.{List, [], ◌∷◌, ◌++◌}
use Prim.Native.Nat.{ℕ, suc, ◌+◌, ◌≤◌}
use native.Mathlib.Nat.{add-zero, add-suc, suc-add}
use native.Mathlib.Omega.{arith}
use lib.ListN.{length, take, drop, set}
use lib.Seq.{sets, length-sets, sets-eq, take-length}
use Rattle.addresses.specs.Addresses.{run, scatter}
use Rattle.addresses.specs.Copy.{copied}
use Rattle.addresses.proofs.Runs.{gather-run}
use Rattle.listing.specs.Written.{written}

pub length-written : (buffer : List ℕ) (at : ℕ) (text : List ℕ) → length (written buffer at text) ≡ length buffer
unfolding written
length-written buffer at text = length-sets buffer at text

-- what stands where, in a buffer with room for the text
pub written_is : (buffer : List ℕ) (at : ℕ) (text : List ℕ) → at + length text ≤ length buffer
    → written buffer at text ≡ take at buffer ++ text ++ drop (at + length text) buffer
unfolding written
written_is buffer at text h = sets-eq text buffer at h

sets_append : (s t l : List ℕ) (i : ℕ) → sets (sets l i s) (i + length s) t ≡ sets l i (s ++ t)
sets_append [] t l i = ap (λ (k : ℕ). sets l k t) (add-zero i)
sets_append (x ∷ s) t l i = ap (λ (k : ℕ). sets (sets (set l i x) (suc i) s) k t) (add-suc i (length s) ∙ sym (suc-add i (length s))) ∙ sets_append s t (set l i x) (suc i)

pub written-append : (buffer : List ℕ) (at : ℕ) (s t : List ℕ) → written (written buffer at s) (at + length s) t ≡ written buffer at (s ++ t)
unfolding written
written-append buffer at s t = sets_append s t buffer at

pub written_none : (buffer : List ℕ) (at : ℕ) → written buffer at [] ≡ buffer
unfolding written
written_none buffer at = refl

-- a copy of a whole word
scatter-sets : (vs l : List ℕ) (i : ℕ) → scatter l (run i (length vs)) vs ≡ sets l i vs
scatter-sets [] l i = refl
scatter-sets (v ∷ vs) l i = scatter-sets vs (set l i v) (suc i)

pub copied-written : (buffer : List ℕ) (at : ℕ) (word : List ℕ) → copied buffer at word 0 (length word) ≡ written buffer at word
unfolding copied written
copied-written buffer at word =
    ap (λ (vs : List ℕ). scatter buffer (run at (length word)) vs) (gather-run (length word) 0 word (omega arith) ∙ take-length word)
    ∙ scatter-sets word buffer at
