-- Bytes copied in several steps, and zeros written in two. Assumes nothing.
use mathlib.Core.Path.{◌≡◌, sym, ap, ap₂, ◌∙◌}
use mathlib.Core.List.{List, ◌++◌}
use Prim.Native.Nat.{ℕ, ◌+◌, ◌*◌, ◌/◌}
use native.Mathlib.Omega.{arith}
use lib.ListN.{length, length-map, drop, replicate, length-replicate}
use lib.Seq.{drop_at}
use Rattle.addresses.specs.Addresses.{run, gather, scatter}
use Rattle.addresses.specs.Copy.{copied, cleared}
use Rattle.addresses.proofs.Scatter.{scatter-append, gather_append}
use Rattle.addresses.proofs.Runs.{length_run, run-append}

pub copied_more : (dst₀ src : List ℕ) (p j n m k : ℕ) (dst x : List ℕ) → dst ≡ copied dst₀ p src j n → x ≡ copied dst (p + n) src (j + n) m → n + m ≡ k
    → x ≡ copied dst₀ p src j k
unfolding copied
copied_more dst₀ src p j n m k dst x e f q =
    rw (f, e, ← q)
    (sym (scatter-append (run p n) (run (p + n) m) dst₀ (gather src (run j n)) (gather src (run (j + n) m)) (simp (length-map, length_run)))
    ∙ ap₂ (λ (ps vs : List ℕ). scatter dst₀ ps vs) (sym (run-append p n m)) (sym (gather_append (run j n) (run (j + n) m) src) ∙ ap (gather src) (sym (run-append j n m))))

pub again-zeros : (n : ℕ) (o x : List ℕ) → x ≡ replicate n 0 ++ drop n o → x ≡ replicate n 0 ++ drop n x
again-zeros n o x e = e ∙ ap (λ (l : List ℕ). replicate n 0 ++ l) (sym (ap (drop n) e ∙ drop_at (replicate n 0) (drop n o) n (length-replicate n 0)))

pub cleared-same : (o m x : List ℕ) → length m ≡ length o → x ≡ cleared m → x ≡ cleared o
unfolding cleared
cleared-same o m x l e = e ∙ ap (λ (k : ℕ). replicate k 0) l

pub last : (n k : ℕ) → k ≡ n / 8 → n / 8 * 8 ≡ 8 * k
last n k e = omega arith
