-- The bytes that are copied into the out buffer are those that lie at the argument's addresses. Assumes nothing.
use mathlib.Core.Path.{◌≡◌, refl, sym, ap, ap₂, ◌∙◌}
use mathlib.Core.List.{List, [], ◌∷◌, ◌++◌, append-nil}
use Prim.Native.Nat.{ℕ, suc, ◌+◌, ◌-◌, ◌≤◌, min}
use native.Mathlib.Omega.{arith}
use lib.ListN.{length, length-append}
use Rattle.addresses.specs.Addresses.{run, gather, scatter}
use Rattle.addresses.specs.Copy.{copied}
use Rattle.addresses.proofs.Runs.{length_run, all-run, run-append, run-shift, scatter-whole}
use Rattle.addresses.proofs.Scatter.{scatter-append, gather_append}
use Rattle.addresses.proofs.Copies.{length-copied}
use Rattle.addresses.proofs.Parts.{gather-left, gather-right}
use Rattle.walk.specs.declared.Fetch.{Fetch}
use Rattle.walk.specs.declared.Fetch.TheVariants.{One, Two, Stack}
use Rattle.walk.specs.Offsets.{bytes_from, source_of}
use Rattle.walk.specs.Asks.{Within}
use Rattle.units.specs.declared.Bytes.{Bytes}

length-gather : (img ps : List ℕ) → length (gather img ps) ≡ length ps
length-gather img [] = refl
length-gather img (p ∷ ps) = ap suc (length-gather img ps)

-- a whole buffer is written over
whole-scatter : (out vs : List ℕ) (n : ℕ) → length out ≡ n → length vs ≡ n → scatter out (run 0 n) vs ≡ vs
whole-scatter out vs n e f = ap (λ (k : ℕ). scatter out (run 0 k) vs) (sym f) ∙ scatter-whole vs out (e ∙ sym f)

whole_copy : (out src : List ℕ) (p n : ℕ) → length out ≡ n → copied out 0 src p n ≡ gather src (run p n)
unfolding copied
whole_copy out src p n e = whole-scatter out (gather src (run p n)) n e (length-gather src (run p n) ∙ length_run p n)

pub copied-length : (out mid src : List ℕ) (p n : ℕ) → mid ≡ copied out 0 src p n → length mid ≡ length out
copied-length out mid src p n e = ap length e ∙ length-copied out 0 src p n

module _ (registers stack : List ℕ) (e : length registers ≡ 176) where
  from-registers : (p n : ℕ) → p + n ≤ 176 → gather (registers ++ stack) (run p n) ≡ gather registers (run p n)
  from-registers p n l = gather-left (run p n) registers stack (all-run p n (λ k a b. omega arith))

  from-stack : (o n : ℕ) → gather (registers ++ stack) (run (176 + o) n) ≡ gather stack (run o n)
  from-stack o n =
      ap (λ (k : ℕ). gather (registers ++ stack) (run (k + o) n)) (sym e)
      ∙ ap (λ (ps : List ℕ). gather (registers ++ stack) ps) (sym (run-shift (length registers) o n))
      ∙ gather-right (run o n) registers stack

  pub copy_one : (f : Fetch) (a : Bytes) (n : ℕ) (out : List ℕ) → f ≡ One a → Within f n 176 (length stack) → length out ≡ n
      → copied out 0 registers a.0 n ≡ gather (registers ++ stack) (bytes_from 176 (source_of f) n)
  copy_one f a n out q w l =
      let v : Within (One a) n 176 (length stack) = rw q at w in
      let m : min n 8 ≡ n = omega (arith, v.0) in
      whole_copy out registers a.0 n l
      ∙ sym (rw q (ap (λ (k : ℕ). gather (registers ++ stack) (run a.0 k ++ [])) m
      ∙ ap (gather (registers ++ stack)) (append-nil (run a.0 n)) ∙ from-registers a.0 n v.1))

  pub copy_stack : (f : Fetch) (a : Bytes) (n : ℕ) (out : List ℕ) → f ≡ Stack a → length out ≡ n
      → copied out 0 stack a.0 n ≡ gather (registers ++ stack) (bytes_from 176 (source_of f) n)
  copy_stack f a n out q l = whole_copy out stack a.0 n l ∙ sym (rw q (from-stack a.0 n))

  pub copy_two : (f : Fetch) (a b : Bytes) (n : ℕ) (out mid : List ℕ) → f ≡ Two a b → Within f n 176 (length stack) → length out ≡ n
      → mid ≡ copied out 0 registers a.0 8 → copied mid 8 registers b.0 (n - 8) ≡ gather (registers ++ stack) (bytes_from 176 (source_of f) n)
  unfolding copied
  copy_two f a b n out mid q w l x =
      let v : Within (Two a b) n 176 (length stack) = rw q at w in
      let low = gather registers (run a.0 8) in
      let high = gather registers (run b.0 (n - 8)) in
      let k : length low ≡ 8 = length-gather registers (run a.0 8) ∙ length_run a.0 8 in
      let h : length high ≡ n - 8 = length-gather registers (run b.0 (n - 8)) ∙ length_run b.0 (n - 8) in
      let m : min n 8 ≡ 8 = omega (arith, v.0) in
      let o : min (n - 8) 8 ≡ n - 8 = omega (arith, v.1) in
      let t : 8 + (n - 8) ≡ n = omega (arith, v.0) in
      let both : scatter mid (run 8 (n - 8)) high ≡ low ++ high =
      ap (λ (y : List ℕ). scatter y (run 8 (n - 8)) high) x
      ∙ sym (scatter-append (run 0 8) (run 8 (n - 8)) out low high (length_run 0 8 ∙ sym k))
      ∙ ap (λ (ps : List ℕ). scatter out ps (low ++ high)) (sym (run-append 0 8 (n - 8)) ∙ ap (run 0) t)
      ∙ whole-scatter out (low ++ high) n l (length-append low high ∙ (omega (arith, k, h))) in
      both
      ∙ sym (rw q (ap₂ (λ (i : ℕ) (j : ℕ). gather (registers ++ stack) (run a.0 i ++ (run b.0 j ++ []))) m o
      ∙ gather_append (run a.0 8) (run b.0 (n - 8) ++ []) (registers ++ stack)
      ∙ ap₂ (λ (y z : List ℕ). y ++ z) (from-registers a.0 8 v.2) (ap (gather (registers ++ stack)) (append-nil (run b.0 (n - 8))) ∙ from-registers b.0 (n - 8) v.3)))
