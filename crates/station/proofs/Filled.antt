-- A cleared seat with the description copied into it. Assumes nothing.
use mathlib.Core.Path.{◌≡◌, refl, sym, ap, ◌∙◌}
use mathlib.Core.List.{List, [], ◌∷◌, ◌++◌}
use Prim.Native.Nat.{ℕ, zero, suc, ◌+◌, ◌-◌, ◌≤◌, ◌<◌}
use native.Mathlib.Omega.{arith}
use lib.ListN.{length, take, replicate, length-replicate}
use Rattle.addresses.specs.Addresses.{run, gather, scatter}
use Rattle.addresses.specs.Copy.{copied, cleared}
use Rattle.addresses.proofs.Runs.{gather-run, scatter-whole, all-run}
use Rattle.addresses.proofs.Parts.{scatter-left}
use Rattle.station.specs.Attachment.{seat_of}

replicate-add : (m n : ℕ) → replicate {A = ℕ} (m + n) 0 ≡ replicate m 0 ++ replicate n 0
replicate-add zero n = let e : zero + n ≡ n = omega arith in ap (λ (k : ℕ). replicate k 0) e
replicate-add (suc m) n =
    let e : suc m + n ≡ suc (m + n) = omega arith in
    ap (λ (k : ℕ). replicate k 0) e ∙ ap (λ (l : List ℕ). 0 ∷ l) (replicate-add m n)

-- a cleared seat with the description copied into it: "the description, then zeros"
pub filled-seat : (seat mid d : List ℕ) → length seat ≡ 586 → length d ≤ 586 → mid ≡ cleared seat → copied mid 0 d 0 (length d) ≡ seat_of d
unfolding seat_of copied cleared
filled-seat seat mid d e l m =
    let n = length d in
    let zs = replicate {A = ℕ} n 0 in
    let whole_length : length seat ≡ n + (586 - n) = omega arith in
    let split : mid ≡ zs ++ replicate (586 - n) 0 = m ∙ ap (λ (k : ℕ). replicate k 0) whole_length ∙ replicate-add n (586 - n) in
    ap (λ (x : List ℕ). scatter x (run 0 n) (gather d (run 0 n))) split
    ∙ scatter-left (run 0 n) (gather d (run 0 n)) zs (replicate (586 - n) 0) (all-run 0 n (λ k a b. rw (length-replicate {A = ℕ} n 0) (omega arith)))
    ∙ ap (λ (x : List ℕ). x ++ replicate (586 - n) 0) (ap (λ (v : List ℕ). scatter zs (run 0 n) v) (whole d) ∙ scatter-whole d zs (length-replicate n 0))
  where
    take_all : (l : List ℕ) → take (length l) l ≡ l
    take_all [] = refl
    take_all (x ∷ xs) = ap (λ (ys : List ℕ). x ∷ ys) (take_all xs)

    whole : (l : List ℕ) → gather l (run 0 (length l)) ≡ l
    whole l = gather-run (length l) 0 l (omega arith) ∙ take_all l
