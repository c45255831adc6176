-- Zeros, and the bytes that a list of addresses names. Assumes nothing.
use mathlib.Core.Path.{◌≡◌, refl}
use mathlib.Core.List.{List, [], ◌∷◌}
use Prim.Native.Nat.{ℕ, zero, suc, ◌<◌}
use native.Mathlib.Omega.{arith}
use lib.ListN.{length, get_or, replicate}
use Rattle.addresses.specs.Addresses.{gather, All, Absent}

pub get_d_zeros : (n k : ℕ) → ◌≡◌ {A = ℕ} (get_or (replicate n 0) k 0) 0
get_d_zeros zero k = refl
get_d_zeros (suc n) zero = refl
get_d_zeros (suc n) (suc k) = get_d_zeros n k

-- each address of a list is in it
pub all-present : (ps : List ℕ) (Q : ℕ → Type 0) → ((p : ℕ) → (Absent p ps → ⊥) → Q p) → All Q ps
all-present [] Q f = tt
all-present (p ∷ ps) Q f = (f p (λ a. a.0 refl), all-present ps Q (λ q n. f q (λ a. n a.1)))

pub gather-at : (ps img : List ℕ) (k : ℕ) → k < length ps → get_or (gather img ps) k 0 ≡ get_or img (get_or ps k 0) 0
gather-at [] img k l = absurd (omega arith)
gather-at (p ∷ ps) img zero l = refl
gather-at (p ∷ ps) img (suc k) l = gather-at ps img k (omega arith)

pub all-gather : (ps img : List ℕ) → All (λ p. get_or img p 0 < 256) ps → All (λ b. b < 256) (gather img ps)
all-gather [] img h = tt
all-gather (p ∷ ps) img h = (h.0, all-gather ps img h.1)
