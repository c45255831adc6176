-- Laws of a number in eight bytes, and the loop that writes them. Assumes nothing.
use mathlib.Core.Path.{◌≡◌, refl, sym, ap, ap₂, ◌∙◌}
use mathlib.Core.List.{List, [], ◌∷◌, ◌++◌}
use Prim.Native.Nat.{ℕ, zero, suc, ◌+◌, ◌*◌, ◌-◌, ◌/◌, ◌%◌, ◌^◌, ◌≤◌, ◌<◌}
use native.Mathlib.Omega.{arith}
use lib.ListN.{length, get_or, set, take, drop}
use lib.Seq.{sets, sets-eq}
use Rattle.std.proofs.lemmas.List.{get_or-take}
use Rattle.std.specs.Int.{w64, to_le_bytes, from_le_bytes}
use Rattle.addresses.specs.Addresses.{run, gather, scatter, All}
use Rattle.addresses.proofs.Scatter.{length-scatter}
use Rattle.images.specs.Words.{little_endian, number, rdi, with_address, address_in}

-- each way round
pub number_of-bytes : (h : ℕ) → h < 2 ^ 64 → number (little_endian 8 h) ≡ h
number_of-bytes h l = omega arith

pub bytes_of-number : (bs : List ℕ) → All (λ b. b < 256) bs → little_endian (length bs) (number bs) ≡ bs
bytes_of-number [] h = refl
bytes_of-number (b ∷ bs) h =
    let l : b < 256 = h.0 in
    let low : (b + 256 * number bs) % 256 ≡ b = omega arith in
    let rest : (b + 256 * number bs) / 256 ≡ number bs = omega arith in
    ap₂ ◌∷◌ low (ap (little_endian (length bs)) rest ∙ bytes_of-number bs h.1)

-- written as std writes a number, and read as it reads one
pub written-address : (img : List ℕ) (h : ℕ) → h < 2 ^ 64 → 8 ≤ length img → (word : List ℕ) → word ≡ to_le_bytes w64 h → word ++ drop 8 img ≡ with_address img h
unfolding with_address
written-address img h m l word e =
    let same : little_endian 8 h ≡ word = grind arith in
    ap (λ (bs : List ℕ). bs ++ drop 8 img) (sym same) ∙ sym (scatter-sets (little_endian 8 h) img 0 ∙ sets-eq (little_endian 8 h) img 0 l)
  where
    scatter-sets : (vs to : List ℕ) (p : ℕ) → scatter to (run p (length vs)) vs ≡ sets to p vs
    scatter-sets [] to p = refl
    scatter-sets (v ∷ vs) to p = scatter-sets vs (set to p v) (suc p)

pub read-address : (img word : List ℕ) → word ≡ take 8 img → (n : ℕ) → n ≡ from_le_bytes w64 word → n ≡ address_in img
unfolding address_in
read-address img word e n f =
    let t = λ (i : ℕ) (l : i < 8). ap (λ (bs : List ℕ). get_or bs i 0) e ∙ get_or-take 8 img i 0 l in
    f ∙ omega (
      arith,
      t 0 (omega arith),
      t 1 (omega arith),
      t 2 (omega arith),
      t 3 (omega arith),
      t 4 (omega arith),
      t 5 (omega arith),
      t 6 (omega arith),
      t 7 (omega arith),
    )

pub length-with : (img : List ℕ) (h : ℕ) → length (with_address img h) ≡ length img
unfolding with_address
length-with img h = length-scatter rdi img (little_endian 8 h)

-- an address below 2^32 leaves the upper half of its register zero
pub upper-zero : (img : List ℕ) (h : ℕ) → h < 4294967296 → gather img rdi ≡ little_endian 8 h → (k : ℕ) → 4 ≤ k → k < 8 → get_or img k 0 ≡ 0
upper-zero img h low e k l u = ap (λ (n : ℕ). get_or img n 0) (omega arith) ∙ by (k - 4) (omega arith)
  where
    by : (j : ℕ) → j < 4 → get_or img (4 + j) 0 ≡ 0
    by zero m = ap (λ (x : List ℕ). get_or x 4 0) e ∙ omega arith
    by (suc zero) m = ap (λ (x : List ℕ). get_or x 5 0) e ∙ omega arith
    by (suc (suc zero)) m = ap (λ (x : List ℕ). get_or x 6 0) e ∙ omega arith
    by (suc (suc (suc zero))) m = ap (λ (x : List ℕ). get_or x 7 0) e ∙ omega arith
    by (suc (suc (suc (suc j)))) m = absurd (omega arith)
