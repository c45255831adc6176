-- Placing and gathering undo each other, of any sound frame: once for every layout. Assumes nothing.
use mathlib.Core.Path.{◌≡◌, refl, sym, ap, ap₂, ◌∙◌}
use mathlib.Core.Bool.{cond}
use mathlib.Core.List.{List, [], ◌∷◌, ◌++◌}
use mathlib.Core.Logic.{◌≢◌}
use Prim.Native.Nat.{ℕ, zero, suc, ◌*◌, ◌/◌, ◌^◌, ◌<◌}
use native.Mathlib.Omega.{arith}
use native.Mathlib.Nat.{pow-suc}
use borrow.Author.Tests.{ne_eqb}
use lib.Dec.{eqb}
use lib.ListN.{length, get_or, replicate, length-replicate, length-map}
use Rattle.addresses.specs.Addresses.{scatter, gather, All, Absent}
use Rattle.addresses.proofs.Scatter.{length-scatter, scatter-absent, gather-scatter, scatter-append, gather_append, scatter-gather, gather-same}
use Rattle.addresses.proofs.Lists.{all_map}
use Rattle.images.specs.Words.{little_endian, number}
use Rattle.images.proofs.Words.{bytes_of-number}
use Rattle.images.proofs.Gathers.{get_d_zeros, all-present, all-gather}
use Rattle.moving.specs.Frames.{Frame, room, Sound, empty_in, placed_in, gathered_in, own_address, passed, Unused, IsImage}

length-little : (n h : ℕ) → length (little_endian n h) ≡ n
length-little zero h = refl
length-little (suc n) h = ap suc (length-little n (h / 256))

-- a number that n bytes hold
number-little : (n h : ℕ) → h < 256 ^ n → number (little_endian n h) ≡ h
number-little zero h l = omega arith
number-little (suc n) h l =
    let e : 256 ^ suc n ≡ 256 ^ n * 256 = pow-suc 256 n in
    let q : h / 256 < 256 ^ n = omega arith in
    omega (arith, number-little n (h / 256) q)

-- and one of which no byte is kept where there is none
number_passed : (ps : List ℕ) (h : ℕ) → (ps ≢ [] → h < 256 ^ length ps) → number (little_endian (length ps) h) ≡ cond (eqb (length ps) 0) 0 h
number_passed [] h l = refl
number_passed (p ∷ ps) h l =
    rw (ne_eqb (length (p ∷ ps)) 0 (λ e. omega arith)) (number-little (length (p ∷ ps)) h (l (λ e. let z : suc (length ps) ≡ 0 = ap length e in omega arith)))

module _ (F : Frame) where
  length-zeros : length {A = ℕ} (replicate (room F) 0) ≡ room F
  length-zeros = length-replicate {A = ℕ} (room F) 0

  length-empty : (h : ℕ) → length (empty_in F h) ≡ room F
  unfolding empty_in
  length-empty h = length-scatter F.address (replicate (room F) 0) (little_endian (length F.address) h) ∙ length-zeros

  pub length-placed : (h : ℕ) (vals : List ℕ) → length (placed_in F h vals) ≡ room F
  unfolding placed_in
  length-placed h vals = length-scatter F.places (empty_in F h) vals ∙ length-empty h

  pub length-gathered : (img : List ℕ) → length (gathered_in F img) ≡ length F.places
  unfolding gathered_in
  length-gathered img = length-map F.places (λ p. get_or img p 0)

  -- ---- all used bytes, the hidden address first: placing is one scattering into zeros

  abbrev all : List ℕ
  all = F.address ++ F.places

  placed-whole : (h : ℕ) (vals : List ℕ) → placed_in F h vals ≡ scatter (replicate (room F) 0) all (little_endian (length F.address) h ++ vals)
  unfolding placed_in empty_in
  placed-whole h vals =
      sym (scatter-append F.address F.places (replicate (room F) 0) (little_endian (length F.address) h) vals (sym (length-little (length F.address) h)))

  absent-unused : (k : ℕ) → Absent k all → Unused F k
  absent-unused k a = record { absent = right F.address a; past = left F.address a }
    where
      left : (ps : List ℕ) → Absent k (ps ++ F.places) → Absent k ps
      left [] h = tt
      left (p ∷ ps) h = (h.0, left ps h.1)

      right : (ps : List ℕ) → Absent k (ps ++ F.places) → Absent k F.places
      right [] h = h
      right (p ∷ ps) h = right ps h.1

  -- an image that is zero elsewhere is made of what is gathered from it
  again : (img : List ℕ) → length img ≡ room F → ((k : ℕ) → k < length img → Unused F k → get_or img k 0 ≡ 0)
      → scatter (replicate (room F) 0) all (gather img all) ≡ img
  again img l z =
      scatter-gather all (replicate (room F) 0) img (length-zeros ∙ sym l) (λ k m a. z k m (absent-unused k a) ∙ sym (get_d_zeros (room F) k))

  pub image-placed : (h : ℕ) (vals img : List ℕ) → IsImage F h vals img → placed_in F h vals ≡ img
  image-placed h vals img i =
      placed-whole h vals
      ∙ ap (λ (x : List ℕ). scatter (replicate (room F) 0) all x)
      (ap₂ (λ (x y : List ℕ). x ++ y) (sym i.address) (sym i.each) ∙ sym (gather_append F.address F.places img))
      ∙ again img i.long (λ k m u. i.zeros k u)

  pub placed-zero : (h : ℕ) (vals : List ℕ) (k : ℕ) → Unused F k → get_or (placed_in F h vals) k 0 ≡ 0
  unfolding placed_in empty_in
  placed-zero h vals k u =
      scatter-absent F.places (empty_in F h) vals k u.absent
      ∙ scatter-absent F.address (replicate (room F) 0) (little_endian (length F.address) h) k u.past
      ∙ get_d_zeros (room F) k

  -- no unused byte is gathered
  pub unused_gathered : (img jmg : List ℕ) → ((k : ℕ) → (Unused F k → ⊥) → get_or img k 0 ≡ get_or jmg k 0)
      → (gathered_in F img ≡ gathered_in F jmg) × (own_address F img ≡ own_address F jmg)
  unfolding gathered_in own_address
  unused_gathered img jmg same = (
    gather-same F.places img jmg (all-present F.places (λ p. get_or img p 0 ≡ get_or jmg p 0) (λ p n. same p (λ u. n u.absent))),
    ap number (gather-same F.address img jmg (all-present F.address (λ p. get_or img p 0 ≡ get_or jmg p 0) (λ p n. same p (λ u. n u.past)))),
  )

  -- no hidden address is looked at where none is passed
  pub placed-unseen : (h g : ℕ) (vals : List ℕ) → F.address ≡ [] → placed_in F h vals ≡ placed_in F g vals
  unfolding placed_in empty_in
  placed-unseen h g vals e = ap (λ (img : List ℕ). scatter img F.places vals) (by F.address e)
    where
      by : (ps : List ℕ) → ps ≡ []
          → scatter (replicate (room F) 0) ps (little_endian (length ps) h) ≡ scatter (replicate (room F) 0) ps (little_endian (length ps) g)
      by [] q = refl
      by (p ∷ ps) q = absurd (let z : suc (length ps) ≡ 0 = ap length q in omega arith)

  -- ---- images that are no other's

  module _ (S : Sound F) where
    pub gathered-placed : (h : ℕ) (vals : List ℕ) → length vals ≡ length F.places → gathered_in F (placed_in F h vals) ≡ vals
    unfolding gathered_in placed_in
    gathered-placed h vals l = gather-scatter F.places (empty_in F h) vals S.once (rw (length-empty h) S.inside) (sym l)

    address-placed : (h : ℕ) (vals : List ℕ) → gather (placed_in F h vals) F.address ≡ little_endian (length F.address) h
    unfolding placed_in empty_in
    address-placed h vals =
        gather-same F.address (placed_in F h vals) (empty_in F h)
        (all_map (λ k a. scatter-absent F.places (empty_in F h) vals k a) F.address S.past)
        ∙ gather-scatter F.address (replicate (room F) 0) (little_endian (length F.address) h) S.apart
        (rw length-zeros S.within) (sym (length-little (length F.address) h))

    pub own-placed : (h : ℕ) (vals : List ℕ) → (F.address ≢ [] → h < 256 ^ length F.address) → own_address F (placed_in F h vals) ≡ passed F h
    unfolding own_address passed
    own-placed h vals l = ap number (address-placed h vals) ∙ number_passed F.address h l

    pub placed-image : (h : ℕ) (vals : List ℕ) → length vals ≡ length F.places → IsImage F h vals (placed_in F h vals)
    unfolding gathered_in
    placed-image h vals l = record {
      long = length-placed h vals;
      each = gathered-placed h vals l;
      address = address-placed h vals;
      zeros = placed-zero h vals;
    }

    own-bytes : (img : List ℕ) → All (λ k. get_or img k 0 < 256) F.address → gather img F.address ≡ little_endian (length F.address) (own_address F img)
    unfolding own_address
    own-bytes img b =
        sym (bytes_of-number (gather img F.address) (all-gather F.address img b))
        ∙ ap (λ (n : ℕ). little_endian n (number (gather img F.address))) (length-map F.address (λ p. get_or img p 0))

    -- images that are zero elsewhere come back
    pub placed-gathered : (img : List ℕ) → length img ≡ room F → All (λ k. get_or img k 0 < 256) F.address
        → ((k : ℕ) → k < length img → Unused F k → get_or img k 0 ≡ 0) → placed_in F (own_address F img) (gathered_in F img) ≡ img
    unfolding gathered_in
    placed-gathered img l b z =
        placed-whole (own_address F img) (gathered_in F img)
        ∙ ap (λ (x : List ℕ). scatter (replicate (room F) 0) all x)
        (ap (λ (x : List ℕ). x ++ gather img F.places) (sym (own-bytes img b)) ∙ sym (gather_append F.address F.places img))
        ∙ again img l z
