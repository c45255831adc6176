-- What every byte of the return image is, and that putting and taking undo each other, wherever place and length suit. Assumes nothing.
use mathlib.Core.Path.{◌≡◌, refl, sym, ap, ap₂, ◌∙◌}
use mathlib.Core.Bool.{Bool, true, false, cond, false≢true}
use mathlib.Core.List.{List, [], ◌∷◌, ◌++◌, append-nil}
use Prim.Native.Nat.{ℕ, zero, suc, ◌+◌, ◌-◌, ◌^◌, ◌≤◌, ◌<◌}
use native.Mathlib.Nat.{zero-add}
use native.Mathlib.Decide.{dec_lt}
use native.Mathlib.Omega.{arith}
use lib.ListN.{length, get_or, take, drop, replicate, length-replicate, length-map, get_or-append}
use lib.Seq.{get_or-append-add}
use Rattle.addresses.specs.Addresses.{run, gather, scatter, AgreeOff}
use Rattle.addresses.proofs.Scatter.{length-scatter, gather-scatter, scatter-gather, scatter-absent, gather-same}
use Rattle.addresses.proofs.Runs.{all-run, run-append, gather-run, scatter-whole}
use Rattle.places.specs.declared.Register.{Register}
use Rattle.places.specs.declared.Register.TheVariants.{General, Vector, Upper, Wide}
use Rattle.places.specs.declared.ReturnPlace.{ReturnPlace}
use Rattle.places.specs.declared.ReturnPlace.TheVariants.{Void, Memory, One, Two, St0, St0St1}
use Rattle.images.specs.Words.{little_endian, number}
use Rattle.images.proofs.Words.{number_of-bytes, bytes_of-number}
use Rattle.images.proofs.Gathers.{get_d_zeros, all-present, gather-at, all-gather}
use Rattle.returning.specs.Moved.{parts_in, parts_of, sources_in, sources, targets}
use Rattle.returning.specs.Image.{in_memory, rax, blank_return, return_image, return_value, returned_address, trimmed}
use Rattle.returning.specs.ImageAsks.{Alone, Returnable}
use Rattle.returning.specs.ImageStatements.{MovedOnce}
use Rattle.returning.proofs.Room.{returnable_sound}
use Rattle.returning.specs.Statements.{Unused, IsImage}

-- ---- the blank image

length-blank : (b : Bool) (h : ℕ) → length (blank_return b h) ≡ 96
unfolding blank_return
length-blank true h = refl
length-blank false h = refl

-- zero wherever the hidden address is not
blank-zero : (b : Bool) (h k : ℕ) → (b ≡ true → 8 ≤ k) → get_or (blank_return b h) k 0 ≡ 0
unfolding blank_return
blank-zero false h k l = get_d_zeros 96 k
blank-zero true h k l =
    let q : k ≡ 8 + (k - 8) = omega (arith, l refl) in
    ap (λ (j : ℕ). get_or (little_endian 8 h ++ replicate 88 0) j 0) q ∙ get_or-append-add (little_endian 8 h) (replicate 88 0) (k - 8) 0 ∙ get_d_zeros 88 (k - 8)

-- the hidden address where it is
blank-rax : (h : ℕ) → gather (blank_return true h) rax ≡ little_endian 8 h
unfolding blank_return
blank-rax h = refl

-- without a value in memory no address is looked at
pub blank-unseen : (b : Bool) (h g : ℕ) → b ≡ false → blank_return b h ≡ blank_return b g
unfolding blank_return
blank-unseen b h g e = rw e

-- ---- all of a value but those six bytes

-- a value that is moved whole
whole-moved : (v : List ℕ) (n : ℕ) → length v ≡ n → scatter (replicate n 0) (run 0 n) (gather v (run 0 n)) ≡ v
whole-moved v n l = rw (← l) (ap (scatter (replicate (length v) 0) (run 0 (length v))) all ∙ scatter-whole v (replicate (length v) 0) (length-replicate (length v) 0))
  where
    take_all : (w : List ℕ) → take (length w) w ≡ w
    take_all [] = refl
    take_all (x ∷ w) = ap (λ (t : List ℕ). x ∷ t) (take_all w)

    all : gather v (run 0 (length v)) ≡ v
    all = gather-run (length v) 0 v (omega arith) ∙ take_all v

none-moved : (v : List ℕ) (n : ℕ) → length v ≡ n → n ≡ 0 → replicate n 0 ≡ v
none-moved [] n l e = rw e
none-moved (x ∷ v) n l e = absurd (omega arith)

-- of a value in one register all is moved
alone-moved : (a : Register) (n : ℕ) → Alone a n → (v : List ℕ) → length v ≡ n
    → scatter (replicate n 0) (sources_in (parts_in a n)) (gather v (sources_in (parts_in a n))) ≡ v
alone-moved (General k) n h v l = ap (λ (ps : List ℕ). scatter (replicate n 0) ps (gather v ps)) (append-nil (run 0 n)) ∙ whole-moved v n l
alone-moved (Vector k) n h v l = ap (λ (ps : List ℕ). scatter (replicate n 0) ps (gather v ps)) (append-nil (run 0 n)) ∙ whole-moved v n l
alone-moved (Upper k) n h v l = ap (λ (ps : List ℕ). scatter (replicate n 0) ps (gather v ps)) (append-nil (run 0 n)) ∙ whole-moved v n l
alone-moved (Wide k) n h v l =
    let e : 16 + (n - 16) ≡ n = omega (arith, h.1.0) in
    ap (λ (ps : List ℕ). scatter (replicate n 0) ps (gather v ps)) (sym (run-append 0 16 (n - 16)) ∙ ap (run 0) e) ∙ whole-moved v n l

-- what is moved of a value, over zeros
pub moved-trimmed : (place : ReturnPlace) (n : ℕ) → Returnable place n → (v : List ℕ) → length v ≡ n
    → scatter (replicate n 0) (sources place n) (gather v (sources place n)) ≡ trimmed place v
unfolding Returnable sources parts_of
moved-trimmed Void n h v l = none-moved v n l h
moved-trimmed Memory n h v l = none-moved v n l h
moved-trimmed (One a) n h v l = alone-moved a n h v l
moved-trimmed (Two a b) n h v l =
    let e : 8 + (n - 8) ≡ n = omega (arith, h.1.1.1.0) in
    ap (λ (ps : List ℕ). scatter (replicate n 0) ps (gather v ps)) (sym (run-append 0 8 (n - 8)) ∙ ap (run 0) e) ∙ whole-moved v n l
moved-trimmed St0 n h v l =
    let first : gather v (run 0 10) ≡ take 10 v = gather-run 10 0 v (omega arith) in
    ap (λ (m : ℕ). scatter (replicate m 0) (run 0 10) (gather v (run 0 10))) h ∙ ap (λ (x : List ℕ). x ++ replicate 6 0) first
moved-trimmed St0St1 n h v l =
    let first : gather v (run 0 10) ≡ take 10 v = gather-run 10 0 v (omega arith) in
    let second : gather v (run 16 10) ≡ take 10 (drop 16 v) = gather-run 10 16 v (omega arith) in
    ap (λ (m : ℕ). scatter (replicate m 0) (run 0 10 ++ run 16 10) (gather v (run 0 10 ++ run 16 10))) h
    ∙ ap₂ (λ (x y : List ℕ). x ++ (replicate 6 0 ++ (y ++ replicate 6 0))) first second

-- ---- a place and a length that suit one another

module _ (place : ReturnPlace) (n : ℕ) (fit : Returnable place n) where
  sound : MovedOnce place n
  sound = returnable_sound place n fit

  length-sources : (v : List ℕ) → length (targets place n) ≡ length (gather v (sources place n))
  length-sources v = sound.pairs ∙ sym (length-map (sources place n) (λ p. get_or v p 0))

  length-targets : (img : List ℕ) → length (sources place n) ≡ length (gather img (targets place n))
  length-targets img = sym sound.pairs ∙ sym (length-map (targets place n) (λ p. get_or img p 0))

  -- the image of n bytes
  abbrev image : ℕ → List ℕ → List ℕ
  image h v = scatter (blank_return (in_memory place) h) (targets place n) (gather v (sources place n))

  image-is : (h : ℕ) (v : List ℕ) → length v ≡ n → return_image place h v ≡ image h v
  unfolding return_image
  image-is h v l = ap (λ (m : ℕ). scatter (blank_return (in_memory place) h) (targets place m) (gather v (sources place m))) l

  pub length-image : (h : ℕ) (v : List ℕ) → length (return_image place h v) ≡ 96
  unfolding return_image
  length-image h v = length-scatter (targets place (length v)) (blank_return (in_memory place) h) (gather v (sources place (length v))) ∙ length-blank (in_memory place) h

  pub length-value : (img : List ℕ) → length (return_value place n img) ≡ n
  unfolding return_value
  length-value img = length-scatter (sources place n) (replicate n 0) (gather img (targets place n)) ∙ length-replicate n 0

  -- the moved bytes are those of the value
  image-moved : (h : ℕ) (v : List ℕ) → length v ≡ n → gather (return_image place h v) (targets place n) ≡ gather v (sources place n)
  image-moved h v l =
      ap (λ (x : List ℕ). gather x (targets place n)) (image-is h v l)
      ∙ gather-scatter (targets place n) (blank_return (in_memory place) h) (gather v (sources place n)) sound.once (rw (length-blank (in_memory place) h) sound.inside) (length-sources v)

  pub value-moved : (img : List ℕ) → gather (return_value place n img) (sources place n) ≡ gather img (targets place n)
  unfolding return_value
  value-moved img =
      gather-scatter (sources place n) (replicate n 0) (gather img (targets place n)) sound.apart (rw (length-replicate {A = ℕ} n 0) sound.within) (length-targets img)

  -- what was put is taken again, those six bytes apart
  pub value-image : (h : ℕ) (v : List ℕ) → length v ≡ n → return_value place n (return_image place h v) ≡ trimmed place v
  unfolding return_value
  value-image h v l = ap (scatter (replicate n 0) (sources place n)) (image-moved h v l) ∙ moved-trimmed place n fit v l

  -- rax is left alone where the hidden address is there
  image-rax : (h : ℕ) (v : List ℕ) → in_memory place ≡ true → gather (return_image place h v) rax ≡ little_endian 8 h
  unfolding return_image
  image-rax h v e = memory place (length v) h v e
    where
      memory : (p : ReturnPlace) (m g : ℕ) (w : List ℕ) → in_memory p ≡ true
          → gather (scatter (blank_return (in_memory p) g) (targets p m) (gather w (sources p m))) rax ≡ little_endian 8 g
      memory Void m g w q = absurd (false≢true q)
      memory Memory m g w q = unfold targets parts_of in blank-rax g
      memory (One a) m g w q = absurd (false≢true q)
      memory (Two a b) m g w q = absurd (false≢true q)
      memory St0 m g w q = absurd (false≢true q)
      memory St0St1 m g w q = absurd (false≢true q)

  pub address-image : (h : ℕ) (v : List ℕ) → h < 2 ^ 64 → returned_address place (return_image place h v) ≡ cond (in_memory place) h 0
  unfolding returned_address
  address-image h v l = by (in_memory place) refl
    where
      by : (b : Bool) → in_memory place ≡ b → cond b (number (gather (return_image place h v) rax)) 0 ≡ cond b h 0
      by true e = ap number (image-rax h v e) ∙ number_of-bytes h l
      by false e = refl

  -- unused bytes of the image are zero
  pub image-zero : (h : ℕ) (v : List ℕ) (k : ℕ) → length v ≡ n → Unused place n k → get_or (return_image place h v) k 0 ≡ 0
  image-zero h v k l u =
      ap (λ (x : List ℕ). get_or x k 0) (image-is h v l)
      ∙ scatter-absent (targets place n) (blank_return (in_memory place) h) (gather v (sources place n)) k u.absent
      ∙ blank-zero (in_memory place) h k u.past

  -- what every byte of the image is, one way
  pub put-image : (h : ℕ) (v : List ℕ) → length v ≡ n → IsImage place h v (return_image place h v)
  put-image h v l = record {
    long = length-image h v;
    values = rw l (image-moved h v l);
    address = λ e. image-rax h v e;
    zeros = λ k u. image-zero h v k l (rw l at u);
  }

  -- an image that agrees with the blank one wherever no value is
  agree : (h : ℕ) (img : List ℕ) → length img ≡ 96 → (in_memory place ≡ true → gather img rax ≡ little_endian 8 h)
      → ((k : ℕ) → k < length img → Unused place n k → get_or img k 0 ≡ 0) → AgreeOff (targets place n) (blank_return (in_memory place) h) img
  agree h img e a z k l ab = by (dec_lt k 8) (in_memory place) refl
    where
      unused : (in_memory place ≡ true → 8 ≤ k) → get_or img k 0 ≡ get_or (blank_return (in_memory place) h) k 0
      unused p = z k l (record { absent = ab; past = p }) ∙ sym (blank-zero (in_memory place) h k p)

      by : Dec (k < 8) → (b : Bool) → in_memory place ≡ b → get_or img k 0 ≡ get_or (blank_return (in_memory place) h) k 0
      by (no m) b q = unused (λ t. omega arith)
      by (yes m) false q = unused (λ t. absurd (false≢true (sym q ∙ t)))
      by (yes m) true q = unfold blank_return in rw q
          (sym (gather-at rax img k (omega arith) ∙ ap (λ (j : ℕ). get_or img j 0) (run_at 0 8 k m ∙ zero-add k))
          ∙ ap (λ (x : List ℕ). get_or x k 0) (a q)
          ∙ sym (get_or-append (little_endian 8 h) (replicate 88 0) 0 k (omega arith)))
        where
          run_at : (p m j : ℕ) → j < m → get_or (run p m) j 0 ≡ p + j
          run_at p zero j g = absurd (omega arith)
          run_at p (suc m) zero g = omega arith
          run_at p (suc m) (suc j) g = run_at (suc p) m j (omega arith) ∙ omega arith

  put-agrees : (h : ℕ) (v img : List ℕ) → length v ≡ n → gather v (sources place n) ≡ gather img (targets place n) → length img ≡ 96
      → (in_memory place ≡ true → gather img rax ≡ little_endian 8 h) → ((k : ℕ) → k < length img → Unused place n k → get_or img k 0 ≡ 0)
      → return_image place h v ≡ img
  put-agrees h v img l same e a z =
      image-is h v l
      ∙ ap (scatter (blank_return (in_memory place) h) (targets place n)) same
      ∙ scatter-gather (targets place n) (blank_return (in_memory place) h) img (length-blank (in_memory place) h ∙ sym e) (agree h img e a z)

  -- and the other way: such an image is no other
  pub image-put : (h : ℕ) (v img : List ℕ) → length v ≡ n → IsImage place h v img → return_image place h v ≡ img
  image-put h v img l i =
      let j : (gather img (targets place n) ≡ gather v (sources place n)) × ((k : ℕ) → Unused place n k → get_or img k 0 ≡ 0) = rw (← l) (i.values, i.zeros) in
      put-agrees h v img l (sym j.0) i.long i.address (λ k m u. j.1 k u)

  -- an image taken and put again
  pub image-value : (h : ℕ) (img : List ℕ) → length img ≡ 96 → (in_memory place ≡ true → gather img rax ≡ little_endian 8 h)
      → ((k : ℕ) → k < length img → Unused place n k → get_or img k 0 ≡ 0) → return_image place h (return_value place n img) ≡ img
  image-value h img e a z = put-agrees h (return_value place n img) img (length-value img) (value-moved img) e a z

  -- an image's own hidden address, as rax has it
  pub own-address : (img : List ℕ) → ((k : ℕ) → get_or img k 0 < 256) → in_memory place ≡ true → gather img rax ≡ little_endian 8 (returned_address place img)
  unfolding returned_address
  own-address img f e = rw e (sym (bytes_of-number (gather img rax) (all-gather rax img (all-run {P = λ p. get_or img p 0 < 256} 0 8 (λ k l m. f k)))))

-- no unused byte is looked at
module _ (place : ReturnPlace) (n : ℕ) (img jmg : List ℕ) (same : (k : ℕ) → (Unused place n k → ⊥) → get_or img k 0 ≡ get_or jmg k 0) where
  pub value_same : return_value place n img ≡ return_value place n jmg
  unfolding return_value
  value_same =
      ap (scatter (replicate n 0) (sources place n))
      (gather-same (targets place n) img jmg (all-present (targets place n) (λ p. get_or img p 0 ≡ get_or jmg p 0) (λ p m. same p (λ u. m u.absent))))

  pub address_same : returned_address place img ≡ returned_address place jmg
  unfolding returned_address
  address_same = by (in_memory place) refl
    where
      by : (b : Bool) → in_memory place ≡ b → cond b (number (gather img rax)) 0 ≡ cond b (number (gather jmg rax)) 0
      by false e = refl
      by true e =
          ap number (gather-same rax img jmg (all-run {P = λ p. get_or img p 0 ≡ get_or jmg p 0} 0 8 (λ k l m. same k (λ u. omega (arith, u.past e)))))
