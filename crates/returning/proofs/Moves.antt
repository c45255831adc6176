-- The steps of putting and taking come to one scatter. Assumes nothing.
use mathlib.Core.Path.{◌≡◌, sym, ap, ◌∙◌}
use mathlib.Core.Bool.{Bool, true, false}
use mathlib.Core.Logic.{◌⊎◌, inl, inr}
use mathlib.Core.List.{List, ◌++◌}
use Prim.Native.Nat.{ℕ, ◌+◌, ◌*◌, ◌-◌, ◌≤◌, ◌<◌}
use native.Mathlib.Omega.{arith}
use lib.ListN.{length, get_or, length-map}
use Rattle.units.specs.declared.Registers.{Registers}
use Rattle.addresses.specs.Addresses.{run, gather, scatter}
use Rattle.addresses.specs.Copy.{copied, cleared}
use Rattle.addresses.proofs.Scatter.{scatter-append, gather_append}
use Rattle.addresses.proofs.Runs.{length_run}
use Rattle.places.specs.declared.ReturnPlace.{ReturnPlace}
use Rattle.places.specs.declared.Register.{Register}
use Rattle.places.specs.declared.Register.TheVariants.{General, Vector, Upper, Wide}
use Rattle.places.specs.declared.ReturnPlace.TheVariants.{Void, Memory, One, Two, St0, St0St1}
use Rattle.images.specs.Words.{with_address}
use Rattle.images.proofs.Moves.{copied-left, copied-right, gather-left_run, gather-right_run}
use Rattle.returning.specs.declared.return_image.Part.{Part}
use Rattle.returning.specs.declared.return_image.Parts.{Parts}
use Rattle.returning.specs.Moved.{return_address, upper_at, moved, ten, no_part, one_part, parts_in, parts_of, sources, targets}
use Rattle.returning.specs.Image.{in_memory, blank_return, return_image, return_value}
use Rattle.returning.specs.ImageAsks.{Returning, Single, Alone, Returnable, AskPart}
use Rattle.returning.proofs.Room.{Room, returnable_room}

-- ---- the parts, as code makes them

module _ (place : ReturnPlace) (n : ℕ) (h : Returnable place n) where
  pub asks-one : (a : Register) → place ≡ One a → Alone a n
  unfolding Returnable
  asks-one a e = rw e at h

  pub asks_two : (a b : Register) → place ≡ Two a b → Returning a × (Returning b × (8 ≤ n))
  unfolding Returnable
  asks_two a b e = let k : Returnable (Two a b) n = rw e at h in (single-returning a k.0, (single-returning b k.1.0, k.1.1.1.0))
    where
      single-returning : (c : Register) → Single c → Returning c
      single-returning (General m) g = g
      single-returning (Vector m) g = g
      single-returning (Upper m) g = g
      single-returning (Wide m) g = absurd g

pub parts-none : (place : ReturnPlace) (n : ℕ) (low high : Part) → (place ≡ Void) ⊎ (place ≡ Memory) → low ≡ no_part → high ≡ no_part → record { low = low; high = high } ≡ parts_of place n
unfolding parts_of
parts-none place n low high (inl e) l h = rw (e, l, h)
parts-none place n low high (inr e) l h = rw (e, l, h)

pub parts-st0 : (place : ReturnPlace) (n : ℕ) (low high : Part) → place ≡ St0 → low ≡ ten 0 48 → high ≡ no_part → record { low = low; high = high } ≡ parts_of place n
unfolding parts_of
parts-st0 place n low high e l h = rw (e, l, h)

pub parts-st0_st1 : (place : ReturnPlace) (n : ℕ) (low high : Part) → place ≡ St0St1 → low ≡ ten 0 48 → high ≡ ten 16 64 → record { low = low; high = high } ≡ parts_of place n
unfolding parts_of
parts-st0_st1 place n low high e l h = rw (e, l, h)

pub parts-one : (place : ReturnPlace) (n : ℕ) (a : Register) (p : Parts) → place ≡ One a → p ≡ parts_in a n → p ≡ parts_of place n
unfolding parts_of
parts-one place n a p e f = rw e f

-- in one register

pub alone-returning : (a : Register) (n : ℕ) → Alone a n → Returning a
alone-returning (General k) n h = h.0
alone-returning (Vector k) n h = h.0
alone-returning (Upper k) n h = h.0
alone-returning (Wide k) n h = omega (arith, h.0)

pub wide-asks : (a : Register) (k : Registers) (n : ℕ) → Alone a n → a ≡ Wide k → (k.0 < 1) × (16 ≤ n)
wide-asks a k n h e = let w : Alone (Wide k) n = rw e at h in (w.0, w.1.0)

-- an eightbyte of any of the three
pub row-eightbyte : (a : Register) (n : ℕ) (p : Parts) → ((k : Registers) × (a ≡ General k)) ⊎ (((k : Registers) × (a ≡ Vector k)) ⊎ ((k : Registers) × (a ≡ Upper k)))
    → p ≡ one_part a n → p ≡ parts_in a n
row-eightbyte a n p (inl w) f = f ∙ rw w.1
row-eightbyte a n p (inr (inl w)) f = f ∙ rw w.1
row-eightbyte a n p (inr (inr w)) f = f ∙ rw w.1

pub parts-row : (a : Register) (n to : ℕ) (low high : Part) → to ≡ return_address a → low ≡ moved 0 to n → high ≡ no_part → record { low = low; high = high } ≡ one_part a n
parts-row a n to low high f l h = rw (l, h, f)

pub parts-wide : (a : Register) (k : Registers) (n to up m : ℕ) (low high : Part) → a ≡ Wide k → to ≡ return_address (Wide k) → up ≡ 16 * k.0 → m ≡ n - 16 → (over : ℕ) → over ≡ 80 + up
    → low ≡ moved 0 to 16 → high ≡ moved 16 over m → record { low = low; high = high } ≡ parts_in a n
parts-wide a k n to up m low high e f g j over o l h = rw (l, h, f, j, o, g, e)

pub parts-two : (place : ReturnPlace) (n : ℕ) (a b : Register) (to up m : ℕ) (low high : Part) → place ≡ Two a b → to ≡ return_address a → up ≡ return_address b → m ≡ n - 8
    → low ≡ moved 0 to 8 → high ≡ moved 8 up m → record { low = low; high = high } ≡ parts_of place n
unfolding parts_of
parts-two place n a b to up m low high e f g k l h = rw (e, l, h, f, g, k)

-- ---- the image before the value

module _ (h : ℕ) (img y jmg z : List ℕ) (l : length img ≡ 80) (m : length y ≡ 16) (e : jmg ≡ cleared img) (f : z ≡ cleared y) where
  pub blank_none : jmg ++ z ≡ blank_return false h
  unfolding cleared blank_return
  blank_none = rw (e, f, l, m)

  pub blank-address : (kmg : List ℕ) → kmg ≡ with_address jmg h → kmg ++ z ≡ blank_return true h
  unfolding cleared blank_return with_address
  blank-address kmg g = rw (g, e, f, l, m)

-- ---- one part, in the image that it stands in

module _ (p : Part) (value image upper : ℕ) (h : AskPart p value image upper) where
  pub part-below : p.to.0 < upper_at → (p.to.0 + p.count.0 ≤ image) × (p.from.0 + p.count.0 ≤ value)
  part-below t = by h.within
    where
      by : (p.to.0 + p.count.0 ≤ upper_at) ⊎ (upper_at ≤ p.to.0) → (p.to.0 + p.count.0 ≤ image) × (p.from.0 + p.count.0 ≤ value)
      by (inl l) = omega (arith, h.whole, h.source)
      by (inr l) = absurd (omega arith)

  pub part-above : upper_at ≤ p.to.0 → (o : ℕ) → o ≡ p.to.0 - upper_at → (o + p.count.0 ≤ upper) × (p.from.0 + p.count.0 ≤ value)
  part-above t o q = omega (arith, t, h.target, h.above, h.source)

module _ (p : Part) (v img y : List ℕ) (h : AskPart p (length v) (length img) (length y)) where
  -- where the part stands in both, once it stands in the upper image
  from-above : upper_at ≤ p.to.0 → (o : ℕ) → o ≡ p.to.0 - upper_at → upper_at + o ≡ p.to.0
  from-above t o q = omega (arith, q, t)

  pub put-below : p.to.0 < upper_at → (img' : List ℕ) → img' ≡ copied img p.to.0 v p.from.0 p.count.0
      → img' ++ y ≡ copied (img ++ y) p.to.0 v p.from.0 p.count.0
  unfolding copied
  put-below t img' f = ap (λ (x : List ℕ). x ++ y) f ∙ copied-left img y v p.to.0 p.from.0 p.count.0 (part-below p _ _ _ h t).0

  pub put-above : upper_at ≤ p.to.0 → (o : ℕ) → o ≡ p.to.0 - upper_at → (y' : List ℕ) → y' ≡ copied y o v p.from.0 p.count.0
      → img ++ y' ≡ copied (img ++ y) p.to.0 v p.from.0 p.count.0
  unfolding copied
  put-above t o q y' f =
      ap (λ (x : List ℕ). img ++ x) f
      ∙ copied-right upper_at img y v o p.from.0 p.count.0 h.whole
      ∙ ap (λ (to : ℕ). scatter (img ++ y) (run to p.count.0) (gather v (run p.from.0 p.count.0))) (from-above t o q)

  pub take_below : p.to.0 < upper_at → (w : List ℕ) → w ≡ copied v p.from.0 img p.to.0 p.count.0 → w ≡ copied v p.from.0 (img ++ y) p.to.0 p.count.0
  unfolding copied
  take_below t w f =
      f ∙ ap (scatter v (run p.from.0 p.count.0)) (gather-left_run img y p.to.0 p.count.0 (part-below p _ _ _ h t).0)

  pub take-above : upper_at ≤ p.to.0 → (o : ℕ) → o ≡ p.to.0 - upper_at → (w : List ℕ) → w ≡ copied v p.from.0 y o p.count.0
      → w ≡ copied v p.from.0 (img ++ y) p.to.0 p.count.0
  unfolding copied
  take-above t o q w f =
      f
      ∙ ap (scatter v (run p.from.0 p.count.0))
      (gather-right_run upper_at img y o p.count.0 h.whole ∙ ap (λ (to : ℕ). gather (img ++ y) (run to p.count.0)) (from-above t o q))

-- ---- two parts, one after the other

two-copies : (dst src : List ℕ) (p j n q k m : ℕ) → copied (copied dst p src j n) q src k m ≡ scatter dst (run p n ++ run q m) (gather src (run j n ++ run k m))
unfolding copied
two-copies dst src p j n q k m =
    sym (scatter-append (run p n) (run q m) dst (gather src (run j n)) (gather src (run k m)) (length_run p n ∙ sym (length-map (run j n) (λ i. get_or src i 0) ∙ length_run j n)))
    ∙ ap (scatter dst (run p n ++ run q m)) (sym (gather_append (run j n) (run k m) src))

module _ (place : ReturnPlace) (n : ℕ) (h : Returnable place n) (p : Parts) (e : p ≡ parts_of place n) where
  room : Room p n
  room = rw e (returnable_room place n h)

  pub asks-low : (low : Part) (value image upper : ℕ) → low ≡ p.low → value ≡ n → image ≡ 80 → upper ≡ 16 → AskPart low value image upper
  asks-low low value image upper f g k m = rw (f, g, k, m) room.low

  pub asks-high : (high : Part) (value image upper : ℕ) → high ≡ p.high → value ≡ n → image ≡ 80 → upper ≡ 16 → AskPart high value image upper
  asks-high high value image upper f g k m = rw (f, g, k, m) room.high

-- all of the images
pub value-put : (place : ReturnPlace) (b : Bool) (h : ℕ) (v img jmg kmg : List ℕ) (p : Parts) → p ≡ parts_of place (length v) → b ≡ in_memory place → img ≡ blank_return b h
    → jmg ≡ copied img p.low.to.0 v p.low.from.0 p.low.count.0 → kmg ≡ copied jmg p.high.to.0 v p.high.from.0 p.high.count.0
    → kmg ≡ return_image place h v
unfolding return_image sources targets
value-put place b h v img jmg kmg p e m f g k =
    k ∙ rw (g, f, m, e) (two-copies _ v _ _ _ _ _ _)

-- all of the value
pub value_taken : (place : ReturnPlace) (img v w x y : List ℕ) (p : Parts) → p ≡ parts_of place (length v) → w ≡ cleared v
    → x ≡ copied w p.low.from.0 img p.low.to.0 p.low.count.0 → y ≡ copied x p.high.from.0 img p.high.to.0 p.high.count.0
    → y ≡ return_value place (length v) img
unfolding return_value sources targets cleared
value_taken place img v w x y p e f g k =
    k ∙ rw (g, f, e) (two-copies _ img _ _ _ _ _ _)
