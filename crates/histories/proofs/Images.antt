-- The images that are placed for values: how long they are, and that the values are gathered from them again. Assumes nothing.
use mathlib.Core.Path.{◌≡◌, refl, sym, ap, ◌∙◌}
use mathlib.Core.List.{List, [], ◌∷◌, ◌++◌}
use Prim.Native.Nat.{ℕ, zero, suc, ◌+◌, ◌<◌}
use native.Mathlib.Omega.{arith}
use lib.ListN.{length, get_or, take, drop, replicate, length-replicate, length-take, length-drop, take-append-drop}
use lib.Seq.{take_at, drop_at}
use Rattle.addresses.specs.Addresses.{gather, All}
use Rattle.addresses.proofs.Scatter.{length-scatter, gather-scatter, gather_append}
use Rattle.places.specs.declared.Used.{Used}
use Rattle.places.specs.Shapes.{Shape, Shaped}
use Rattle.places.specs.Places.{Slot, place, next, after}
use Rattle.places.specs.Statements.{Seated}
use Rattle.places.specs.Images.{bytes_of, addresses, total}
use Rattle.places.proofs.Apart.{apart, length-bytes}
use Rattle.station.specs.Paper.{Paper, area_of}
use Rattle.histories.specs.Values.{cut, joined, blank, images_for}

length-blank : (P : Paper) (d address : List ℕ) (n : ℕ) → length (blank P d address n) ≡ P.stack_at + n
unfolding blank
length-blank P d address n = length-scatter (P.address d) (replicate (P.stack_at + n) 0) address ∙ length-replicate {A = ℕ} (P.stack_at + n) 0

-- ---- argument by argument

length-gather : (images ps : List ℕ) → length (gather images ps) ≡ length ps
length-gather images [] = refl
length-gather images (p ∷ ps) = ap suc (length-gather images ps)

-- of the values gathered from an image, those of argument p are gathered from its place
pub cut-gathered : (base : ℕ) (slot : Slot) (o : Shape) (ss : List Shape) (p : ℕ) (u : Used) (images : List ℕ) → All Shaped ss → p < length ss
    → get_or (cut ss (gather images (addresses base slot u ss))) p [] ≡ gather images (bytes_of base (place slot (after slot u (take p ss)) (get_or ss p o)) (get_or ss p o).size)
cut-gathered base slot o [] p u images h l = absurd (omega arith)
cut-gathered base slot o (s ∷ ss) zero u images h l =
    ap (λ (v : List ℕ). take s.size v) (gather_append (bytes_of base (place slot u s) s.size) (addresses base slot (next slot u s) ss) images)
    ∙ take_at (gather images (bytes_of base (place slot u s) s.size)) (gather images (addresses base slot (next slot u s) ss)) s.size
    (length-gather images (bytes_of base (place slot u s) s.size) ∙ length-bytes base slot u s h.0)
cut-gathered base slot o (s ∷ ss) (suc p) u images h l =
    ap (λ (v : List ℕ). get_or (cut ss v) p [])
    (ap (λ (v : List ℕ). drop s.size v) (gather_append (bytes_of base (place slot u s) s.size) (addresses base slot (next slot u s) ss) images)
    ∙ drop_at (gather images (bytes_of base (place slot u s) s.size)) (gather images (addresses base slot (next slot u s) ss)) s.size
    (length-gather images (bytes_of base (place slot u s) s.size) ∙ length-bytes base slot u s h.0))
    ∙ cut-gathered base slot o ss p (next slot u s) images h.1 (omega arith)

-- the values cut are the values, and each is as long as its argument
pub cut-joined : (ss : List Shape) (values : List ℕ) → length values ≡ total ss → joined (cut ss values) ≡ values
cut-joined [] [] h = refl
cut-joined [] (v ∷ values) h = absurd (omega arith)
cut-joined (s ∷ ss) values h =
    ap (λ (l : List ℕ). take s.size values ++ l) (cut-joined ss (drop s.size values) (rw length-drop (omega arith))) ∙ take-append-drop s.size values

pub cut-long : (o : Shape) (ss : List Shape) (values : List ℕ) (p : ℕ) → length values ≡ total ss → p < length ss → length (get_or (cut ss values) p []) ≡ (get_or ss p o).size
cut-long o [] values p h l = absurd (omega arith)
cut-long o (s ∷ ss) values zero h l = rw length-take (omega arith)
cut-long o (s ∷ ss) values (suc p) h l = cut-long o ss (drop s.size values) p (rw length-drop (omega arith)) (omega arith)

pub length_cut : (ss : List Shape) (values : List ℕ) → length (cut ss values) ≡ length ss
length_cut [] values = refl
length_cut (s ∷ ss) values = ap suc (length_cut ss (drop s.size values))

module _ (P : Paper) (d address values : List ℕ) where
  pub length-images : length (images_for P d address values) ≡ P.stack_at + area_of P d
  unfolding images_for
  length-images =
      length-scatter (addresses P.stack_at P.slot (P.first d) (P.shapes d)) (blank P d address (area_of P d)) values
      ∙ length-blank P d address (area_of P d)

  pub gather-images : All Shaped (P.shapes d) → All (Seated P.stack_at) (P.shapes d) → length values ≡ total (P.shapes d)
      → gather (images_for P d address values) (addresses P.stack_at P.slot (P.first d) (P.shapes d)) ≡ values
  unfolding images_for area_of
  gather-images h seat l =
      let t = apart P.stack_at P.slot (P.shapes d) (P.first d) h seat in
      gather-scatter (addresses P.stack_at P.slot (P.first d) (P.shapes d)) (blank P d address (area_of P d)) values t.once
      (rw (length-blank P d address (area_of P d)) t.inside) (t.each ∙ sym l)
