-- Request 2026-13, of the definitions and of the calls. Assumes nothing.
use mathlib.Core.Path.{◌≡◌, sym, ap, ◌∙◌, subst}
use mathlib.Core.List.{List, ◌++◌}
use Prim.Native.Nat.{ℕ, ◌<◌}
use native.Mathlib.Omega.{arith}
use lib.ListN.{length}
use Rattle.tightness.proofs.Laws.{result, told}
use Rattle.description.specs.Description.{arguments_in}
use Rattle.form.specs.declared.Refusal.{Refusal}
use Rattle.form.specs.Reading.{refusal_in}
use Rattle.layout.specs.declared.placements.Placement.{Placement as Record}
use Rattle.layout.specs.Layout.{layout_of}
use Rattle.layout.specs.Lists.{list_refusal}
use Rattle.layout.specs.Placements.{placement_at}
use Rattle.layout.specs.Extending.{Unmoved}
use Rattle.layout.proofs.Extending.{unmoved, continues_extends}
use Rattle.moving.specs.Images.{frame_of, amd64}
use Rattle.moving.specs.Frames.{IsImage}
use Rattle.moving.proofs.Amd64.{amd64-ordered}
use Rattle.moving.proofs.Extending.{same_bytes, bytes_stay, goes_on}
use Rattle.station.proofs.Orders.{kept}
use Rattle.flat.specs.declared.Layout.{Layout}
use Rattle.flat.specs.Records.{layout_of as flat_layout}
use Rattle.flat.specs.contracts.Layout as layout-record
use Rattle.callbridge.specs.Outcome.{left_in}
use Rattle.callbridge.specs.LayoutCalls.{list_given}
use Rattle.callbridge.proofs.Told.{list_told}
use Rattle.callbridge.specs.contracts.cb_lay_out
use Rattle.promises.specs.Extending.{SamePlace, NoSmaller, Extending}
use Rattle.promises.proofs.Exports.{exports, told-number, along}

-- ---- the records

module _ (d e : List ℕ) (u : Unmoved d e) where
  same_place : (i : ℕ) (p q : Record) → i < arguments_in d → p ≡ placement_at d i → q ≡ placement_at e i → SamePlace p q
  same_place i p q l a b = record {
    place = ap (λ (x : Record). x.place) b ∙ u.places i l ∙ sym (ap (λ (x : Record). x.place) a);
    size = ap (λ (x : Record). x.size) b ∙ u.sizes i l ∙ sym (ap (λ (x : Record). x.size) a);
    align = ap (λ (x : Record). x.align) b ∙ u.aligns i l ∙ sym (ap (λ (x : Record). x.align) a);
    value = ap (λ (x : Record). x.at) b ∙ u.values i l ∙ sym (ap (λ (x : Record). x.at) a);
    named = ap (λ (x : Record). x.named) b ∙ u.marks i l ∙ sym (ap (λ (x : Record). x.named) a);
  }

  no_smaller : (n m : ℕ) → NoSmaller (flat_layout (layout_of d) n) (flat_layout (layout_of e) m)
  unfolding flat_layout
  no_smaller n m = record { general = u.general; vector = u.vector; stack = u.stack; area = u.area }

-- what an accepted call leaves as a whole
laid : (d : List ℕ) (old : Layout) (room : ℕ) → list_refusal d room ≡ 0 → left_in (list_given d room) old ≡ flat_layout (layout_of d) (arguments_in d)
laid d old room z = (list_told d room).left old ∙ kept (list_refusal d room) (flat_layout (layout_of d) (arguments_in d)) old z

accepted-list : (d : List ℕ) (room : ℕ) (r : Refusal) → r ≡ refusal_in (list_given d room) → r.number ≡ 0 → list_refusal d room ≡ 0
accepted-list d room r e z = sym (told-number (list_told d room)) ∙ ap (λ (k : Refusal). k.number) (sym e) ∙ z

-- ---- all of it

pub extending : Extending
extending = record {
  same_table = continues_extends;
  unmoved = unmoved;
  goes_on = goes_on;
  bytes_stay = bytes_stay amd64 amd64-ordered;
  records_stay = λ c e r w q v a b y z x.
      let d = c.passed.0.now in
      let f = e.passed.0.now in
      let u = unmoved d f x in
      let one = exports.lay_out c r w a in
      let other = exports.lay_out e q v b in
      let left = laid d c.passed.1.0.now (length c.passed.1.1.0.now) (accepted-list d (length c.passed.1.1.0.now) r (told (result cb_lay_out.ended c) a.ensured (λ k. k.0)) y) in
      let right = laid f e.passed.1.0.now (length e.passed.1.1.0.now) (accepted-list f (length e.passed.1.1.0.now) q (told (result cb_lay_out.ended e) b.ensured (λ k. k.0)) z) in (
        λ i p o l. same_place d f u i _ _ l (one.below y i p l) (other.below z i o (omega (arith, x.pair.long))),
        along NoSmaller (told (layout-record.the_row).coded a.ensured (λ k. k.1.0) ∙ left) (told (layout-record.the_row).coded b.ensured (λ k. k.1.0) ∙ right)
            (no_smaller d f u (arguments_in d) (arguments_in f)),
      );
  images_stay = λ c e r w q v a b y z x h same.
      same_bytes (frame_of c.passed.0.now) (frame_of e.passed.0.now) (goes_on c.passed.0.now e.passed.0.now x) c.passed.1.0
      c.passed.1.1.0.now e.passed.1.1.0.now (w.1.1.1.0 ++ (w.1.1.1.1.0 ++ w.1.1.1.1.1.0)) (v.1.1.1.0 ++ (v.1.1.1.1.0 ++ v.1.1.1.1.1.0))
      ((exports.place_values c r w a).placed y)
      (subst (λ (k : ℕ). IsImage (frame_of e.passed.0.now) k e.passed.1.1.0.now (v.1.1.1.0 ++ (v.1.1.1.1.0 ++ v.1.1.1.1.1.0))) h ((exports.place_values e q v b).placed z)) same;
}
