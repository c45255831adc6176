-- Values added behind others move none of their bytes (request 2026-13), of any layout and of document 01's. Assumes nothing.
use mathlib.Core.Path.{◌≡◌, refl, sym, ap, ◌∙◌}
use mathlib.Core.Bool.{Bool, cond}
use mathlib.Core.List.{List, [], ◌++◌}
use Prim.Native.Nat.{ℕ}
use lib.ListN.{length, get_or, take, length-map}
use lib.Seq.{take-append_seam}
use Rattle.addresses.specs.Addresses.{gather}
use Rattle.addresses.proofs.Scatter.{gather_append}
use Rattle.images.specs.Words.{rdi, little_endian}
use Rattle.places.specs.Places.{eights, after}
use Rattle.places.specs.Images.{stack_at, addresses}
use Rattle.layout.specs.Arguments.{shapes, used_first}
use Rattle.layout.specs.Extending.{Extends}
use Rattle.layout.proofs.Extending.{added, hidden-same, addresses-more}
use Rattle.moving.specs.Frames.{Frame, IsImage}
use Rattle.moving.specs.Movers.{Mover, Ordered}
use Rattle.moving.specs.Images.{addresses_of, frame_of}
use Rattle.moving.specs.Extending.{GoesOn, SameBytes, BytesStay}
use Rattle.moving.proofs.Theorems.{places_all}

-- the first values of the longer list are where those of the shorter one are
module _ (F G : Frame) (c : GoesOn F G) (h : ℕ) (values longer image other : List ℕ) (i : IsImage F h values image) (j : IsImage G h longer other) where
  first-values : take (length values) longer ≡ values → gather other F.places ≡ values
  first-values e =
      let long : length (gather other F.places) ≡ length values = length-map F.places (λ p. get_or other p 0) ∙ sym (length-map F.places (λ p. get_or image p 0)) ∙ ap length i.each in
      let all : gather other F.places ++ gather other c.more ≡ longer = sym (gather_append F.places c.more other) ∙ ap (gather other) (sym c.places) ∙ j.each in
      sym (take-append_seam (gather other F.places) (gather other c.more))
      ∙ ap (λ (n : ℕ). take n (gather other F.places ++ gather other c.more)) long
      ∙ ap (take (length values)) all
      ∙ e

  same_address : gather other F.address ≡ gather image F.address
  same_address =
      ap (gather other) (sym c.address) ∙ j.address ∙ ap (λ (a : List ℕ). little_endian (length a) h) c.address ∙ sym i.address

  pub same_bytes : take (length values) longer ≡ values → SameBytes F image other
  same_bytes e = record { values = first-values e ∙ sym i.each; address = same_address }

pub bytes_stay : (M : Mover) → Ordered M → BytesStay M
bytes_stay M O d e h values longer r y s q w t c ok fine same =
    same_bytes (M.frame d) (M.frame e) c h values longer _ _ ((places_all M O d h values r y s ok _).0 refl) ((places_all M O e h longer q w t fine _).0 refl) same

-- of document 01's images
pub goes_on : (d e : List ℕ) → Extends d e → GoesOn (frame_of d) (frame_of e)
unfolding addresses_of
goes_on d e x = record {
  more = addresses stack_at eights (after eights (used_first d) (shapes d)) (added d e);
  places = addresses-more d e x;
  address = ap (λ (b : Bool). cond b rdi []) (hidden-same d e x);
}
