-- Values added behind others move none of their bytes, of any layout: document 02, request 2026-13. Assumes nothing: these are definitions.
use Rattle.std.specs.Prelude.{◌≡◌, List, ◌++◌, ℕ, length, take}
use Rattle.addresses.specs.Addresses.{gather}
use Rattle.moving.specs.Frames.{Frame}
use Rattle.moving.specs.Movers.{Mover}
use Rattle.moving.specs.Orders.{place_refusal}
use Rattle.moving.specs.Answers.{images_after}

-- the frame G goes on where F ends: its first values stand where those of F do, and so does the hidden address
pub record GoesOn (F G : Frame) : Type 0 where
  pub more : List ℕ
  pub places : G.places ≡ F.places ++ more
  pub address : G.address ≡ F.address

-- two images hold the same values of F, and the same hidden address
pub record SameBytes (F : Frame) (image other : List ℕ) : Type 0 where
  pub values : gather other F.places ≡ gather image F.places
  pub address : gather other F.address ≡ gather image F.address

module _ (M : Mover) where
  -- "each value byte written there is the same for equal values and an equal hidden address": of the images that placing leaves, whatever stood in them
  abbrev pub BytesStay : Type 0
  BytesStay = (d e : List ℕ) (h : ℕ) (values longer r y s q w t : List ℕ) → GoesOn (M.frame d) (M.frame e)
      → place_refusal M d h values (length r) (length y) (length s) ≡ 0 → place_refusal M e h longer (length q) (length w) (length t) ≡ 0
      → take (length values) longer ≡ values → SameBytes (M.frame d) (images_after M d h values r y s) (images_after M e h longer q w t)
