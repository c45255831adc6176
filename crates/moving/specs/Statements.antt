-- What is said of placing and gathering, of any layout and any bytes (theorems B8 to B12 and C4). Assumes nothing: these are definitions.
use Rattle.std.specs.Prelude.{◌≡◌, List, [], ◌++◌, ◌↔◌, ℕ, ◌^◌, ◌<◌, length, get_or, Ok}
use Rattle.addresses.specs.Addresses.{All}
use Rattle.form.specs.Order.{NoneHolds}
use Rattle.moving.specs.Frames.{gathered_in, own_address, passed, Unused, IsImage}
use Rattle.moving.specs.Movers.{Mover}
use Rattle.moving.specs.Orders.{BrokenAt, place_refusal, gather_refusal}
use Rattle.moving.specs.Answers.{place_answer, gather_answer, registers_after, upper_after, stack_after, images_after, values_after}

module _ (M : Mover) where
  -- B8: accepted, the images are those, and no others
  abbrev pub PlacesAll : Type 0
  PlacesAll = (d : List ℕ) (h : ℕ) (values r y s : List ℕ) → place_refusal M d h values (length r) (length y) (length s) ≡ 0
      → (image : List ℕ) → (images_after M d h values r y s ≡ image) ↔ IsImage (M.frame d) h values image

  -- the hidden address is not looked at where it is not used
  abbrev pub AddressUnseen : Type 0
  AddressUnseen = (d : List ℕ) (h g : ℕ) (values r y s : List ℕ) → (M.frame d).address ≡ []
      → (place_answer M d h values (length r) (length y) (length s) ≡ place_answer M d g values (length r) (length y) (length s))
      × (registers_after M d h values r y s ≡ registers_after M d g values r y s) × (upper_after M d h values r y s ≡ upper_after M d g values r y s)
      × (stack_after M d h values r y s ≡ stack_after M d g values r y s)

  -- B9: what was placed is gathered again, and the hidden address where it is used
  abbrev pub GathersPlaced : Type 0
  GathersPlaced = (d : List ℕ) (h : ℕ) (values r y s v : List ℕ) → h < 2 ^ 64 → place_refusal M d h values (length r) (length y) (length s) ≡ 0
      → length v ≡ length values
      → (gather_answer M d (registers_after M d h values r y s) (upper_after M d h values r y s) (stack_after M d h values r y s) (length v)
      ≡ Ok (passed (M.frame d) h))
      × (values_after M d (registers_after M d h values r y s) (upper_after M d h values r y s) (stack_after M d h values r y s) v ≡ values)

  -- "unused bytes are zero and each _Bool argument's byte is 0 or 1", and the hidden address is one that may be placed
  pub record Clean (d image : List ℕ) : Type 0 where
    pub zeros : (k : ℕ) → k < length image → Unused (M.frame d) k → get_or image k 0 ≡ 0
    pub bools : (i : ℕ) → BrokenAt M d (gathered_in (M.frame d) image) i → ⊥
    pub address : NoneHolds (M.address_order d (own_address (M.frame d) image))

  -- the images r, y and s come back where the values that v holds are placed into q, w and t
  pub record ComesBack (d : List ℕ) (h : ℕ) (v r y s q w t : List ℕ) : Type 0 where
    pub accepted : place_refusal M d h v (length q) (length w) (length t) ≡ 0
    pub registers : registers_after M d h v q w t ≡ r
    pub upper : upper_after M d h v q w t ≡ y
    pub stack : stack_after M d h v q w t ≡ s

  -- B10: images gathered and placed again, with their own hidden address, are accepted and the same exactly when they are clean
  abbrev pub PlacesGathered : Type 0
  PlacesGathered = (d r y s v q w t : List ℕ) → All (λ k. get_or (r ++ (y ++ s)) k 0 < 256) (M.frame d).address
      → gather_refusal M d (length v) (length r) (length y) (length s) ≡ 0 → length q ≡ length r → length w ≡ length y → length t ≡ length s
      → ComesBack d (own_address (M.frame d) (r ++ (y ++ s))) (values_after M d r y s v) r y s q w t ↔ Clean d (r ++ (y ++ s))

  -- B11: gathering looks at no unused byte
  abbrev pub UnusedUnseen : Type 0
  UnusedUnseen = (d r y s q w t v : List ℕ) → length q ≡ length r → length w ≡ length y → length t ≡ length s
      → ((k : ℕ) → (Unused (M.frame d) k → ⊥) → get_or (r ++ (y ++ s)) k 0 ≡ get_or (q ++ (w ++ t)) k 0)
      → (gather_answer M d r y s (length v) ≡ gather_answer M d q w t (length v)) × (values_after M d r y s v ≡ values_after M d q w t v)

  -- B12: 12 exactly when 1 to 11 do not hold, nothing refuses the hidden address, and there is such an argument
  abbrev pub TwelveExactly : Type 0
  TwelveExactly = (d : List ℕ) (h : ℕ) (values : List ℕ) (registers_length upper_length stack_length : ℕ)
      → (place_refusal M d h values registers_length upper_length stack_length ≡ 12)
      ↔ ((gather_refusal M d (length values) registers_length upper_length stack_length ≡ 0) × NoneHolds (M.address_order d h) × ((i : ℕ) × BrokenAt M d values i))

  -- C4: different values never give the same images, whatever the hidden addresses
  abbrev pub NoSharedImage : Type 0
  NoSharedImage = (d : List ℕ) (h g : ℕ) (values others r y s q w t : List ℕ)
      → place_refusal M d h values (length r) (length y) (length s) ≡ 0 → place_refusal M d g others (length q) (length w) (length t) ≡ 0
      → registers_after M d h values r y s ≡ registers_after M d g others q w t → upper_after M d h values r y s ≡ upper_after M d g others q w t
      → stack_after M d h values r y s ≡ stack_after M d g others q w t → values ≡ others
