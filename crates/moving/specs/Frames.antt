-- What the images of one description are, whatever the layout: where each value byte stands, where the hidden address stands, and how long they are;
-- and what placing and gathering do with them (document 01, "Images and moving bytes"). Register image, upper image and stack image are one list, in this
-- order: the stack image, whose length hangs on the arguments, comes last. Assumes nothing: these are definitions.
use Rattle.std.specs.Prelude.{◌≡◌, cond, List, ℕ, ◌+◌, eqb, length, get_or, replicate}
use Rattle.addresses.specs.Addresses.{scatter, gather, All, NoDup, Below, Absent}
use Rattle.images.specs.Words.{little_endian, number}

pub record Frame : Type 0 where
  pub places : List ℕ  -- the address of each value byte, argument after argument
  pub address : List ℕ  -- where the bytes of the hidden address stand, none where none is passed
  pub registers : ℕ  -- the bytes of the register image
  pub upper : ℕ  -- of the upper image: document 02, request 2026-06, "Bytes 16 to 31 stand in a second lent image"
  pub stack : ℕ  -- and of the stack image

module _ (F : Frame) where
  -- the bytes of all images
  abbrev pub room : ℕ
  room = F.registers + (F.upper + F.stack)

  -- no two value bytes stand in one place, all stand in the images, and none where the hidden address does
  pub record Sound : Type 0 where
    pub once : NoDup F.places
    pub inside : Below room F.places
    pub past : All (λ k. Absent k F.places) F.address
    pub apart : NoDup F.address
    pub within : Below room F.address

  -- "zero everywhere else in both images", and in the third. "The hidden address, little-endian", in as many bytes as it has: none where none is passed
  unfoldable pub empty_in : ℕ → List ℕ
  empty_in h = scatter (replicate room 0) F.address (little_endian (length F.address) h)

  -- "Placing copies each value byte to its place"
  unfoldable pub placed_in : ℕ → List ℕ → List ℕ
  placed_in h values = scatter (empty_in h) F.places values

  -- "Gathering does the reverse"
  unfoldable pub gathered_in : List ℕ → List ℕ
  gathered_in image = gather image F.places

  -- an image's own hidden address, 0 where none is passed
  unfoldable pub own_address : List ℕ → ℕ
  own_address image = number (gather image F.address)

  -- the hidden address h where one is passed, and else 0
  unfoldable pub passed : ℕ → ℕ
  passed h = cond (eqb (length F.address) 0) 0 h

  -- the byte at k holds no value byte, and no part of the hidden address: "Placing again lends rdi's hidden address, a used byte"
  pub record Unused (k : ℕ) : Type 0 where
    pub absent : Absent k F.places
    pub past : Absent k F.address

  -- what every byte of all images is
  pub record IsImage (h : ℕ) (values image : List ℕ) : Type 0 where
    pub long : length image ≡ room
    pub each : gather image F.places ≡ values
    pub address : gather image F.address ≡ little_endian (length F.address) h
    pub zeros : (k : ℕ) → Unused k → get_or image k 0 ≡ 0
