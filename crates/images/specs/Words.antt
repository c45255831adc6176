-- A number in bytes, little-endian, and rdi's bytes in the register image: document 01, "Images and moving bytes", "The hidden address,
-- little-endian, fills rdi where it is used". Assumes nothing: these are definitions.
use Rattle.std.specs.Prelude.{List, [], ◌∷◌, ℕ, zero, suc, ◌+◌, ◌*◌, ◌/◌, ◌%◌}
use Rattle.addresses.specs.Addresses.{run, gather, scatter}

-- the n low bytes of a number, the lowest first
abbrev pub little_endian : ℕ → ℕ → List ℕ
little_endian zero h = []
little_endian (suc n) h = (h % 256) ∷ little_endian n (h / 256)

-- the number that bytes say, the lowest first
abbrev pub number : List ℕ → ℕ
number [] = 0
number (b ∷ bs) = b + 256 * number bs

-- "rdi .. at 0", 8 bytes
abbrev pub rdi : List ℕ
rdi = run 0 8

-- the image with an address in rdi, and the address in the rdi of an image
unfoldable pub with_address : List ℕ → ℕ → List ℕ
with_address image h = scatter image rdi (little_endian 8 h)

unfoldable pub address_in : List ℕ → ℕ
address_in image = number (gather image rdi)
