-- What is said of putting and taking a returned value, of any bytes: document 02, requests 2026-02, 2026-06 and 2026-11. Assumes nothing: these are definitions.
use Rattle.std.specs.Prelude.{◌≡◌, true, false, cond, List, ◌++◌, ◌↔◌, ◌≢◌, ℕ, ◌^◌, ◌≤◌, ◌<◌, length, get_or, Ok}
use Rattle.addresses.specs.Addresses.{gather, Absent}
use Rattle.description.specs.Description.{return_in, model_in, kind_at, a_at, IsBytes}
use Rattle.description.specs.declared.Model.TheVariants.{Ilp32}
use Rattle.places.specs.declared.ReturnPlace.{ReturnPlace}
use Rattle.layout.specs.Arguments.{return_place, hidden}
use Rattle.images.specs.Words.{little_endian}
use Rattle.moving.specs.Ilp32.{TooWide}
use Rattle.returning.specs.Moved.{sources, targets}
use Rattle.returning.specs.Image.{in_memory, on_x87, rax, returned_address, trimmed}
use Rattle.returning.specs.Returned.{return_length}
use Rattle.returning.specs.Orders.{put_refusal, take_refusal}
use Rattle.returning.specs.Answers.{put_answer, image_after, upper_after, images_after, take_answer, value_after, put_number, take_number}
use Rattle.returning.specs.Asks.{Lent}

-- the byte at k holds none of a value's n bytes, and no part of the hidden address
pub record Unused (place : ReturnPlace) (n k : ℕ) : Type 0 where
  pub absent : Absent k (targets place n)
  pub past : in_memory place ≡ true → 8 ≤ k

-- what every byte of both images is
pub record IsImage (place : ReturnPlace) (h : ℕ) (v image : List ℕ) : Type 0 where
  pub long : length image ≡ 96
  pub values : gather image (targets place (length v)) ≡ gather v (sources place (length v))
  pub address : in_memory place ≡ true → gather image rax ≡ little_endian 8 h
  pub zeros : (k : ℕ) → Unused place (length v) k → get_or image k 0 ≡ 0

-- accepted, the images are those, and no others
abbrev pub PutsAll : Type 0
PutsAll = (d : List ℕ) (h : ℕ) (v i y : List ℕ) → put_refusal d h v (length i) (length y) ≡ 0
    → (image : List ℕ) → (images_after d h v i y ≡ image) ↔ IsImage (return_place d) h v image

-- a value is in memory exactly where a hidden address is passed for it
abbrev pub MemoryHidden : Type 0
MemoryHidden = (d : List ℕ) → in_memory (return_place d) ≡ hidden d

-- the hidden address is looked at only where the value is in memory
abbrev pub AddressUnseen : Type 0
AddressUnseen = (d : List ℕ) (h g : ℕ) (v i y : List ℕ) → in_memory (return_place d) ≡ false
    → (put_answer d h v (length i) (length y) ≡ put_answer d g v (length i) (length y))
    × (image_after d h v i y ≡ image_after d g v i y) × (upper_after d h v i y ≡ upper_after d g v i y)

-- "Putting then taking gives the same value, those six bytes apart", and the hidden address where it is carried
abbrev pub TakesPut : Type 0
TakesPut = (d : List ℕ) (h : ℕ) (v i y w : List ℕ) → h < 2 ^ 64 → put_refusal d h v (length i) (length y) ≡ 0 → length w ≡ length v
    → (take_answer d (image_after d h v i y) (upper_after d h v i y) (length w) ≡ Ok (cond (in_memory (return_place d)) h 0))
    × (value_after d (image_after d h v i y) (upper_after d h v i y) w ≡ trimmed (return_place d) v)

-- and the very same value of every other class
abbrev pub SameElsewhere : Type 0
SameElsewhere = (place : ReturnPlace) (v : List ℕ) → on_x87 place ≡ false → trimmed place v ≡ v

-- the returned type's own record is that of _Bool
pub record ReturnsBool (d : List ℕ) : Type 0 where
  pub some : return_in d ≢ 255
  pub kind : kind_at d (return_in d) ≡ 0
  pub code : a_at d (return_in d) ≡ 0

-- unused bytes are zero, a _Bool's byte, the first of rax, is 0 or 1, and in ILP32 the hidden address is below 2^32
pub record Clean (d image : List ℕ) : Type 0 where
  pub zeros : (k : ℕ) → k < length image → Unused (return_place d) (return_length d) k → get_or image k 0 ≡ 0
  pub bool : ReturnsBool d → get_or image 0 0 ≤ 1
  pub address : model_in d ≡ Ilp32 → hidden d ≡ true → returned_address (return_place d) image < 4294967296

-- the images come back where the value v is put into i and y
pub record ComesBack (d : List ℕ) (h : ℕ) (v image upper i y : List ℕ) : Type 0 where
  pub accepted : put_refusal d h v (length i) (length y) ≡ 0
  pub again : image_after d h v i y ≡ image
  pub above : upper_after d h v i y ≡ upper

-- a value taken and put again, with the hidden address that was taken, is accepted and gives the same images exactly when they are clean
abbrev pub PutsTaken : Type 0
PutsTaken = (d image upper v i y : List ℕ) → IsBytes (image ++ upper) → take_refusal d image upper (length v) ≡ 0 → length i ≡ length image → length y ≡ length upper
    → ComesBack d (returned_address (return_place d) (image ++ upper)) (value_after d image upper v) image upper i y ↔ Clean d (image ++ upper)

-- taking looks at no unused byte: neither at those, nor at the six of a long double
abbrev pub UnusedUnseen : Type 0
UnusedUnseen = (d image upper i y v : List ℕ) → length image ≡ length i → length upper ≡ length y
    → ((k : ℕ) → (Unused (return_place d) (return_length d) k → ⊥) → get_or (image ++ upper) k 0 ≡ get_or (i ++ y) k 0)
    → (take_answer d image upper (length v) ≡ take_answer d i y (length v)) × (value_after d image upper v ≡ value_after d i y v)

-- the number of an answer is the order's, and a refusal writes nothing
pub record Refuses (d : List ℕ) (h : ℕ) (v i y : List ℕ) : Type 0 where
  pub put : put_number (put_answer d h v (length i) (length y)) ≡ put_refusal d h v (length i) (length y)
  pub unput : put_refusal d h v (length i) (length y) ≢ 0 → (image_after d h v i y ≡ i) × (upper_after d h v i y ≡ y)
  pub take : take_number (take_answer d i y (length v)) ≡ take_refusal d i y (length v)
  pub untaken : take_refusal d i y (length v) ≢ 0 → value_after d i y v ≡ v

abbrev pub RefusalsTold : Type 0
RefusalsTold = (d : List ℕ) (h : ℕ) (v i y : List ℕ) → Refuses d h v i y

-- 12 exactly when 1 to 11 do not hold and a _Bool is returned whose byte is neither 0 nor 1
abbrev pub TwelveExactly : Type 0
TwelveExactly = (d : List ℕ) (h : ℕ) (v : List ℕ) (image_length upper_length : ℕ)
    → (put_refusal d h v image_length upper_length ≡ 12) ↔ (Lent d (length v) image_length upper_length × (ReturnsBool d × (1 < get_or v 0 0)))

-- 27 exactly when 1 to 11 do not hold and an address of 2^32 or more is carried in ILP32
abbrev pub TwentySevenExactly : Type 0
TwentySevenExactly = (d : List ℕ) (h : ℕ) (v : List ℕ) (image_length upper_length : ℕ)
    → (put_refusal d h v image_length upper_length ≡ 27) ↔ (Lent d (length v) image_length upper_length × TooWide d h)

-- the returned type's own record is that of a pointer
pub record ReturnsPointer (d : List ℕ) : Type 0 where
  pub some : return_in d ≢ 255
  pub kind : kind_at d (return_in d) ≡ 0
  pub code : a_at d (return_in d) ≡ 15

-- request 2026-11, in ILP32: "A pointer in a register .. has its upper half zero", bytes 4 to 7 of rax
abbrev pub PointerUpper : Type 0
PointerUpper = (d : List ℕ) (h : ℕ) (v i y : List ℕ) → model_in d ≡ Ilp32 → put_refusal d h v (length i) (length y) ≡ 0 → ReturnsPointer d
    → (k : ℕ) → 4 ≤ k → k < 8 → get_or (images_after d h v i y) k 0 ≡ 0

-- "and so has the hidden address"
abbrev pub HiddenUpper : Type 0
HiddenUpper = (d : List ℕ) (h : ℕ) (v i y : List ℕ) → model_in d ≡ Ilp32 → put_refusal d h v (length i) (length y) ≡ 0 → hidden d ≡ true
    → (k : ℕ) → 4 ≤ k → k < 8 → get_or (images_after d h v i y) k 0 ≡ 0

-- taking is refused under 12 by nothing
abbrev pub NeverTwelve : Type 0
NeverTwelve = (d image upper : List ℕ) (value_length : ℕ) → take_refusal d image upper value_length ≢ 12

-- different values never give the same images, those six bytes apart
abbrev pub NoSharedImage : Type 0
NoSharedImage = (d : List ℕ) (h : ℕ) (v w i y j z : List ℕ) → put_refusal d h v (length i) (length y) ≡ 0 → put_refusal d h w (length j) (length z) ≡ 0
    → image_after d h v i y ≡ image_after d h w j z → upper_after d h v i y ≡ upper_after d h w j z → trimmed (return_place d) v ≡ trimmed (return_place d) w
