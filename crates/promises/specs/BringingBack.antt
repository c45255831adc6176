-- Request 2026-02, "Bringing the result back", beside demand 2: "The return image is 80 bytes: rax, rdx at 0 and 8, then xmm0, xmm1, st0, st1 of 16
-- each. Putting and taking follow the return places; unused bytes are zero .. Putting then taking gives the same value, those six bytes apart." And request
-- 2026-06: "Bytes 16 to 31 stand .. for a returned value in a second return image of 16", the upper return image: the two are one list of 96 bytes here.
-- What `put_returned` and `take_returned` answer and leave; proofs/BringingBack.antt proves `BringingBack`. Assumes nothing: these are definitions.
use Rattle.std.specs.Prelude.{◌≡◌, map}
use Rattle.addresses.specs.Addresses.{run}
use Rattle.returning.specs.Image.{return_image}
use Rattle.returning.specs.Cases.{ImageCase, puts, hidden, image_cases}
use Rattle.returning.specs.Statements.{PutsAll, MemoryHidden, AddressUnseen, TakesPut, SameElsewhere, PutsTaken, UnusedUnseen, RefusalsTold, TwelveExactly, NeverTwelve, NoSharedImage}

-- the images of each worked case, as the definitions give it
abbrev pub imaged : ImageCase → ImageCase
imaged (puts place n image) = puts place n (return_image place hidden (run 1 n))

pub record BringingBack : Type 0 where
  -- each significant value byte is at its return place, the hidden address in rax where the value is in memory, and every other of the 96 bytes is
  -- zero, whatever stood there
  pub puts_all : PutsAll
  pub cases_hold : map imaged image_cases ≡ image_cases
  -- "A MEMORY return carries the hidden address in rax and no value bytes": that is where the layout passes one; elsewhere it is not looked at
  pub memory_hidden : MemoryHidden
  pub address_unseen : AddressUnseen
  -- "Putting then taking gives the same value, those six bytes apart", and the very same of every other class
  pub takes_put : TakesPut
  pub same_elsewhere : SameElsewhere
  -- taking then putting gives the same images exactly when their unused bytes are zero, a _Bool's byte is 0 or 1 and, in ILP32, their address is below 2^32
  pub puts_taken : PutsTaken
  pub unused_unseen : UnusedUnseen
  -- different values never give the same images, those six bytes apart
  pub no_shared_image : NoSharedImage
  -- "Refusals: after 1..10, 11 for lengths .., then 12 for a returned _Bool byte not 0 or 1, in putting only"; a refusal writes nothing
  pub refusals_told : RefusalsTold
  pub twelve_exactly : TwelveExactly
  pub never_twelve : NeverTwelve
