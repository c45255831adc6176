-- The return images and the value in them: document 02, request 2026-02, "Putting and taking follow the return places; unused bytes are
-- zero". The return image and the upper return image are one list. Assumes nothing: these are definitions.
use Rattle.std.specs.Prelude.{Bool, true, false, cond, List, ◌++◌, ℕ, length, take, drop, replicate}
use Rattle.addresses.specs.Addresses.{run, gather, scatter}
use Rattle.places.specs.declared.ReturnPlace.{ReturnPlace}
use Rattle.places.specs.declared.ReturnPlace.TheVariants.{Void, Memory, One, Two, St0, St0St1}
use Rattle.images.specs.Words.{little_endian, number}
use Rattle.returning.specs.Moved.{sources, targets}

-- "a void or MEMORY value has length 0", any other the size of its type
abbrev pub length_for : ReturnPlace → ℕ → ℕ
length_for Void size = 0
length_for Memory size = 0
length_for (One a) size = size
length_for (Two a b) size = size
length_for St0 size = size
length_for St0St1 size = size

abbrev pub in_memory : ReturnPlace → Bool
in_memory Void = false
in_memory Memory = true
in_memory (One a) = false
in_memory (Two a b) = false
in_memory St0 = false
in_memory St0St1 = false

-- "X87 st0; COMPLEX_X87 st0 and st1"
abbrev pub on_x87 : ReturnPlace → Bool
on_x87 Void = false
on_x87 Memory = false
on_x87 (One a) = false
on_x87 (Two a b) = false
on_x87 St0 = true
on_x87 St0St1 = true

-- "rax .. at 0", 8 bytes
abbrev pub rax : List ℕ
rax = run 0 8

-- no value put yet: "A MEMORY return carries the hidden address in rax", by whether it is one; zeros elsewhere
unfoldable pub blank_return : Bool → ℕ → List ℕ
blank_return memory h = cond memory (little_endian 8 h) (replicate 8 0) ++ replicate 88 0

-- all 96 bytes, where the value v is put
unfoldable pub return_image : ReturnPlace → ℕ → List ℕ → List ℕ
return_image place h v = scatter (blank_return (in_memory place) h) (targets place (length v)) (gather v (sources place (length v)))

-- all n bytes of the value, where it is taken: "taking gives zeros there", wherever no byte is moved
unfoldable pub return_value : ReturnPlace → ℕ → List ℕ → List ℕ
return_value place n image = scatter (replicate n 0) (sources place n) (gather image (targets place n))

-- the hidden address that is taken, 0 where none is carried
unfoldable pub returned_address : ReturnPlace → List ℕ → ℕ
returned_address place image = cond (in_memory place) (number (gather image rax)) 0

-- "those six bytes apart": a value with bytes 10 to 15 of each long double zero; any other as it is
abbrev pub trimmed : ReturnPlace → List ℕ → List ℕ
trimmed Void v = v
trimmed Memory v = v
trimmed (One a) v = v
trimmed (Two a b) v = v
trimmed St0 v = take 10 v ++ replicate 6 0
trimmed St0St1 v = take 10 v ++ (replicate 6 0 ++ (take 10 (drop 16 v) ++ replicate 6 0))
