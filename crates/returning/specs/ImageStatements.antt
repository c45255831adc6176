-- What is said of the bytes that are moved, of any place for a returned value and its length. Assumes nothing: these are definitions.
use Rattle.std.specs.Prelude.{◌≡◌, true, ℕ, ◌≤◌, length}
use Rattle.addresses.specs.Addresses.{All, NoDup, Below}
use Rattle.places.specs.declared.ReturnPlace.{ReturnPlace}
use Rattle.returning.specs.Moved.{sources, targets}
use Rattle.returning.specs.Image.{in_memory}

-- each byte of the value is moved once at most, each to an address of its own in the image, and none to rax where the hidden address is
pub record MovedOnce (place : ReturnPlace) (n : ℕ) : Type 0 where
  pub pairs : length (targets place n) ≡ length (sources place n)
  pub once : NoDup (targets place n)
  pub inside : Below 96 (targets place n)
  pub apart : NoDup (sources place n)
  pub within : Below n (sources place n)
  pub past : in_memory place ≡ true → All (λ k. 8 ≤ k) (targets place n)
