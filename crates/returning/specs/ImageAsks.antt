-- What moving a returned value asks: what the layout makes sure of its place and its length. Assumes nothing: these are definitions.
use Rattle.std.specs.Prelude.{◌≡◌, ◌⊎◌, ℕ, ◌+◌, ◌≤◌, ◌<◌}
use Rattle.places.specs.declared.Register.{Register}
use Rattle.places.specs.declared.Register.TheVariants.{General, Vector, Upper, Wide}
use Rattle.places.specs.declared.ReturnPlace.{ReturnPlace}
use Rattle.places.specs.declared.ReturnPlace.TheVariants.{Void, Memory, One, Two, St0, St0St1}
use Rattle.returning.specs.declared.return_image.Part.{Part}
use Rattle.returning.specs.Moved.{upper_at, return_address}

-- rax or rdx, or xmm0 or xmm1, its upper half or all of it
abbrev pub Returning : Register → Type 0
Returning (General n) = n.0 < 2
Returning (Vector n) = n.0 < 2
Returning (Upper n) = n.0 < 2
Returning (Wide n) = n.0 < 2

-- one that holds an eightbyte
abbrev pub Single : Register → Type 0
Single (General n) = n.0 < 2
Single (Vector n) = n.0 < 2
Single (Upper n) = n.0 < 2
Single (Wide n) = ⊥

-- one that holds n bytes alone: an eightbyte, or all of xmm0, whose upper part the upper return image holds
abbrev pub Alone : Register → ℕ → Type 0
Alone (General k) n = (k.0 < 2) × (n ≤ 8)
Alone (Vector k) n = (k.0 < 2) × (n ≤ 8)
Alone (Upper k) n = (k.0 < 2) × (n ≤ 8)
Alone (Wide k) n = (k.0 < 1) × ((16 ≤ n) × (n ≤ 32))

-- two eightbytes that do not overlap
abbrev pub NoOverlap : Register → Register → Type 0
NoOverlap a b = (return_address a + 8 ≤ return_address b) ⊎ (return_address b + 8 ≤ return_address a)

-- a place for a returned value of n bytes
unfoldable pub Returnable : ReturnPlace → ℕ → Type 0
Returnable Void n = n ≡ 0
Returnable Memory n = n ≡ 0
Returnable (One a) n = Alone a n
Returnable (Two a b) n = Single a × (Single b × (NoOverlap a b × ((8 ≤ n) × (n ≤ 16))))
Returnable St0 n = n ≡ 16
Returnable St0St1 n = n ≡ 32

-- a part of a value of so many bytes, that lies in one of the two images, which have so many
pub record AskPart (p : Part) (value image upper : ℕ) : Type 0 where
  pub source : p.from.0 + p.count.0 ≤ value
  pub target : p.to.0 + p.count.0 ≤ upper_at + 16
  pub within : (p.to.0 + p.count.0 ≤ upper_at) ⊎ (upper_at ≤ p.to.0)
  pub whole : image ≡ upper_at
  pub above : upper ≡ 16
