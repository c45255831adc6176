-- What moving one argument asks. Assumes nothing: these are definitions.
use Rattle.std.specs.Prelude.{◌≡◌, ℕ, ◌+◌, ◌^◌, ◌≤◌, ◌<◌}
use Rattle.places.specs.declared.Register.{Register}
use Rattle.places.specs.declared.Register.TheVariants.{General, Vector, Upper, Wide}
use Rattle.places.specs.declared.Place.{Place}
use Rattle.places.specs.declared.Place.TheVariants.{One, Two, Stack}

-- one of the six general registers, or of the eight vector registers
abbrev pub Known : Register → Type 0
Known (General n) = n.0 < 6
Known (Vector n) = n.0 < 8
Known (Upper n) = n.0 < 8
Known (Wide n) = n.0 < 8

-- one that holds an eightbyte
abbrev pub Single : Register → Type 0
Single (General n) = n.0 < 6
Single (Vector n) = n.0 < 8
Single (Upper n) = n.0 < 8
Single (Wide n) = ⊥

-- one that holds size bytes alone: an eightbyte, or the four of a wide one
abbrev pub Alone : Register → ℕ → Type 0
Alone (General n) size = (n.0 < 6) × (size ≤ 8)
Alone (Vector n) size = (n.0 < 8) × (size ≤ 8)
Alone (Upper n) size = (n.0 < 8) × (size ≤ 8)
Alone (Wide n) size = (n.0 < 8) × ((16 ≤ size) × (size ≤ 32))

-- a place for an argument of size bytes, where the stack image has n
unfoldable pub Inside : Place → ℕ → ℕ → Type 0
Inside (One a) size n = Alone a size
Inside (Two a b) size n = Single a × (Single b × ((8 ≤ size) × (size ≤ 16)))
Inside (Stack o) size n = o.0 + size ≤ n

-- size bytes of an argument, the value's from index k on, in lists of these lengths
pub record AskMove (p : Place) (size k registers upper stack values : ℕ) : Type 0 where
  pub whole : registers ≡ 176
  pub above : upper ≡ 128
  pub inside : Inside p size stack
  pub there : k + size ≤ values
  pub few : values ≤ 2 ^ 32

-- and of one that a register alone holds
pub record AskAlone (a : Register) (size k registers upper values : ℕ) : Type 0 where
  pub whole : registers ≡ 176
  pub above : upper ≡ 128
  pub alone : Alone a size
  pub there : k + size ≤ values
  pub few : values ≤ 2 ^ 32
