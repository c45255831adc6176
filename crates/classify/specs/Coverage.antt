-- What later crates need of the classes of a value. Assumes nothing: these are definitions.
use Rattle.std.specs.Prelude.{◌≡◌, true, false, List, ◌⊎◌, ℕ, ◌*◌, ◌/◌, ◌≤◌, ◌<◌, get_or}
use Rattle.classes.specs.declared.Class.{Class}
use Rattle.classes.specs.declared.Class.TheVariants.{NoClass}
use Rattle.classes.specs.Classes.{there}
use Rattle.classes.specs.CleanUp.{any_memory}
use Rattle.classes.specs.Ups.{UpsFollow, on_stack}

-- each byte from lo to hi lies in an eightbyte that has a class, or the whole is MEMORY
abbrev pub Covered : List Class → ℕ → ℕ → Type 0
Covered cs lo hi = (any_memory cs ≡ true) ⊎ ((b : ℕ) → lo ≤ b → b < hi → there (get_or cs (b / 8) NoClass) ≡ true)

-- no eightbyte from the one behind offset hi on has a class
abbrev pub Ends : List Class → ℕ → Type 0
Ends cs hi = (e : ℕ) → hi ≤ 8 * e → get_or cs e NoClass ≡ NoClass

-- a value of `size` bytes: unless it goes on the stack, each of its bytes lies in an eightbyte that has a class, and no other eightbyte has one
pub record ClassesCover (cs : List Class) (size : ℕ) : Type 0 where
  pub covered : on_stack cs ≡ false → (b : ℕ) → b < size → there (get_or cs (b / 8) NoClass) ≡ true
  pub ends : Ends cs size
  pub ups : UpsFollow cs
