-- What `place_between` is told, and what it finds of two eightbytes. Assumes nothing: these are definitions.
use Rattle.std.specs.Prelude.{◌≡◌, Bool, cond, ℕ, ◌-◌, ◌%◌, ◌≤◌}
use Rattle.classes.specs.declared.Class.{Class}
use Rattle.classes.specs.declared.Class.TheVariants.{Integer, Sse}
use Rattle.classes.specs.Classes.{same}
use Rattle.places.specs.declared.Kind.{Kind}
use Rattle.places.specs.declared.Kind.TheVariants.{General as general, Vector as vector, Upper as upper, Wide as wide}
use Rattle.places.specs.declared.Register.{Register}
use Rattle.places.specs.declared.Register.TheVariants.{General, Vector, Upper, Wide}
use Rattle.places.specs.declared.Used.{Used}
use Rattle.places.specs.Shapes.{shape_in, Shaped}
use Rattle.places.specs.Places.{eights, next}

-- u is used before the argument of a type with this entry, and w after it
pub record Between (named : Bool) (entry : ℕ) (u w : Used) : Type 0 where
  pub shaped : Shaped (shape_in named entry)
  pub some : 1 ≤ entry % 8192
  pub after : w ≡ next eights u (shape_in named entry)

-- what the first and the second of two eightbytes ask for that are in registers
abbrev pub first_kind : Class → Kind
first_kind c = cond (same c Integer) general vector

abbrev pub second_kind : Class → Kind
second_kind c = cond (same c Integer) general (cond (same c Sse) vector upper)

-- the last register that is used of the file of an eightbyte
abbrev pub last_for : Used → Kind → Register
last_for w general = General (record { 0 = w.general.0 - 1 })
last_for w vector = Vector (record { 0 = w.vector.0 - 1 })
last_for w upper = Upper (record { 0 = w.vector.0 - 1 })
last_for w wide = Wide (record { 0 = w.vector.0 - 1 })
