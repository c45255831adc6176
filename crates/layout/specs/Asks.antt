-- What the functions that lay arguments out ask. Assumes nothing: these are definitions.
use Rattle.std.specs.Prelude.{◌≡◌, Bool, List, ℕ, ◌*◌, ◌≤◌, ◌<◌}
use Rattle.description.specs.Description.{arguments_in}
use Rattle.uses.specs.Uses.{uses_refusal}
use Rattle.places.specs.declared.Used.{Used}
use Rattle.layout.specs.Arguments.{is_named}
use Rattle.layout.specs.declared.placements.Laying.{Laying}

-- what may be used where i arguments are placed: no count past its file, and so little stack that no sum overflows
pub record Before (i : ℕ) (u : Used) : Type 0 where
  pub general : u.general.0 ≤ 6
  pub vector : u.vector.0 ≤ 8
  pub stack : u.stack.0 ≤ 4136 * i

-- argument i of a description that none of 1 to 9 refuses
pub record AskArgument (d : List ℕ) (i : ℕ) (u : Used) : Type 0 where
  pub right : uses_refusal d ≡ 0
  pub there : i < arguments_in d
  pub before : Before i u

-- the same, and so few bytes of values before it that no sum overflows
pub record AskRecord (d : List ℕ) (i : ℕ) (l : Laying) : Type 0 where
  pub argument : AskArgument d i l.used
  pub sum : l.values.0 ≤ 4096 * i

-- the arguments i to n are all named, or none is
pub record Alike (d : List ℕ) (i n : ℕ) (named : Bool) : Type 0 where
  pub each : (j : ℕ) → i ≤ j → j < n → is_named d j ≡ named
