-- Two descriptions that have one type table, byte for byte: the same type records and the same member bytes. Assumes nothing: these are definitions.
use Rattle.std.specs.Prelude.{◌≡◌, List, ℕ, ◌≤◌, ◌<◌}
use Rattle.description.specs.Description.{byte_at, types_in, members_in, argument_start}

-- "Then come T type records of 4 bytes, M member bytes": from byte 11 to where the arguments begin
pub record SameTable (d e : List ℕ) : Type 0 where
  pub types : types_in e ≡ types_in d
  pub members : members_in e ≡ members_in d
  pub bytes : (i : ℕ) → 11 ≤ i → i < argument_start d → byte_at e i ≡ byte_at d i
