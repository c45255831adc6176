-- What the calls of the C interface that place and gather give, by the library's answer: include/callbridge.h. Assumes nothing:
-- these are definitions.
use Rattle.std.specs.Prelude.{Err, Ok, Result, ℕ}
use Rattle.flat.specs.declared.Placed.{Placed}
use Rattle.flat.specs.declared.Gathered.{Gathered}
use Rattle.form.specs.declared.Refusal.{Refusal}
use Rattle.units.specs.declared.Registers.{Registers}

-- cb_place_values
abbrev pub placed_given : Result Registers Refusal → Result Placed Refusal
placed_given (Ok n) = Ok (record { vector = n })
placed_given (Err r) = Err r

-- cb_gather_values
abbrev pub gathered_given : Result ℕ Refusal → Result Gathered Refusal
gathered_given (Ok h) = Ok (record { hidden = h })
gathered_given (Err r) = Err r
