-- What the calls of the C interface that bring a result back give, by the library's answer: include/callbridge.h. Assumes nothing:
-- these are definitions.
use Rattle.std.specs.Prelude.{Err, Ok, Result, ℕ}
use Rattle.form.specs.declared.Refusal.{Refusal}
use Rattle.form.specs.Reading.{refusal_of}
use Rattle.flat.specs.declared.Gathered.{Gathered}

-- cb_put_returned
abbrev pub put_given : Result (Unit {0}) Refusal → Refusal
put_given (Ok tt) = refusal_of 0
put_given (Err r) = r

-- cb_take_returned
abbrev pub taken_given : Result ℕ Refusal → Result Gathered Refusal
taken_given (Ok h) = Ok (record { hidden = h })
taken_given (Err r) = Err r
