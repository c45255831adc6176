-- What the call of the C interface that tells the tidy length gives, by the library's answer: include/callbridge.h. Assumes nothing:
-- these are definitions.
use Rattle.std.specs.Prelude.{Err, Ok, Result}
use Rattle.flat.specs.declared.Tidied.{Tidied}
use Rattle.units.specs.declared.Bytes.{Bytes}
use Rattle.form.specs.declared.Refusal.{Refusal}

-- cb_tidy_length
abbrev pub tidied_given : Result Bytes Refusal → Result Tidied Refusal
tidied_given (Ok n) = Ok (record { length = n })
tidied_given (Err r) = Err r
