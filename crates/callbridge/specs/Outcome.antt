-- What a call of the C interface leaves: it gives a record or refuses, `Ok` and `Err`. Assumes nothing: these are definitions.
use Rattle.std.specs.Prelude.{Err, Ok, Result}
use Rattle.form.specs.declared.Refusal.{Refusal}

-- what the lent record holds at exit: "A refusal returns its number only and writes nothing"
abbrev pub left_in : {A : Type 0} → Result A Refusal → A → A
left_in (Ok new) old = new
left_in (Err r) old = old
