-- What a judgement answers by the number of its refusal. Assumes nothing: this is a definition.
use Rattle.std.specs.Prelude.{cond, ℕ, eqb, Err, Ok, Result}
use Rattle.form.specs.declared.Refusal.{Refusal}
use Rattle.form.specs.Reading.{refusal_of}

abbrev pub judged : ℕ → Result (Unit {0}) Refusal
judged number = cond (eqb number 0) (Ok tt) (Err (refusal_of number))
