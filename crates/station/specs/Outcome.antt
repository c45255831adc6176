-- What an order of refusal answers, and what a call leaves behind it. Assumes nothing: these are definitions.
use Rattle.std.specs.Prelude.{cond, ℕ, zero, suc, eqb, Result, Ok, Err}
use Rattle.form.specs.declared.Refusal.{Refusal}
use Rattle.form.specs.Reading.{refusal_of}

-- what a call leaves: the new where it answers 0, the old where it refuses ("A refusal returns its number only and writes nothing")
abbrev pub leaves : {A : Type 0} → ℕ → A → A → A
leaves zero new old = new
leaves (suc n) new old = old

-- what a call whose refusals name no type answers under number n: this where n is 0, and else the refusal
unfoldable pub answer_of : {A : Type 0} → ℕ → A → Result A Refusal
answer_of n x = cond (eqb n 0) (Ok x) (Err (refusal_of n))
