-- What tidying answers: request 2026-03, "Refusals: after 10, 29 where the separate runs need over 255 members, then 11 where the lent out
-- buffer is not of the tidy length". Of any bytes. Assumes nothing: these are definitions.
use Rattle.std.specs.Prelude.{Bool, cond, not, List, [], ◌∷◌, ◌++◌, ℕ, ltb, eqb, length, Err, Ok, Result}
use Rattle.form.specs.Order.{Rule, rule, first}
use Rattle.types.specs.Wrong.{refusal_for}
use Rattle.layout.specs.Verdict.{check_order}
use Rattle.tidying.specs.Call.{call_of}
use Rattle.tidying.specs.Numbering.{table_of}
use Rattle.tidying.specs.Tidy.{separate, tidy_of}
use Rattle.form.specs.Reading.{judgment}
use Rattle.form.specs.declared.Refusal.{Refusal}
use Rattle.units.specs.declared.Bytes.{Bytes}

-- the tidy form of a description
abbrev pub tidied : List ℕ → List ℕ
tidied d = tidy_of (call_of d)

-- 29: "the separate runs need over 255 members"
unfoldable pub too_many : List ℕ → Bool
too_many d = ltb 255 (separate (table_of (call_of d)))

-- 11: "the lent out buffer is not of the tidy length", where it has so many bytes
unfoldable pub other_length : List ℕ → ℕ → Bool
other_length d room = not (eqb room (length (tidied d)))

-- the tidy length alone: "after 10, 29"
abbrev pub length_order : List ℕ → List Rule
length_order d = check_order d ++ rule 29 (too_many d) ∷ []

unfoldable pub length_refusal : List ℕ → ℕ
length_refusal d = first (length_order d)

-- "then 11"
abbrev pub tidy_order : List ℕ → ℕ → List Rule
tidy_order d room = length_order d ++ rule 11 (other_length d room) ∷ []

unfoldable pub tidy_refusal : List ℕ → ℕ → ℕ
tidy_refusal d room = first (tidy_order d room)

unfoldable pub length_answer : List ℕ → Result Bytes Refusal
length_answer d = cond (eqb (length_refusal d) 0) (Ok (record { 0 = length (tidied d) })) (Err (refusal_for d (length_refusal d)))

-- the lent buffer at exit: a refusal leaves it as it was
unfoldable pub tidy_after : List ℕ → List ℕ → List ℕ
tidy_after d out = cond (eqb (tidy_refusal d (length out)) 0) (tidied d) out

-- and what is answered
unfoldable pub tidy_answer : List ℕ → ℕ → Result (Unit {0}) Refusal
tidy_answer d room = judgment (tidy_refusal d room) (refusal_for d (tidy_refusal d room))
