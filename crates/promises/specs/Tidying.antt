-- Request 2026-03, "Tidy type tables", beside demands 1 and 2: "We want a tidy form that uses that room again: only types reached from return and arguments,
-- equal ones once, numbered as each is first completed going depth-first through return, then arguments; member runs in that order, without overlap or gaps.
-- Two descriptions have the same tidy bytes exactly when both can be tidied and they have equal flags, N, A and the same written-out types. Tidying twice
-- changes nothing, and the layout is the same apart from type numbers." What `tidied` is, tidying/specs says: Call, Numbering, Tidy. What the calls of a C host
-- do is said of every outcome that their contracts admit. proofs/Tidying.antt proves `Tidying`. Assumes nothing: these are definitions.
use Rattle.std.specs.Prelude.{◌≡◌, ◌↔◌, ◌≢◌, true, List, map, ℕ, length}
use denote.Triple.Entry.{Res}
use denote.Triple.Clauses.{Lasts}
use Rattle.tightness.specs.Tight.{Call as Made, Admits}
use Rattle.description.specs.Description.{IsBytes}
use Rattle.form.specs.declared.Refusal.{Refusal}
use Rattle.form.specs.Order.{NoneHolds}
use Rattle.flat.specs.declared.Tidied.{Tidied}
use Rattle.tidying.specs.Answers.{tidied, too_many}
use Rattle.tidying.specs.Statements.{Tidiable, TidyBytes, SameTidyBytes, SameCall, TidyForm, TidyTable}
use Rattle.tidying.specs.Cases.{TidyCase, tidies, tidy_cases, wide_description}
use Rattle.callbridge.specs.contracts.cb_tidy_length
use Rattle.callbridge.specs.contracts.cb_tidy
use Rattle.promises.specs.Meaning.{of_refusal, Answered}
use Rattle.promises.specs.Orders.{tidy_length_order, tidy_order}
use Rattle.promises.specs.WrongType.{Names}
use Rattle.promises.specs.Calls.{Ensures}
use Rattle.promises.specs.Exports.{Fills}

-- ---- what each call does

-- cb_tidy_length: how many bytes the tidy form has, or which of 1 to 10 and 29 refuses
abbrev pub TellsLength : List ℕ → Tidied → Refusal → Tidied → Type 0
TellsLength d old r new = Fills (λ (t : Tidied). t.length.0) d (tidy_length_order d) (length (tidied d)) old r new

-- cb_tidy: 1 to 10, 29, 11 for a buffer of another length; a refusal leaves the buffer
pub record TidiesFlat (d out : List ℕ) (r : Refusal) (after : List ℕ) : Type 0 where
  pub answered : Answered (of_refusal r) (tidy_order d (length out)) tt
  pub names : Names d r
  pub refused : r.number ≢ 0 → after ≡ out
  pub tidy : r.number ≡ 0 → TidyBytes d after

-- ---- two calls

-- "Two descriptions have the same tidy bytes exactly when .. they have equal flags, N, A and the same written-out types": two calls that answer 0
abbrev pub SameOut : Type 2
SameOut =
    (c e : Made cb_tidy.ended) (r : Res (cb_tidy.ended).signature c.lifetimes) (w : Lasts cb_tidy.ended c.lifetimes c.passed)
    (q : Res (cb_tidy.ended).signature e.lifetimes) (v : Lasts cb_tidy.ended e.lifetimes e.passed)
    → Admits cb_tidy.ended (λ M 𝓤 𝓛. cb_tidy.clauses 𝓛) c r w → Admits cb_tidy.ended (λ M 𝓤 𝓛. cb_tidy.clauses 𝓛) e q v → r.number ≡ 0 → q.number ≡ 0
    → (w.1.0 ≡ v.1.0) ↔ SameCall c.passed.0.now e.passed.0.now

-- "Tidying twice changes nothing": a call that answers 0, and one with the bytes that it left and a buffer as long
abbrev pub TidiesTwice : Type 2
TidiesTwice =
    (c e : Made cb_tidy.ended) (r : Res (cb_tidy.ended).signature c.lifetimes) (w : Lasts cb_tidy.ended c.lifetimes c.passed)
    (q : Res (cb_tidy.ended).signature e.lifetimes) (v : Lasts cb_tidy.ended e.lifetimes e.passed)
    → Admits cb_tidy.ended (λ M 𝓤 𝓛. cb_tidy.clauses 𝓛) c r w → Admits cb_tidy.ended (λ M 𝓤 𝓛. cb_tidy.clauses 𝓛) e q v → r.number ≡ 0
    → e.passed.0.now ≡ w.1.0 → length e.passed.1.0.now ≡ length w.1.0 → (q.number ≡ 0) × (v.1.0 ≡ w.1.0)

-- a buffer of the length that was told is the right one
abbrev pub LengthSuits : Type 2
LengthSuits =
    (c : Made cb_tidy_length.ended) (r : Res (cb_tidy_length.ended).signature c.lifetimes) (w : Lasts cb_tidy_length.ended c.lifetimes c.passed)
    (e : Made cb_tidy.ended) (q : Res (cb_tidy.ended).signature e.lifetimes) (v : Lasts cb_tidy.ended e.lifetimes e.passed)
    → Admits cb_tidy_length.ended (λ M 𝓤 𝓛. cb_tidy_length.clauses 𝓛) c r w → Admits cb_tidy.ended (λ M 𝓤 𝓛. cb_tidy.clauses 𝓛) e q v → r.number ≡ 0
    → e.passed.0.now ≡ c.passed.0.now → length e.passed.1.0.now ≡ w.1.0.length.0 → q.number ≡ 0

-- the tidy form of each worked case, as the definitions give it
abbrev pub formed : TidyCase → TidyCase
formed (tidies d bytes) = tidies d (tidied d)

pub record Tidying : Type 2 where
  -- "can be tidied": neither 1 to 10 nor 29
  pub tidiable_exactly : (d : List ℕ) → Tidiable d ↔ NoneHolds (tidy_length_order d)
  pub same_exactly : (d e : List ℕ) → SameTidyBytes d e ↔ SameCall d e
  pub table : (d : List ℕ) → Tidiable d → TidyTable d
  -- accepted again, the same again, and laid out the same
  pub form : (d : List ℕ) → Tidiable d → TidyForm d
  pub bytes : (d : List ℕ) → Tidiable d → IsBytes (tidied d)
  pub cases_hold : map formed tidy_cases ≡ tidy_cases
  pub wide_case : too_many wide_description ≡ true
  -- the calls
  pub tells_length : Ensures cb_tidy_length.ended (λ M 𝓤 𝓛. cb_tidy_length.clauses 𝓛) (λ c r w. TellsLength c.passed.0.now c.passed.1.0.now r w.1.0)
  pub tidies_flat : Ensures cb_tidy.ended (λ M 𝓤 𝓛. cb_tidy.clauses 𝓛) (λ c r w. TidiesFlat c.passed.0.now c.passed.1.0.now r w.1.0)
  pub same_out : SameOut
  pub tidies_twice : TidiesTwice
  pub length_suits : LengthSuits
