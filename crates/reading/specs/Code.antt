-- How the code holds the reader's state. Assumes nothing: these are definitions.
use Rattle.std.specs.Prelude.{◌≡◌, Bool, true, false, cond, List, [], ◌∷◌, ℕ, zero, suc, ◌+◌, ◌*◌, ◌≤◌, ltb, length, get_or, Option, None, Some, Result, Ok, Err}
use Rattle.std.proofs.Math.Seq.{slice}
use Rattle.grammar.specs.Grammar.{Rest, stop, goes, Absence, required, optional, Grammar}
use Rattle.grammar.specs.Machine.{Fed, dead, fed, State, lost, at, Outcome, accepted, refused_at, read_text}
use Rattle.grammar.specs.Prototype.{declarations}
use Rattle.reading.specs.declared.ReadError.{ReadError}
use Rattle.reading.specs.declared.ReadError.TheVariants.{TooLong, RefusedAt}

-- the symbols to come: the first stands last in the array
abbrev pub tops : List ℕ → ℕ → List ℕ
tops a zero = []
tops a (suc d) = get_or a d 0 ∷ tops a d

abbrev pub takes_by : Rest → Absence → ℕ → ℕ → ℕ
takes_by (goes r) a d rest = d
takes_by stop required d rest = 0
takes_by stop (optional e) d rest = rest

-- which of them takes a token of kind k, counted from the bottom, from 1 on; 0 where none does
unfoldable pub takes : Grammar → List ℕ → ℕ → ℕ → ℕ
takes g a zero k = 0
takes g a (suc d) k = takes_by (g.rule (get_or a d 0) k) (g.absent (get_or a d 0)) (suc d) (takes g a d k)

-- what a token led to: nowhere, or the symbols to come
abbrev pub LeadsTo : Fed → Bool → List ℕ → ℕ → Type 0
LeadsTo dead may a depth = may ≡ false
LeadsTo (fed m e) may a depth = (may ≡ true) × (tops a depth ≡ m)

-- a state behind the bytes before `end`: where the token begins if it is not lost, and the symbols to come
abbrev pub Holds : List ℕ → ℕ → State → Option ℕ → List ℕ → ℕ → Type 0
Holds text end lost None a depth = Unit {0}
Holds text end lost (Some start) a depth = ⊥
Holds text end (at w ns es) None a depth = ⊥
Holds text end (at w ns es) (Some start) a depth = (slice start end text ≡ w) × (tops a depth ≡ ns) × (start ≤ end) × (depth ≤ 6 + 4 * start)

abbrev pub answer_of : Outcome → Result Unit ReadError
answer_of (accepted es) = Ok tt
answer_of (refused_at p) = Err (RefusedAt p)

-- "text to 4,096 bytes", by these symbols: 25 before 26
unfoldable pub reading_of : List ℕ → List ℕ → Result Unit ReadError
reading_of start t = cond (ltb 4096 (length t)) (Err TooLong) (answer_of (read_text declarations start t))
