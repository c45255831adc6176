-- What is promised of the answers about a text. Assumes nothing: these are definitions.
use Rattle.std.specs.Prelude.{◌≡◌, Ok, Err, List, ◌↔◌, ℕ, ◌≤◌, ◌<◌, length}
use Rattle.grammar.specs.Grammar.{Event, Sentence}
use Rattle.grammar.specs.Statements.{FirstWrong}
use Rattle.grammar.specs.Prototype.{declarations}
use Rattle.reading.specs.declared.ReadError.TheVariants.{TooLong, RefusedAt}
use Rattle.reading.specs.Code.{reading_of}

-- "25 text too long", "26 text not in the grammar, with the place of the first byte after which no continuation fits, or the length where the text only stops short"
pub record ReadsRightly (start : List ℕ) : Type 0 where
  pub too_long : (t : List ℕ) → (reading_of start t ≡ Err TooLong) ↔ (4096 < length t)
  pub accepts : (t : List ℕ) → (reading_of start t ≡ Ok tt) ↔ ((length t ≤ 4096) × (es : List Event) × Sentence declarations start t es)
  pub refuses : (t : List ℕ) (p : ℕ) → (reading_of start t ≡ Err (RefusedAt p)) ↔ ((length t ≤ 4096) × FirstWrong declarations start t p)
