-- What is promised of the reader's answers. Assumes nothing: these are definitions.
use Rattle.std.specs.Prelude.{◌≡◌, List, ◌↔◌, ℕ, suc, ◌≤◌, ◌<◌, length, take}
use Rattle.grammar.specs.Grammar.{Event, Grammar, Sentence, Viable}
use Rattle.grammar.specs.Machine.{accepted, refused_at, read_text}

-- the place of a refused text: what stands before it can become a sentence, and with the byte there it cannot; or all of it can, and it is none
pub record FirstWrong (g : Grammar) (start t : List ℕ) (p : ℕ) : Type 0 where
  pub none : (es : List Event) → Sentence g start t es → ⊥
  pub within : p ≤ length t
  pub before : Viable g start (take p t)
  pub behind : p < length t → Viable g start (take (suc p) t) → ⊥

pub record Promises (g : Grammar) (start : List ℕ) : Type 0 where
  pub accepts : (t : List ℕ) (es : List Event) → (read_text g start t ≡ accepted es) ↔ Sentence g start t es
  pub refuses : (t : List ℕ) (p : ℕ) → (read_text g start t ≡ refused_at p) ↔ FirstWrong g start t p
