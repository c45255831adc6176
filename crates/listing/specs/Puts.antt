-- Words put one behind the other into a lent buffer. Assumes nothing: these are definitions.
use Rattle.std.specs.Prelude.{◌≡◌, List, ℕ, ◌+◌, ◌≤◌, length}
use Rattle.listing.specs.declared.texts.Text.{Text}
use Rattle.listing.specs.Written.{written}

-- the text with a word behind it, and all else in the buffer as it was
abbrev pub followed : Text → List ℕ → Text
followed text word = record { out = record text.out { now = written text.out.now text.at word }; at = text.at + length word }

-- a word of at most so many bytes was put behind the text
pub record Puts (most : ℕ) (before after : Text) (word : List ℕ) : Type 0 where
  pub is : after ≡ followed before word
  pub short : length word ≤ most
