-- What a grammar is, which texts are its sentences, and which texts can still become one. Assumes nothing: these are definitions.
use Rattle.std.specs.Prelude.{◌≡◌, Bool, true, false, cond, not, ◌&&◌, ◌||◌, List, [], ◌∷◌, ◌++◌, ℕ, suc, ◌+◌, ◌*◌, ◌-◌, eqb}
use Rattle.grammar.specs.Tokens.{class_of, is_letter, is_digit, cut}

-- what a sentence says, piece by piece
pub data Event : Type 0 where
  -- the type that is being read is: basic, by its code; long, whose code the model says; a pointer, whatever was read of it before; void
  basic : ℕ → Event
  long pointer nothing : Event
  -- members begin, of a union or else of a struct; they end: the type that is being read is that union or struct
  opened : Bool → Event
  close : Event
  -- a size in brackets
  size : ℕ → Event
  -- the type that was read is the next member of what is open, or else the next argument; it is the result; no more is named
  item result variadic : Event

-- behind a token: no sentence goes on, or these symbols follow
pub data Rest : Type 0 where
  stop : Rest
  goes : List ℕ → Rest

-- a symbol stands for at least one token, or may be left out, which says this
pub data Absence : Type 0 where
  required : Absence
  optional : List Event → Absence

-- symbols are numbers, and so are the kinds of tokens: 0 a decimal number, 1 a name, 2 no token of any grammar, 3 and up the fixed tokens, in their order
pub record Grammar : Type 0 where
  pub spellings : List (List ℕ)
  -- of a symbol and the kind of its first token: the symbols that stand for what follows in it
  pub rule : ℕ → ℕ → Rest
  pub absent : ℕ → Absence

abbrev pub same : List ℕ → List ℕ → Bool
same [] [] = true
same [] (y ∷ ys) = false
same (x ∷ xs) [] = false
same (x ∷ xs) (y ∷ ys) = eqb x y && same xs ys

abbrev pub all_digits : List ℕ → Bool
all_digits [] = true
all_digits (b ∷ w) = is_digit (class_of b) && all_digits w

abbrev pub is_none : List ℕ → Bool
is_none [] = true
is_none (x ∷ w) = false

-- digits, with no zero in front of others
abbrev pub is_number : List ℕ → Bool
is_number [] = false
is_number (b ∷ w) = is_digit (class_of b) && (all_digits w && (not (eqb b 48) || is_none w))

-- a token that begins with a letter
abbrev pub is_name : List ℕ → Bool
is_name [] = false
is_name (b ∷ w) = is_letter (class_of b)

-- a fixed token's place among them, counted from n; else a name; else none that a grammar knows
abbrev pub word_kind : List (List ℕ) → ℕ → List ℕ → ℕ
word_kind [] n w = cond (is_name w) 1 2
word_kind (s ∷ ss) n w = cond (same s w) n (word_kind ss (suc n) w)

unfoldable pub kind_of : List (List ℕ) → List ℕ → ℕ
kind_of ss w = cond (is_number w) 0 (word_kind ss 3 w)

abbrev pub decimal : ℕ → List ℕ → ℕ
decimal n [] = n
decimal n (b ∷ w) = decimal (n * 10 + (b - 48)) w

-- what a token itself says: a number says its value
unfoldable pub said : List ℕ → List Event
said w = cond (is_number w) (size (decimal 0 w) ∷ []) []

-- symbols, the tokens that they stand for, and what these say
pub data Derives (g : Grammar) : List ℕ → List (List ℕ) → List Event → Type 0 where
  done : Derives g [] [] []
  take : {n : ℕ} {ns : List ℕ} {r : List ℕ} {w : List ℕ} {ts : List (List ℕ)} {es fs : List Event}
      → g.rule n (kind_of g.spellings w) ≡ goes r → Derives g (r ++ ns) ts es → fs ≡ said w ++ es → Derives g (n ∷ ns) (w ∷ ts) fs
  skip : {n : ℕ} {ns : List ℕ} {ts : List (List ℕ)} {e es fs : List Event}
      → g.absent n ≡ optional e → Derives g ns ts es → fs ≡ e ++ es → Derives g (n ∷ ns) ts fs

-- a text is a sentence of these symbols, and says this
abbrev pub Sentence : Grammar → List ℕ → List ℕ → List Event → Type 0
Sentence g start t es = Derives g start (cut t) es

-- some text behind this one makes it a sentence
abbrev pub Viable : Grammar → List ℕ → List ℕ → Type 0
Viable g start t = (q : List ℕ) × (es : List Event) × Sentence g start (t ++ q) es
