-- What the pieces of a sentence do to numbers: no type is written out here. Assumes nothing: these are definitions.
use Rattle.std.specs.Prelude.{Bool, true, false, cond, List, [], ◌∷◌, ◌++◌, ℕ, ◌+◌, length, take}
use Rattle.grammar.specs.Grammar.{Event, basic, long, pointer, nothing, opened, close, size, item, result, variadic}
use Rattle.grammar.specs.Meaning.{clamped}
use Rattle.collecting.specs.Rows.{Row, basic_row, group_row, Made, intern, tower, members_in, records_in, runs_in}

-- the type that is being read: basic, by its code; or a group, by its number, with the count of rows before it was opened
pub data Hand : Type 0 where
  code : ℕ → Hand
  held : ℕ → ℕ → Hand

-- an open group: its members' numbers so far, the code of the base type that goes on after it, and the count of rows before it
pub record Open : Type 0 where
  pub union : Bool
  pub members : List ℕ
  pub kept : ℕ
  pub before : ℕ

pub record State : Type 0 where
  pub rows : List Row
  pub result : ℕ
  pub arguments : List ℕ
  pub variadic : Bool
  -- the innermost first
  pub frames : List Open
  pub base : ℕ
  pub hand : Hand
  pub empty : Bool
  pub sizes : List ℕ

-- the step back: what was completed inside a group that counts for nothing leaves again
abbrev pub let_go : List Row → Hand → List Row
let_go rows (code c) = rows
let_go rows (held k m) = take m rows

-- a type that is used is completed
abbrev pub used : List Row → Hand → Made
used rows (code c) = intern rows (basic_row c)
used rows (held k m) = record { rows = rows; number = k }

-- the next member of what is open, or else the next argument
abbrev pub put : ℕ → List Open → List ℕ → List Open × List ℕ
put k [] arguments = ([], arguments ++ (k ∷ []))
put k (f ∷ fs) arguments = (record { union = f.union; members = f.members ++ (k ∷ []); kept = f.kept; before = f.before } ∷ fs, arguments)

abbrev pub alone : List Open → Bool → Bool
alone [] v = true
alone (f ∷ fs) v = v

-- another type is read
abbrev pub hold : ℕ → ℕ → Bool → State → State
hold b c e s = record { rows = let_go s.rows s.hand; result = s.result; arguments = s.arguments; variadic = s.variadic; frames = s.frames; base = b; hand = code c; empty = e; sizes = [] }

abbrev pub shut_in : List Open → State → State
shut_in [] s = s
shut_in (f ∷ fs) s =
    let m = intern (let_go s.rows s.hand) (group_row f.union f.members) in
    record { rows = m.rows; result = s.result; arguments = s.arguments; variadic = s.variadic; frames = fs; base = f.kept; hand = held m.number f.before; empty = false; sizes = [] }

-- no result, or else the type in hand
abbrev pub resulting : Bool → List Row → Hand → Made
resulting true rows h = record { rows = let_go rows h; number = 255 }
resulting false rows h = used rows h

-- `long` is the code of long in the model
abbrev pub step : ℕ → State → Event → State
step l s (basic c) = hold c c false s
step l s long = hold l l false s
step l s pointer = hold s.base 15 false s
step l s nothing = hold s.base s.base true s
step l s (opened u) =
    let rows = let_go s.rows s.hand in
    record {
      rows = rows;
      result = s.result;
      arguments = s.arguments;
      variadic = s.variadic;
      frames = record { union = u; members = []; kept = s.base; before = length rows } ∷ s.frames;
      base = s.base;
      hand = code s.base;
      empty = false;
      sizes = [];
    }
step l s close = shut_in s.frames s
step l s (size n) = record { rows = s.rows; result = s.result; arguments = s.arguments; variadic = s.variadic; frames = s.frames; base = s.base; hand = s.hand; empty = s.empty; sizes = s.sizes ++ (clamped n ∷ []) }
step l s item =
    let m = tower s.sizes (used s.rows s.hand) in
    let p = put m.number s.frames s.arguments in
    record { rows = m.rows; result = s.result; arguments = p.1; variadic = s.variadic; frames = p.0; base = s.base; hand = code s.base; empty = false; sizes = [] }
step l s result =
    let m = resulting s.empty s.rows s.hand in
    record { rows = m.rows; result = m.number; arguments = s.arguments; variadic = s.variadic; frames = s.frames; base = s.base; hand = code s.base; empty = false; sizes = [] }
step l s variadic = record { rows = s.rows; result = s.result; arguments = s.arguments; variadic = alone s.frames s.variadic; frames = s.frames; base = s.base; hand = s.hand; empty = s.empty; sizes = s.sizes }

abbrev pub steps : ℕ → State → List Event → State
steps l s [] = s
steps l s (e ∷ es) = steps l (step l s e) es

abbrev pub start : State
start = record { rows = []; result = 255; arguments = []; variadic = false; frames = []; base = 3; hand = code 3; empty = false; sizes = [] }

-- byte 6: bit 0 the variadic mark, and the model's bit
abbrev pub flags_of : ℕ → Bool → ℕ
flags_of bit v = bit + cond v 1 0

abbrev pub bytes_by : ℕ → List Row → State → List ℕ
bytes_by bit rows s =
    (75 ∷ 67 ∷ 66 ∷ 1 ∷ 0 ∷ length rows ∷ flags_of bit s.variadic ∷ length s.arguments ∷ length s.arguments ∷ s.result ∷ members_in rows ∷ [])
    ++ (records_in 0 rows ++ (runs_in rows ++ s.arguments))

-- the description that the numbers say
abbrev pub bytes_of : ℕ → State → List ℕ
bytes_of bit s = bytes_by bit (let_go s.rows s.hand) s
