-- The same in a room of 64 types and 255 members: what does not fit leaves the mark `over`, and the step back takes the mark away with the
-- types. Assumes nothing: these are definitions.
use Rattle.std.specs.Prelude.{Bool, true, false, ◌||◌, List, [], ◌∷◌, ◌++◌, ℕ, ltb, length, take}
use Rattle.grammar.specs.Grammar.{Event, basic, long, pointer, nothing, opened, close, size, item, result, variadic}
use Rattle.grammar.specs.Meaning.{clamped}
use Rattle.collecting.specs.Rows.{Row, basic_row, array_row, group_row, find, beyond, members_in, records_in, runs_in}
use Rattle.collecting.specs.Count.{flags_of}

-- a group in hand has the count of rows before it was opened, and the mark as it was then
pub data Grip : Type 0 where
  code : ℕ → Grip
  held : ℕ → ℕ → Bool → Grip

pub record Pending : Type 0 where
  pub union : Bool
  pub members : List ℕ
  pub kept : ℕ
  pub before : ℕ
  pub over : Bool

pub record Store : Type 0 where
  pub rows : List Row
  pub over : Bool
  pub result : ℕ
  pub arguments : List ℕ
  pub variadic : Bool
  pub frames : List Pending
  pub base : ℕ
  pub hand : Grip
  pub empty : Bool
  pub sizes : List ℕ

pub record Kept : Type 0 where
  pub rows : List Row
  pub over : Bool
  pub number : ℕ

-- a row that is not there is added where there is room for it and its run
abbrev pub add_if : Bool → List Row → Row → ℕ → Kept
add_if true rows r k = record { rows = rows; over = true; number = 0 }
add_if false rows r k = record { rows = rows ++ r ∷ []; over = false; number = k }

abbrev pub find_if : Bool → List Row → Row → ℕ → Kept
find_if true rows r k = record { rows = rows; over = false; number = k }
find_if false rows r k = add_if (beyond (rows ++ r ∷ [])) rows r k

-- once over, nothing is added
abbrev pub keep : Bool → List Row → Row → Kept
keep true rows r = record { rows = rows; over = true; number = 0 }
keep false rows r = find_if (ltb (find rows r) (length rows)) rows r (find rows r)

unfoldable pub raise : List ℕ → Kept → Kept
raise [] m = m
raise (n ∷ ns) m = keep (raise ns m).over (raise ns m).rows (array_row (raise ns m).number n)

-- 64 sizes are kept: more of them are too many types in any table
abbrev pub raise_if : Bool → List ℕ → Kept → Kept
raise_if true ns m = record { rows = m.rows; over = true; number = 0 }
raise_if false ns m = raise ns m

abbrev pub raised : List ℕ → Kept → Kept
raised ns m = raise_if (ltb 64 (length ns)) ns m

-- the step back; where the mark stood already there is nothing to go back to
abbrev pub back_if : Bool → ℕ → List Row → List Row
back_if true m rows = rows
back_if false m rows = take m rows

abbrev pub back : List Row → Grip → List Row
back rows (code c) = rows
back rows (held k m o) = back_if o m rows

abbrev pub mark : Bool → Grip → Bool
mark over (code c) = over
mark over (held k m o) = o

abbrev pub take_up : Bool → List Row → Grip → Kept
take_up over rows (code c) = keep over rows (basic_row c)
take_up over rows (held k m o) = record { rows = rows; over = over; number = k }

abbrev pub lay : ℕ → List Pending → List ℕ → List Pending × List ℕ
lay k [] arguments = ([], arguments ++ (k ∷ []))
lay k (f ∷ fs) arguments = (record { union = f.union; members = f.members ++ (k ∷ []); kept = f.kept; before = f.before; over = f.over } ∷ fs, arguments)

abbrev pub single : List Pending → Bool → Bool
single [] v = true
single (f ∷ fs) v = v

abbrev pub grip : ℕ → ℕ → Bool → Store → Store
grip b c e s = record { rows = back s.rows s.hand; over = mark s.over s.hand; result = s.result; arguments = s.arguments; variadic = s.variadic; frames = s.frames; base = b; hand = code c; empty = e; sizes = [] }

abbrev pub finishing : List Pending → Store → Store
finishing [] s = s
finishing (f ∷ fs) s =
    let m = keep (mark s.over s.hand) (back s.rows s.hand) (group_row f.union f.members) in
    record { rows = m.rows; over = m.over; result = s.result; arguments = s.arguments; variadic = s.variadic; frames = fs; base = f.kept; hand = held m.number f.before f.over; empty = false; sizes = [] }

abbrev pub giving : Bool → Bool → List Row → Grip → Kept
giving true over rows h = record { rows = back rows h; over = mark over h; number = 255 }
giving false over rows h = take_up over rows h

abbrev pub move : ℕ → Store → Event → Store
move l s (basic c) = grip c c false s
move l s long = grip l l false s
move l s pointer = grip s.base 15 false s
move l s nothing = grip s.base s.base true s
move l s (opened u) =
    let rows = back s.rows s.hand in
    let over = mark s.over s.hand in
    record {
      rows = rows;
      over = over;
      result = s.result;
      arguments = s.arguments;
      variadic = s.variadic;
      frames = record { union = u; members = []; kept = s.base; before = length rows; over = over } ∷ s.frames;
      base = s.base;
      hand = code s.base;
      empty = false;
      sizes = [];
    }
move l s close = finishing s.frames s
move l s (size n) = record { rows = s.rows; over = s.over; result = s.result; arguments = s.arguments; variadic = s.variadic; frames = s.frames; base = s.base; hand = s.hand; empty = s.empty; sizes = s.sizes ++ (clamped n ∷ []) }
move l s item =
    let m = raised s.sizes (take_up s.over s.rows s.hand) in
    let p = lay m.number s.frames s.arguments in
    record { rows = m.rows; over = m.over; result = s.result; arguments = p.1; variadic = s.variadic; frames = p.0; base = s.base; hand = code s.base; empty = false; sizes = [] }
move l s result =
    let m = giving s.empty s.over s.rows s.hand in
    record { rows = m.rows; over = m.over; result = m.number; arguments = s.arguments; variadic = s.variadic; frames = s.frames; base = s.base; hand = code s.base; empty = false; sizes = [] }
move l s variadic = record { rows = s.rows; over = s.over; result = s.result; arguments = s.arguments; variadic = single s.frames s.variadic; frames = s.frames; base = s.base; hand = s.hand; empty = s.empty; sizes = s.sizes }

abbrev pub moves : ℕ → Store → List Event → Store
moves l s [] = s
moves l s (e ∷ es) = moves l (move l s e) es

abbrev pub vacant : Store
vacant = record { rows = []; over = false; result = 255; arguments = []; variadic = false; frames = []; base = 3; hand = code 3; empty = false; sizes = [] }

abbrev pub written_by : ℕ → List Row → Store → List ℕ
written_by bit rows s =
    (75 ∷ 67 ∷ 66 ∷ 1 ∷ 0 ∷ length rows ∷ flags_of bit s.variadic ∷ length s.arguments ∷ length s.arguments ∷ s.result ∷ members_in rows ∷ [])
    ++ (records_in 0 rows ++ (runs_in rows ++ s.arguments))

-- the description that the numbers say
abbrev pub written : ℕ → Store → List ℕ
written bit s = written_by bit (back s.rows s.hand) s

-- "Over 64 types, 64 arguments or 255 members is 4"
abbrev pub too_much : Store → Bool
too_much s = mark s.over s.hand || ltb 64 (length s.arguments)
