-- Numbers are the image of types written out. Assumes nothing: these are definitions.
use Rattle.std.specs.Prelude.{◌≡◌, List, [], ◌∷◌, map, ℕ, length}
use Rattle.types.specs.Tree.{Ty, basic, array, struct, union}
use Rattle.tidying.specs.Call.{Returned, returned, Call}
use Rattle.tidying.specs.Call as call
use Rattle.tidying.specs.Numbering.{index_of, reached, reached_by, reached_from}
use Rattle.tidying.specs.Tidy.{numbers_of, return_number}
use Rattle.grammar.specs.Grammar.{Event}
use Rattle.grammar.specs.Grammar as event
use Rattle.grammar.specs.Meaning.{Result, void, gives, Frame, Read, mean}
use Rattle.collecting.specs.Rows.{Row, basic_row, array_row, struct_row, union_row}
use Rattle.collecting.specs.Count.{Hand, code, held, Open, State, flags_of}

-- the row of a type whose parts are in the table
abbrev pub row_of : List Ty → Ty → Row
row_of table (basic c) = basic_row c
row_of table (array t n) = array_row (index_of table t) n
row_of table (struct ts) = struct_row (numbers_of table ts)
row_of table (union ts) = union_row (numbers_of table ts)

unfoldable pub rows_of : List Ty → List Ty → List Row
rows_of table [] = []
rows_of table (t ∷ ts) = row_of table t ∷ rows_of table ts

abbrev pub image : List Ty → List Row
image table = rows_of table table

abbrev pub returned_of : Result → Returned
returned_of void = call.void
returned_of (gives t) = returned t

-- the call that was read
abbrev pub call_from : ℕ → Read → Call
call_from bit s = record { flags = flags_of bit s.variadic; named = length s.arguments; returns = returned_of s.result; arguments = s.arguments }

-- the types of the result and the arguments
abbrev pub outside : Read → List Ty
outside s = reached_from (reached_by [] (returned_of s.result)) s.arguments

-- and of the members of open groups, the outermost first
unfoldable pub under : List Ty → List Frame → List Ty
under table [] = table
under table (f ∷ fs) = reached_from (under table fs) f.members

unfoldable pub Frames : List Ty → List Frame → List Open → Type 0
Frames table [] [] = Unit {0}
Frames table [] (g ∷ gs) = ⊥
Frames table (f ∷ fs) [] = ⊥
Frames table (f ∷ fs) (g ∷ gs) =
    ((g.union ≡ f.union) × (f.kept ≡ basic g.kept))
    × (((g.before ≡ length (under table fs)) × (g.members ≡ map (index_of (under table (f ∷ fs))) f.members)) × Frames table fs gs)

-- a basic type in hand is not in the table yet; a group in hand is, with all its parts, behind the table before it
unfoldable pub InHand : List Ty → Ty → List Row → Hand → Type 0
InHand table t rows (code c) = (t ≡ basic c) × (rows ≡ image table)
InHand table t rows (held k m) = (m ≡ length table) × ((k ≡ index_of (reached table t) t) × (rows ≡ image (reached table t)))

pub record Image (s : Read) (n : State) : Type 0 where
  pub result : n.result ≡ return_number (outside s) (returned_of s.result)
  pub arguments : n.arguments ≡ map (index_of (outside s)) s.arguments
  pub variadic : n.variadic ≡ s.variadic
  pub frames : Frames (outside s) s.frames n.frames
  pub base : s.base ≡ basic n.base
  pub hand : InHand (under (outside s) s.frames) s.read n.rows n.hand
  pub empty : n.empty ≡ s.empty
  pub sizes : n.sizes ≡ s.sizes

-- a result is the first thing that is used, and it is no member
abbrev pub Timely : Read → Event → Type 0
Timely s event.result = (s.frames ≡ []) × ((s.arguments ≡ []) × (s.result ≡ void))
Timely s (event.basic c) = Unit {0}
Timely s event.long = Unit {0}
Timely s event.pointer = Unit {0}
Timely s event.nothing = Unit {0}
Timely s (event.opened u) = Unit {0}
Timely s event.close = Unit {0}
Timely s (event.size n) = Unit {0}
Timely s event.item = Unit {0}
Timely s event.variadic = Unit {0}

unfoldable pub AllTimely : ℕ → Read → List Event → Type 0
AllTimely l s [] = Unit {0}
AllTimely l s (e ∷ es) = Timely s e × AllTimely l (mean l s e) es
