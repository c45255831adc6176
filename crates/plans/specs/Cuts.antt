-- The plan of a description: the moves of its arguments, neighbours joined, by kind; the _Bool arguments; the returned value. Assumes nothing: these are
-- definitions.
use Rattle.std.specs.Prelude.{Bool, cond, not, ◌&&◌, List, [], ◌∷◌, ◌++◌, ℕ, zero, suc, ◌+◌, ◌*◌, ◌-◌, min, eqb, length}
use Rattle.description.specs.declared.Model.{Model}
use Rattle.description.specs.declared.Model.TheVariants.{Lp64, Ilp32}
use Rattle.description.specs.Description.{arguments_in, argument_at, model_in, return_in}
use Rattle.places.specs.declared.Register.{Register}
use Rattle.places.specs.declared.Register.TheVariants.{General, Vector, Upper, Wide}
use Rattle.places.specs.declared.Used.{Used}
use Rattle.places.specs.Shapes.{Shape}
use Rattle.places.specs.Places.{Place, in_registers, on_stack, eights as eightbytes, place, next}
use Rattle.places.specs.Images.{stack_at, address_of}
use Rattle.layout.specs.Arguments.{shapes, hidden, is_void, return_place, used_first, used_at, area_of}
use Rattle.layout.specs.Layout.{values_of}
use Rattle.layout.specs.Arguments.{value_start}
use Rattle.moving.specs.Orders.{is_bool}
use Rattle.returning.specs.declared.return_image.Part.{Part}
use Rattle.returning.specs.Moved.{parts_of}
use Rattle.returning.specs.Returned.{return_length}
use Rattle.plans.specs.Moves.{Move}

-- ---- the moves of one argument

-- so many bytes of an image, from its byte `begin` on
pub record Span : Type 0 where
  pub begin : ℕ
  pub room : ℕ

-- where a register lies in the images: a wide one in two of them, "Bytes 16 to 31 stand in a second lent image"
abbrev pub spans_of : Register → List Span
spans_of (General n) = record { begin = address_of (General n); room = 8 } ∷ []
spans_of (Vector n) = record { begin = address_of (Vector n); room = 8 } ∷ []
spans_of (Upper n) = record { begin = address_of (Upper n); room = 8 } ∷ []
spans_of (Wide n) = record { begin = address_of (Wide n); room = 16 } ∷ record { begin = 176 + 16 * n.0; room = 16 } ∷ []

abbrev pub spans : List Register → List Span
spans [] = []
spans (r ∷ rs) = spans_of r ++ spans rs

-- n bytes of the values, from their byte k on, span after span
abbrev pub pieces : ℕ → List Span → ℕ → List Move
pieces k [] n = []
pieces k (b ∷ bs) n = record { source = k; target = b.begin; count = min n b.room } ∷ pieces (k + b.room) bs (n - b.room)

-- of an argument at its place
abbrev pub cut_one : ℕ → Place → ℕ → List Move
cut_one k (in_registers rs) n = pieces k (spans rs) n
cut_one k (on_stack o) n = record { source = k; target = stack_at + o; count = n } ∷ []

-- argument after argument
abbrev pub cut : Used → ℕ → List Shape → List Move
cut u k [] = []
cut u k (s ∷ ss) = cut_one k (place eightbytes u s) s.size ++ cut (next eightbytes u s) (k + s.size) ss

-- ---- joined

-- a move and one behind it are one, where both its source and its target go on
abbrev pub adjoin : Move → Move → Bool
adjoin m n = eqb (m.source + m.count) n.source && eqb (m.target + m.count) n.target

abbrev pub longer : Move → Move → Move
longer m n = record { source = m.source; target = m.target; count = m.count + n.count }

abbrev pub join_from : Move → List Move → List Move
join_from m [] = m ∷ []
join_from m (n ∷ ns) = cond (adjoin m n) (join_from (longer m n) ns) (m ∷ join_from n ns)

abbrev pub joined : List Move → List Move
joined [] = []
joined (m ∷ ms) = join_from m ms

-- ---- by kind

abbrev pub select : (Move → Bool) → List Move → List Move
select f [] = []
select f (m ∷ ms) = cond (f m) (m ∷ select f ms) (select f ms)

abbrev pub is_long : ℕ → Move → Bool
is_long n m = eqb m.count n

-- sixteen bytes are two eights
abbrev pub low : Move → Move
low m = record { source = m.source; target = m.target; count = 8 }

abbrev pub high : Move → Move
high m = record { source = m.source + 8; target = m.target + 8; count = 8 }

abbrev pub halved : List Move → List Move
halved [] = []
halved (m ∷ ms) = cond (is_long 16 m) (low m ∷ high m ∷ halved ms) (m ∷ halved ms)

unfoldable pub moves_of : List ℕ → List Move
moves_of d = halved (joined (cut (used_first d) 0 (shapes d)))

abbrev pub eights : List Move → List Move
eights ms = select (is_long 8) ms

abbrev pub others : List Move → List Move
others ms = select (λ m. not (is_long 8 m)) ms

abbrev pub fours : List Move → List Move
fours ms = select (is_long 4) (others ms)

abbrev pub parts : List Move → List Move
parts ms = select (λ m. not (is_long 4 m)) (others ms)

-- where the _Bool arguments among n from the i-th on begin
unfoldable pub bools_from : List ℕ → ℕ → ℕ → List ℕ
bools_from d i zero = []
bools_from d i (suc n) = cond (is_bool d (argument_at d i)) (value_start d i ∷ bools_from d (i + 1) n) (bools_from d (i + 1) n)

-- ---- as numbers

-- moves whose length the list says, and moves that say it
abbrev pub twos : List Move → List ℕ
twos [] = []
twos (m ∷ ms) = m.source ∷ m.target ∷ twos ms

abbrev pub threes : List Move → List ℕ
threes [] = []
threes (m ∷ ms) = m.source ∷ m.target ∷ m.count ∷ threes ms

-- what the lists follow, their lengths apart
pub record Head : Type 0 where
  pub values : ℕ
  pub area : ℕ
  pub vectors : ℕ
  pub address : ℕ
  pub returned : ℕ
  pub bool : ℕ
  pub first : Move
  pub second : Move

abbrev pub written : Head → List Move → List Move → List Move → List ℕ → List ℕ
written h es fs ps bs =
    h.values ∷ h.area ∷ h.vectors ∷ h.address ∷ length es ∷ length fs ∷ length ps ∷ length bs
    ∷ h.returned ∷ h.bool ∷ h.first.source ∷ h.first.target ∷ h.first.count ∷ h.second.source ∷ h.second.target ∷ h.second.count
    ∷ (twos es ++ (twos fs ++ (threes ps ++ bs)))

-- ---- of a description

-- "27 .. a hidden address in use of 2^32 or more", in ILP32 alone
abbrev pub address_kind : Model → ℕ
address_kind Lp64 = 1
address_kind Ilp32 = 2

-- a part of the returned value is a move
abbrev pub move_of : Part → Move
move_of p = record { source = p.from.0; target = p.to.0; count = p.count.0 }

unfoldable pub head_of : List ℕ → Head
head_of d = record {
  values = values_of d;
  area = area_of d;
  vectors = (used_at d (arguments_in d)).vector.0;
  address = cond (hidden d) (address_kind (model_in d)) 0;
  returned = return_length d;
  bool = cond (not (is_void d) && is_bool d (return_in d)) 1 0;
  first = move_of (parts_of (return_place d) (return_length d)).low;
  second = move_of (parts_of (return_place d) (return_length d)).high;
}

unfoldable pub plan_of : List ℕ → List ℕ
plan_of d = written (head_of d) (eights (moves_of d)) (fours (moves_of d)) (parts (moves_of d)) (bools_from d 0 (arguments_in d))
