-- The tidy bytes of a call: request 2026-03. Assumes nothing: these are definitions.
use Rattle.std.specs.Prelude.{List, [], ◌∷◌, ◌++◌, map, ℕ, suc, ◌+◌, ◌/◌, ◌%◌, length, take}
use Rattle.types.specs.Tree.{Ty, Tys, basic, array, struct, union, none, more}
use Rattle.tidying.specs.Call.{Returned, void, returned, Call}
use Rattle.tidying.specs.Numbering.{index_of, table_of}

-- the members of a struct or a union
abbrev pub members_of : Ty → Tys
members_of (basic c) = none
members_of (array t n) = none
members_of (struct ts) = ts
members_of (union ts) = ts

abbrev pub many_of : Tys → ℕ
many_of none = 0
many_of (more t ts) = suc (many_of ts)

-- the members of these types, "without overlap or gaps"
unfoldable pub separate : List Ty → ℕ
separate [] = 0
separate (t ∷ ts) = many_of (members_of t) + separate ts

-- where the run of type k begins
abbrev pub start_of : List Ty → ℕ → ℕ
start_of l k = separate (take k l)

-- "A type record is kind, a, count (16 bits, little-endian)": of a type with its run, if it has one, from place m on
abbrev pub kind_of : Ty → ℕ
kind_of (basic c) = 0
kind_of (array t n) = 1
kind_of (struct ts) = 2
kind_of (union ts) = 3

abbrev pub second_of : List Ty → ℕ → Ty → ℕ
second_of table m (basic c) = c
second_of table m (array t n) = index_of table t
second_of table m (struct ts) = m
second_of table m (union ts) = m

abbrev pub count_of : Ty → ℕ
count_of (basic c) = 0
count_of (array t n) = n
count_of (struct ts) = many_of ts
count_of (union ts) = many_of ts

-- "member runs in that order, without overlap or gaps"
unfoldable pub records_of : List Ty → ℕ → List Ty → List ℕ
records_of table m [] = []
records_of table m (t ∷ ts) = kind_of t ∷ second_of table m t ∷ (count_of t % 256) ∷ (count_of t / 256) ∷ records_of table (m + many_of (members_of t)) ts

unfoldable pub numbers_of : List Ty → Tys → List ℕ
numbers_of table none = []
numbers_of table (more t ts) = index_of table t ∷ numbers_of table ts

unfoldable pub runs_of : List Ty → List Ty → List ℕ
runs_of table [] = []
runs_of table (t ∷ ts) = numbers_of table (members_of t) ++ runs_of table ts

abbrev pub return_number : List Ty → Returned → ℕ
return_number table void = 255
return_number table (returned t) = index_of table t

abbrev pub head_of : List Ty → Call → List ℕ
head_of table c = 75 ∷ 67 ∷ 66 ∷ 1 ∷ 0 ∷ length table ∷ c.flags ∷ c.named ∷ length c.arguments ∷ return_number table c.returns ∷ separate table ∷ []

-- the bytes, where this is the table of the call
unfoldable pub tidy_by : List Ty → Call → List ℕ
tidy_by table c = head_of table c ++ (records_of table 0 table ++ (runs_of table table ++ map (index_of table) c.arguments))

unfoldable pub tidy_of : Call → List ℕ
tidy_of c = tidy_by (table_of c) c
