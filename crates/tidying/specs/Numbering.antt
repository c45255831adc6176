-- Which types a call reaches, and in which order: request 2026-03, "only types reached from return and arguments, equal ones once,
-- numbered as each is first completed going depth-first through return, then arguments". Assumes nothing: these are definitions.
use Rattle.std.specs.Prelude.{cond, List, [], ◌∷◌, ◌++◌, ℕ, suc, ltb, length}
use Rattle.types.specs.Tree.{Ty, Tys, basic, array, struct, union, none, more}
use Rattle.tidying.specs.Same.{same_ty}
use Rattle.tidying.specs.Call.{Returned, void, returned, Call}

-- the number of a type in a table, or the table's length where it is not there
unfoldable pub index_of : List Ty → Ty → ℕ
index_of [] t = 0
index_of (s ∷ table) t = cond (same_ty s t) 0 (suc (index_of table t))

-- "equal ones once": a type whose parts are all there is completed
unfoldable pub completed : List Ty → Ty → List Ty
completed table t = cond (ltb (index_of table t) (length table)) table (table ++ t ∷ [])

-- "depth-first": first its parts, in their order, and then the type
unfoldable mutual
  pub reached : List Ty → Ty → List Ty
  reached table (basic c) = completed table (basic c)
  reached table (array t n) = completed (reached table t) (array t n)
  reached table (struct ts) = completed (reached_all table ts) (struct ts)
  reached table (union ts) = completed (reached_all table ts) (union ts)

  pub reached_all : List Ty → Tys → List Ty
  reached_all table none = table
  reached_all table (more t ts) = reached_all (reached table t) ts

-- "through return, then arguments"
unfoldable pub reached_by : List Ty → Returned → List Ty
reached_by table void = table
reached_by table (returned t) = reached table t

unfoldable pub reached_from : List Ty → List Ty → List Ty
reached_from table [] = table
reached_from table (t ∷ ts) = reached_from (reached table t) ts

-- the types of a call, in the order of their numbers
unfoldable pub table_of : Call → List Ty
table_of c = reached_from (reached_by [] c.returns) c.arguments
