-- What the table of a call is sure of. Assumes nothing: these are definitions.
use Rattle.std.specs.Prelude.{◌≡◌, List, ℕ, ◌<◌, length, get_or}
use Rattle.std.specs.Coded.{×_prop, Unit-prop, le_prop}
use Rattle.types.specs.Tree.{Ty, Tys, basic, array, struct, union, none, more}
use Rattle.tidying.specs.Numbering.{index_of}

-- type k of a table
abbrev pub at : List Ty → ℕ → Ty
at table k = get_or table k (basic 0)

-- each of these members has a number below k
unfoldable pub AllBelow : List Ty → ℕ → Tys → Type 0
AllBelow table k none = Unit {0}
AllBelow table k (more t ts) = (index_of table t < k) × AllBelow table k ts

-- "Every element and member type has a lower number than its owner"
unfoldable pub Below : List Ty → ℕ → Ty → Type 0
Below table k (basic c) = Unit {0}
Below table k (array t n) = index_of table t < k
Below table k (struct ts) = AllBelow table k ts
Below table k (union ts) = AllBelow table k ts

-- of each of these facts there is at most one proof
pub AllBelow-prop : (table : List Ty) (k : ℕ) (ts : Tys) → IsProp (AllBelow table k ts)
unfolding AllBelow
AllBelow-prop table k none = Unit-prop
AllBelow-prop table k (more t ts) = ×_prop le_prop (AllBelow-prop table k ts)

pub Below-prop : (table : List Ty) (k : ℕ) (t : Ty) → IsProp (Below table k t)
unfolding Below
Below-prop table k (basic c) = Unit-prop
Below-prop table k (array t n) = le_prop
Below-prop table k (struct ts) = AllBelow-prop table k ts
Below-prop table k (union ts) = AllBelow-prop table k ts

-- parts before their owners, "equal ones once"
pub record Ordered (table : List Ty) : Type 0 where
  pub parts : (k : ℕ) → k < length table → Below table k (at table k)
  pub once : (k : ℕ) → k < length table → index_of table (at table k) ≡ k
