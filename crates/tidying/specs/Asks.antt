-- What the functions that number types ask and leave: `new` has the number of each type of the description, 255 where it has none yet,
-- and `old` the type of each number. Assumes nothing: these are definitions.
use Rattle.std.specs.Prelude.{◌≡◌, Bool, cond, List, [], ◌∷◌, ◌++◌, ℕ, zero, suc, ◌+◌, ◌≤◌, ◌<◌, eqb, ltb, length, get_or, take}
use Rattle.description.specs.Description.{types_in, members_in, arguments_in, argument_at, return_in, kind_at, a_at, count_at, member_at, Whole}
use Rattle.types.specs.Tree.{Ty}
use Rattle.types.specs.Decode.{ty_at}
use Rattle.uses.specs.Uses.{uses_refusal}
use Rattle.tidying.specs.Numbering.{index_of, completed, reached, table_of}
use Rattle.tidying.specs.Call.{call_of}
use Rattle.tidying.specs.Ordered.{Ordered}

-- type k has a number
abbrev pub Has : List ℕ → ℕ → Type 0
Has new k = get_or new k 0 ≡ 255 → ⊥

-- the types that the first n of these numbers name
unfoldable pub tabled : List ℕ → List ℕ → ℕ → List Ty
tabled d old zero = []
tabled d old (suc n) = tabled d old n ++ ty_at d (get_or old n 0) ∷ []

-- each part of type k has a number
pub record Parts (d new : List ℕ) (k : ℕ) : Type 0 where
  pub element : kind_at d k ≡ 1 → Has new (a_at d k)
  pub member : 2 ≤ kind_at d k → (i : ℕ) → a_at d k ≤ i → i < a_at d k + count_at d k → Has new (member_at d i)

-- equal numbers: equal types
pub record Apart (d new : List ℕ) : Type 0 where
  pub same : (i j : ℕ) → i < types_in d → j < types_in d → Has new i → Has new j → get_or new i 0 ≡ get_or new j 0 → ty_at d i ≡ ty_at d j
  pub equal : (i j : ℕ) → i < types_in d → j < types_in d → Has new i → Has new j → ty_at d i ≡ ty_at d j → get_or new i 0 ≡ get_or new j 0

-- n types are numbered: "equal ones once, numbered as each is first completed"
pub record Numbers (d new old : List ℕ) (n : ℕ) : Type 0 where
  pub right : uses_refusal d ≡ 0
  pub wide : length new ≡ 64
  pub room : length old ≡ 64
  pub ordered : Ordered (tabled d old n)
  pub olds : (j : ℕ) → j < n → get_or old j 0 < types_in d
  pub done : (j : ℕ) → j < n → Has new (get_or old j 0)
  pub news : (k : ℕ) → k < types_in d → Has new k → (get_or new k 0 ≡ index_of (tabled d old n) (ty_at d k)) × (index_of (tabled d old n) (ty_at d k) < n)
  pub parts : (k : ℕ) → k < types_in d → Has new k → Parts d new k

-- two runs of numbered members
pub record AskRuns (d new : List ℕ) (x y left : ℕ) : Type 0 where
  pub whole : Whole d
  pub few : types_in d ≤ 64
  pub apart : Apart d new
  pub one : x + left ≤ members_in d
  pub other : y + left ≤ members_in d
  pub below : (i : ℕ) → i < left → (member_at d (x + i) < types_in d) × (member_at d (y + i) < types_in d)
  pub have : (i : ℕ) → i < left → Has new (member_at d (x + i)) × Has new (member_at d (y + i))

-- two types whose parts are numbered
pub record AskSame (d new : List ℕ) (j k : ℕ) : Type 0 where
  pub right : uses_refusal d ≡ 0
  pub apart : Apart d new
  pub one : j < types_in d
  pub other : k < types_in d
  pub ones : Parts d new j
  pub others : Parts d new k

-- type k is to be completed
pub record Completable (d new : List ℕ) (k : ℕ) : Type 0 where
  pub known : k < types_in d
  pub parts : Parts d new k
  pub blank : get_or new k 0 ≡ 255

-- from part r of type k it goes on: r is its first part without a number
pub record Onward (d new : List ℕ) (k r : ℕ) : Type 0 where
  pub low : r < k
  pub blank : get_or new r 0 ≡ 255
  pub some : 1 ≤ kind_at d k
  pub element : kind_at d k ≡ 1 → r ≡ a_at d k
  pub place : ℕ
  pub member : 2 ≤ kind_at d k → (a_at d k ≤ place) × ((place < a_at d k + count_at d k) × (r ≡ member_at d place))
  pub before : 2 ≤ kind_at d k → (i : ℕ) → a_at d k ≤ i → i < place → Has new (member_at d i)

-- the member in place i has no number
abbrev pub unnumbered : List ℕ → List ℕ → ℕ → Bool
unnumbered d new i = eqb (get_or new (member_at d i) 0) 255

-- members to be looked at
pub record AskMembers (d : List ℕ) (first count : ℕ) : Type 0 where
  pub whole : Whole d
  pub fits : first + count ≤ members_in d
  pub below : (i : ℕ) → first ≤ i → i < first + count → member_at d i < 64

-- a type without a number
pub record AskNew (d new : List ℕ) (k : ℕ) : Type 0 where
  pub right : uses_refusal d ≡ 0
  pub known : k < types_in d
  pub blank : get_or new k 0 ≡ 255

-- r is completed first on the way to k
pub record Lowest (d new : List ℕ) (k r : ℕ) : Type 0 where
  pub ready : Completable d new r
  pub first : (old : List ℕ) (n : ℕ) → Numbers d new old n → reached (tabled d old n) (ty_at d k) ≡ reached (completed (tabled d old n) (ty_at d r)) (ty_at d k)

-- the types without a number
unfoldable pub blanks : List ℕ → ℕ
blanks [] = 0
blanks (x ∷ l) = cond (eqb x 255) 1 0 + blanks l

-- what numbering type k leaves, where these are its types
pub record Numbered (d : List ℕ) (k : ℕ) (new₀ new old : List ℕ) (n : ℕ) (table : List Ty) : Type 0 where
  pub is : tabled d old n ≡ table
  pub has : Has new k
  pub kept : (i : ℕ) → Has new₀ i → Has new i

-- all types of the call
pub record AllNumbered (d new old : List ℕ) (n : ℕ) : Type 0 where
  pub numbers : Numbers d new old n
  pub is : tabled d old n ≡ table_of (call_of d)
  pub returns : (return_in d ≡ 255 → ⊥) → Has new (return_in d)
  pub arguments : (i : ℕ) → i < arguments_in d → Has new (argument_at d i)

-- the first `from` bytes of these are written
pub record Written (bytes : List ℕ) (from : ℕ) (out : List ℕ) : Type 0 where
  pub size : length out ≡ length bytes
  pub same : take from out ≡ take from bytes

-- the members of type k: none where it has no run
unfoldable pub run_length : List ℕ → ℕ → ℕ
run_length d k = cond (ltb (kind_at d k) 2) 0 (count_at d k)

-- these bytes stand in the others from this place on
pub record Stands (bytes part : List ℕ) (from : ℕ) : Type 0 where
  pub room : from + length part ≤ length bytes
  pub same : (i : ℕ) → i < length part → get_or part i 0 ≡ get_or bytes (from + i) 0

-- `count` members from place `first` on are types
pub record AskRun (d : List ℕ) (first count : ℕ) : Type 0 where
  pub whole : Whole d
  pub fits : (i : ℕ) → i < count → first + i < members_in d
  pub below : (i : ℕ) → i < count → member_at d (first + i) < 64

-- the second byte of the record of type k, whose run, if it has one, begins at place m
unfoldable pub second_at : List ℕ → List ℕ → ℕ → ℕ → ℕ
second_at d new k m = cond (ltb 1 (kind_at d k)) m (cond (eqb (kind_at d k) 0) (a_at d k) (get_or new (a_at d k) 0))
