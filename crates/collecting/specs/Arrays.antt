-- Rows as code holds them: their kinds, second bytes and counts, and the members of all of them, one run behind the other. Assumes nothing:
-- these are definitions.
use Rattle.std.specs.Prelude.{◌≡◌, true, false, Option, None, Some, cond, List, [], ◌∷◌, ◌++◌, ℕ, zero, suc, ◌+◌, ◌≤◌, ◌<◌, eqb, length, get_or, take, drop}
use Rattle.collecting.specs.Rows.{Row, basic_row, array_row, group_row, members_in}
use Rattle.collecting.specs.Bounded.{Kept}

-- kind, second byte, count, and the members where it is a group
unfoldable pub row_by : ℕ → ℕ → ℕ → List ℕ → Row
row_by kind second count run = cond (eqb kind 0) (basic_row second) (cond (eqb kind 1) (array_row second count) (group_row (eqb kind 3) run))

abbrev pub row_at : List ℕ → List ℕ → List ℕ → List ℕ → ℕ → Row
row_at kinds seconds counts members k = row_by (get_or kinds k 0) (get_or seconds k 0) (get_or counts k 0) (take (get_or counts k 0) (drop (get_or seconds k 0) members))

-- the first n rows
unfoldable pub rows_at : List ℕ → List ℕ → List ℕ → List ℕ → ℕ → List Row
rows_at kinds seconds counts members zero = []
rows_at kinds seconds counts members (suc n) = rows_at kinds seconds counts members n ++ row_at kinds seconds counts members n ∷ []

-- n rows stand in the arrays
pub record Held (kinds seconds counts members : List ℕ) (n : ℕ) : Type 0 where
  pub room_kinds : n ≤ length kinds
  pub room_seconds : n ≤ length seconds
  pub room_counts : n ≤ length counts
  pub low : (k : ℕ) → k < n → get_or kinds k 0 ≤ 3
  pub run : (k : ℕ) → k < n → 2 ≤ get_or kinds k 0 → get_or seconds k 0 + get_or counts k 0 ≤ length members

-- a row that is looked for
pub record Given (kind count : ℕ) (run : List ℕ) : Type 0 where
  pub low : kind ≤ 3
  pub many : 2 ≤ kind → count ≡ length run

-- a row that may be added: only a group has a run
pub record Offered (kind count : ℕ) (run : List ℕ) : Type 0 where
  pub given : Given kind count run
  pub none : kind ≤ 1 → run ≡ []
  pub short : length run ≤ 4096

-- n rows with m members in the room of 64 and 255: runs "in that order, without overlap or gaps"
pub record Standing (kinds seconds counts members : List ℕ) (n m : ℕ) : Type 0 where
  pub held : Held kinds seconds counts members n
  pub wide_kinds : 64 ≤ length kinds
  pub wide_seconds : 64 ≤ length seconds
  pub wide_counts : 64 ≤ length counts
  pub wide_members : 255 ≤ length members
  pub few : n ≤ 64
  pub fewer : m ≤ 255
  pub total : m ≡ members_in (rows_at kinds seconds counts members n)
  pub place : (k : ℕ) → k < n → 2 ≤ get_or kinds k 0 → get_or seconds k 0 ≡ members_in (rows_at kinds seconds counts members k)

-- what rows keep with the number of the type that was looked for, or none, where they are too many
abbrev pub kept_of : Option ℕ → List Row → Kept
kept_of None rows = record { rows = rows; over = true; number = 0 }
kept_of (Some number) rows = record { rows = rows; over = false; number = number }
