-- Numbers in a room are the numbers without bounds, where these fit. Assumes nothing: these are definitions.
use Rattle.std.specs.Prelude.{◌≡◌, Bool, false, List, [], ◌∷◌, ℕ, ◌≤◌, length, take}
use Rattle.collecting.specs.Rows.{Row, beyond}
use Rattle.collecting.specs.Count.{Hand, Open, State}
use Rattle.collecting.specs.Count as count
use Rattle.collecting.specs.Bounded.{Grip, code, held, Pending, Store, mark}

-- the first m rows: the mark says whether they are too many, and where it does not stand they are the same
pub record Fits (N Q : List Row) (m : ℕ) (over : Bool) : Type 0 where
  pub says : over ≡ beyond (take m N)
  pub same : over ≡ false → take m Q ≡ take m N

-- what an open group had before it and has
pub record Framed (f : Open) (g : Pending) (m : ℕ) (over : Bool) : Type 0 where
  pub union : g.union ≡ f.union
  pub kept : g.kept ≡ f.kept
  pub members : over ≡ false → g.members ≡ f.members
  pub low : f.before ≤ m
  pub before : g.over ≡ false → g.before ≡ f.before

-- the open groups, of which the innermost follows the first m rows
unfoldable pub Levels : List Row → List Row → ℕ → Bool → List Open → List Pending → (Bool → Type 0) → Type 0
Levels N Q m over [] [] P = Fits N Q m over × P over
Levels N Q m over [] (g ∷ gs) P = ⊥
Levels N Q m over (f ∷ fs) [] P = ⊥
Levels N Q m over (f ∷ fs) (g ∷ gs) P = Fits N Q m over × (Framed f g m over × Levels N Q f.before g.over fs gs P)

-- the rows before the type in hand
abbrev pub room : List Row → Hand → ℕ
room rows (count.code c) = length rows
room rows (count.held k m) = m

unfoldable pub Alike : Bool → Hand → Grip → Type 0
Alike over (count.code c) (code d) = d ≡ c
Alike over (count.code c) (held k m o) = ⊥
Alike over (count.held j n) (code d) = ⊥
Alike over (count.held j n) (held k m o) = (over ≡ false → k ≡ j) × (o ≡ false → m ≡ n)

-- the result's and the arguments' numbers
pub record Used (j k : ℕ) (js ks : List ℕ) (over : Bool) : Type 0 where
  pub result : over ≡ false → k ≡ j
  pub arguments : over ≡ false → ks ≡ js

pub record Near (n : State) (b : Store) : Type 0 where
  pub says : b.over ≡ beyond n.rows
  pub rows : b.over ≡ false → b.rows ≡ n.rows
  pub many : length b.arguments ≡ length n.arguments
  pub low : room n.rows n.hand ≤ length n.rows
  pub hand : Alike b.over n.hand b.hand
  pub levels : Levels n.rows b.rows (room n.rows n.hand) (mark b.over b.hand) n.frames b.frames (Used n.result b.result n.arguments b.arguments)
  pub variadic : b.variadic ≡ n.variadic
  pub base : b.base ≡ n.base
  pub empty : b.empty ≡ n.empty
  pub sizes : b.sizes ≡ n.sizes
